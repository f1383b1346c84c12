-- What a run on threads leaves. The letters: a run of script s.
use Rattle.std.specs.Prelude.{◌≡◌, ℕ, List}
use Rattle.net_script.specs.declared.script.Script.{Script}
use Rattle.hb_rules.specs.Book.{SeatView}
use Rattle.hb_rules.specs.declared.report.End.{End}
use Rattle.step_driver.specs.Places.{PlayerView}
use Rattle.run_closing.specs.Returning.{HaveReturned, seats_of, AreEndsOf}

-- These are the seats of all that came back, when nothing was left to deliver, and the ends of the actors among them.
pub record IsLeft (s : Script) (seats : List SeatView) (ends : List End) : Type 0 where
  pub posts : ℕ
  pub players : List PlayerView
  pub liars : List SeatView
  pub back : HaveReturned s posts players liars
  pub all_seats : seats ≡ seats_of players liars
  pub all_ends : AreEndsOf players ends
