-- The end of a run on threads.
use Rattle.std.specs.Prelude.{ℕ, List}
use Rattle.hb_base.specs.Numbers.{AreSound}
use Rattle.net_script.specs.declared.script.Script.{Script}
use Rattle.net_script.specs.Scenario.{told}
use Rattle.net_script.specs.Sound.{IsScenario}
use Rattle.hb_rules.specs.Book.{SeatView}
use Rattle.post_book.specs.SharedSeats.{FirstView}
use Rattle.step_driver.specs.Places.{PlayerView}
use Rattle.run_closing.specs.Returning.{HaveReturned, HasSeated}

-- The first seat of the book has made the seats of a run of script s, and its actors and its nodes that lie have come back.
pub record IsRunOut (s : Script) (m : ℕ) (players : List PlayerView) (liars : List SeatView) (first : FirstView) : Type 0 where
  pub scenario : IsScenario (told s)
  pub sound : AreSound s.config
  pub seated : HasSeated s.config first
  pub returned : HaveReturned s m players liars
