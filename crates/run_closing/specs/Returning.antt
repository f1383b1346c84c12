-- What comes back from the threads of a run. The letters: a run of script s.
use Rattle.std.specs.Prelude.{◌≡◌, ℕ, ◌+◌, ◌<◌, ◌≤◌, true, List, [], ◌++◌, length, map, count_by, All}
use Rattle.std.specs.List.{AllPairs}
use Rattle.hb_base.specs.Numbers.{Numbers}
use Rattle.hb_base.specs.NodeSet.{is_in}
use Rattle.hb_base.specs.Limits.{most_lies}
use Rattle.net_script.specs.declared.script.Script.{Script}
use Rattle.hb_rules.specs.declared.report.End.{End}
use Rattle.hb_rules.specs.Book.{SeatView}
use Rattle.post_book.specs.Numbering.{seat_number}
use Rattle.post_book.specs.SharedSeats.{FirstView}
use Rattle.step_driver.specs.Places.{PlayerView, Name}
use Rattle.step_driver.specs.Delivering.{IsPlayer, is_from}
use Rattle.step_driver.specs.Running.{end_view, end_at, IsKept}
use Rattle.last_deliveries.specs.Settling.{IsSettled}
use Rattle.ledger_run.specs.Team.{names_below}
use Rattle.run_closing.specs.Joining.{number_at}

-- ---- what came back

-- an actor of a correct node has come back
pub record IsBack (s : Script) (p : PlayerView) : Type 0 where
  pub config : p.seat.config ≡ s.config
  pub node : p.seat.node < s.config.n
  pub actor : p.seat.actor ≤ s.config.n
  pub player : IsPlayer s.config s true p

-- the seat of a node that lies has come back
pub record IsLiarBack (s : Script) (seat : SeatView) : Type 0 where
  pub config : seat.config ≡ s.config
  pub node : seat.node < s.config.n
  pub lies : is_in s.config.liars seat.node ≡ true
  pub actor : seat.actor ≡ 255
  pub few : count_by (is_from seat.node) seat.seen ≤ most_lies

-- two actors in the order of their seats' numbers, which is that of the nodes, and at a node that of its actors
abbrev pub IsNotAfter : PlayerView → PlayerView → Type 0
IsNotAfter p q = number_at p.seat ≤ number_at q.seat

-- Actors in order, and seats of nodes that lie, have come back, as many as the run has places, and nothing is left to deliver.
-- Which they are is not told: so far one might be here twice, and another be missing.
pub record HaveReturned (s : Script) (m : ℕ) (players : List PlayerView) (liars : List SeatView) : Type 0 where
  pub actors : All (IsBack s) players
  pub seats : All (IsLiarBack s) liars
  pub in_order : AllPairs IsNotAfter players
  pub count : length players + length liars ≡ length (names_below s.config s.config.n)
  pub settled : IsSettled s players liars m

-- the seats of all that came back, the liars' last
abbrev pub seats_of : List PlayerView → List SeatView → List SeatView
seats_of players liars = map (λ p. p.seat) players ++ liars

-- ---- the first seat

-- the number of the seat of a place
abbrev pub number_of : Name → ℕ
number_of name = seat_number name.node name.actor

-- the first seat of a run has made a seat for each place, in their order, and has seen nothing and taken in none
pub record HasSeated (c : Numbers) (first : FirstView) : Type 0 where
  pub seen : first.seen ≡ []
  pub given : first.given ≡ map number_of (names_below c c.n)
  pub joined : first.joined ≡ []

-- ---- the ends

-- the ends of actors, in the same order, each of which tells of itself what it has to
pub record AreEndsOf (players : List PlayerView) (ends : List End) : Type 0 where
  pub same : map end_view ends ≡ map end_at players
  pub kept : All IsKept players
