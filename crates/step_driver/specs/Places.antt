-- The places to which posts are delivered, as contracts see them.
use Rattle.std.specs.Prelude.{ℕ, ◌+◌, Bool, true, false, List, map, if◌then◌else◌}
use Rattle.hb_base.specs.Numbers.{Numbers}
use Rattle.hb_wire.specs.declared.post.Post.{Post}
use Rattle.hb_rules.specs.Book.{SeatView}
use Rattle.hb_rules.specs.Actor.{ActorView}
use Rattle.hb_rules.specs.declared.report.Fate.{Fate}
use Rattle.step_driver.specs.declared.player.Player.{Player}
use Rattle.step_driver.specs.declared.hired.Hired.{Hired}
use Rattle.step_driver.specs.declared.place.Place.{Place}
use Rattle.step_driver.specs.declared.place.Place.TheVariants.{Correct, Lying}

-- an actor of a correct node: its seat, what is known of it, and its fate
pub record PlayerView : Type 0 where
  pub seat : SeatView
  pub view : ActorView
  pub fate : Fate

-- a node that lies: its seat, and how many lies were posted under it
pub record HiredView : Type 0 where
  pub seat : SeatView
  pub said : ℕ

pub data Spot : Type 0 where
  correct : PlayerView → Spot
  lying : HiredView → Spot

abbrev pub player_view : {A : Type 0} → (A → SeatView) → (A → ActorView) → Player A → PlayerView
player_view seat view player = record { seat = seat player.actor; view = view player.actor; fate = player.fate }

-- what is known of a seat of any kind of book
abbrev pub seat_at : {S : Type 0} → (S → Numbers) → (S → ℕ) → (S → ℕ) → (S → List Post) → S → SeatView
seat_at config node actor seen seat = record { config = config seat; node = node seat; actor = actor seat; seen = seen seat }

-- what is known of an actor over any kind of book, by its seat there, beside its fate
abbrev pub player_at : {A S : Type 0} → (S → Numbers) → (S → ℕ) → (S → ℕ) → (S → List Post) → (A → S) → (A → ActorView) → A → Fate → PlayerView
player_at config node actor seen seat view a fate = record { seat = seat_at config node actor seen (seat a); view = view a; fate = fate }

abbrev pub hired_view : {L : Type 0} → Hired L → HiredView
hired_view hired = record { seat = hired.seat; said = hired.said }

abbrev pub spot_of : {A L : Type 0} → (A → SeatView) → (A → ActorView) → Place A L → Spot
spot_of seat view (Correct player) = correct (player_view seat view player)
spot_of seat view (Lying hired) = lying (hired_view hired)

abbrev pub spots : {A L : Type 0} → (A → SeatView) → (A → ActorView) → List (Place A L) → List Spot
spots seat view places = map (spot_of seat view) places

abbrev pub seat_of : Spot → SeatView
seat_of (correct player) = player.seat
seat_of (lying hired) = hired.seat

-- whose place it is
pub record Name : Type 0 where
  pub node : ℕ
  pub actor : ℕ
  pub lies : Bool

abbrev pub name_of : Spot → Name
name_of (correct player) = record { node = player.seat.node; actor = player.seat.actor; lies = false }
name_of (lying hired) = record { node = hired.seat.node; actor = hired.seat.actor; lies = true }

abbrev pub names : List Spot → List Name
names all = map name_of all

-- how often an actor may still be switched on again
abbrev pub left : PlayerView → ℕ
left player = player.view.supply.stops + (if player.view.supply.off then 1 else 0)

abbrev pub left_at : Spot → ℕ
left_at (correct player) = left player
left_at (lying hired) = 0
