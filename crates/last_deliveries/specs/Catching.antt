-- What an actor lacks. The letters: a run of script s, actor x of node i.
use Rattle.std.specs.Prelude.{◌≡◌, ◌⊎◌, ◌<◌, ◌≤◌, ◌++◌, ◌∷◌, ℕ, Bool, not, ◌&&◌, ◌==◌, false, List, [], length, Contains, Some, slice_get, slice_index_or}
use Rattle.std.specs.List.{list_any}
use Rattle.hb_wire.specs.declared.post.Post.{Post}
use Rattle.net_script.specs.declared.script.Script.{Script}
use Rattle.hb_rules.specs.declared.report.Fate.TheVariants.{Running}
use Rattle.hb_rules.specs.Actor.{ActorView}
use Rattle.hb_rules.specs.Ledger.{IsPrefix}
use Rattle.hb_rules.specs.Report.{IsReceived}
use Rattle.step_driver.specs.Places.{PlayerView}
use Rattle.step_driver.specs.Playing.{comes_found}
use Rattle.actor_cell.specs.Turning.{IsShown}
use Rattle.last_deliveries.specs.Settling.{HasReceivedAll}

-- of so many posts, those with these numbers are marked
pub record AreMarked (got : List ℕ) (posts : ℕ) (marks : List Bool) : Type 0 where
  pub count : length marks ≡ posts
  pub each : (k : ℕ) → k < posts → slice_index_or marks k false ≡ list_any (λ m. m == k) got

-- whether post k comes to the actor, and is not marked
abbrev pub lacks : Script → List Post → List Bool → ℕ → ℕ → ℕ → Bool
lacks s posts marks i x k = not (slice_index_or marks k false) && comes_found s.config s (slice_get posts k) i x k

-- of these posts the first, up to a number, that come to an actor are among those that it got
abbrev pub HasReceivedTo : Script → List Post → ℕ → ℕ → ℕ → List ℕ → Type 0
HasReceivedTo s posts count i x got = (k : ℕ) → k < count → IsReceived s.config s posts i x k → Contains got k

-- an actor got each of these posts that comes to it, but for posts with these numbers
abbrev pub LacksNoOther : Script → List Post → ℕ → ℕ → List ℕ → List ℕ → Type 0
LacksNoOther s posts i x got numbers = (k : ℕ) → IsReceived s.config s posts i x k → Contains got k ⊎ Contains numbers k

-- an actor has received the first of these posts, up to a number, that come to it, if it works
abbrev pub HasHeardTo : Script → List Post → ℕ → PlayerView → Type 0
HasHeardTo s posts count p = p.fate ≡ Running → HasReceivedTo s posts count p.seat.node p.seat.actor p.view.got

-- one more post was received, and no restart came between
pub record HasTaken (k : ℕ) (old new : ActorView) : Type 0 where
  pub got : new.got ≡ old.got ++ k ∷ []
  pub restarts : new.restarts ≡ old.restarts

-- it has forgotten what it received
pub record WasRestarted (old new : ActorView) : Type 0 where
  pub got : new.got ≡ []
  pub restarts : old.restarts < new.restarts

-- an actor was shown more of the history, and nothing else happened to it
pub record HasLooked (old new : PlayerView) : Type 0 where
  pub shown : IsShown old new
  pub fate : new.fate ≡ old.fate

-- an actor that works has seen this many posts, another no more
pub record IsLevelWith (count : ℕ) (p : PlayerView) : Type 0 where
  pub few : length p.seat.seen ≤ count
  pub level : p.fate ≡ Running → length p.seat.seen ≡ count

-- an actor has seen no more posts than these, and if it works it has seen as many, and received each that comes to it
pub record IsCaughtUp (s : Script) (posts : List Post) (p : PlayerView) : Type 0 where
  pub few : length p.seat.seen ≤ length posts
  pub all : p.fate ≡ Running → HasReceivedAll s posts p

-- what the actor at a place has seen begins with these posts
abbrev pub HasReadFront : List Post → ℕ → List PlayerView → Type 0
HasReadFront posts place players = (p : PlayerView) → slice_get players place ≡ Some p → IsPrefix posts p.seat.seen

-- the actor at a place has seen these posts, and no more
pub record HasReadAt (posts : List Post) (place : ℕ) (players : List PlayerView) : Type 0 where
  pub player : PlayerView
  pub stands : slice_get players place ≡ Some player
  pub seen : player.seat.seen ≡ posts
