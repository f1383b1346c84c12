-- What the last deliveries of a run leave. The letters: a run of script s.
use Rattle.std.specs.Prelude.{◌≡◌, ◌⊎◌, ℕ, ◌≤◌, true, false, List, length, map, Contains, All}
use Rattle.hb_base.specs.Numbers.{Numbers}
use Rattle.hb_wire.specs.declared.post.Post.{Post}
use Rattle.net_script.specs.declared.script.Script.{Script}
use Rattle.hb_rules.specs.declared.report.Fate.TheVariants.{Running, Full}
use Rattle.hb_rules.specs.Actor.{ActorView}
use Rattle.hb_rules.specs.Book.{SeatView, Watched}
use Rattle.hb_rules.specs.Ledger.{IsPrefix}
use Rattle.hb_rules.specs.Report.{IsReceived, is_running_fate}
use Rattle.step_driver.specs.declared.player.Player.{Player}
use Rattle.step_driver.specs.Places.{PlayerView, seat_at}
use Rattle.step_driver.specs.Delivering.{IsPlayer}
use Rattle.actor_cell.specs.Held.{player_at}
use Rattle.actor_cell.specs.Turning.{IsSameSeat, KeepsTerms}

-- ---- actors and seats over any kind of book

-- what is known of an actor, by its seat there, beside its fate
abbrev pub player_of : {A S : Type 0} → (S → Numbers) → (S → ℕ) → (S → ℕ) → (S → List Post) → (A → S) → (A → ActorView) → Player A → PlayerView
player_of config node actor seen seat view player = player_at config node actor seen seat view player.actor player.fate

abbrev pub players_of : {A S : Type 0} → (S → Numbers) → (S → ℕ) → (S → ℕ) → (S → List Post) → (A → S) → (A → ActorView) → List (Player A) → List PlayerView
players_of config node actor seen seat view players = map (player_of config node actor seen seat view) players

-- what seats know
abbrev pub seats_at : {S : Type 0} → (S → Numbers) → (S → ℕ) → (S → ℕ) → (S → List Post) → List S → List SeatView
seats_at config node actor seen seats = map (seat_at config node actor seen) seats

-- ---- from before the deliveries to after them

-- an actor that was started, of this run: its seat is of the run's config, it goes by the script, and its fate has its cause
pub record IsOfRun (s : Script) (p : PlayerView) : Type 0 where
  pub config : p.seat.config ≡ s.config
  pub player : IsPlayer s.config s true p

-- An actor of the same seat, which has seen what it had seen and maybe more. To one that had ended nothing else happened.
pub record HasGoneOn (old new : PlayerView) : Type 0 where
  pub seat : IsSameSeat old new
  pub seen : IsPrefix old.seat.seen new.seat.seen
  pub keeps : KeepsTerms old.view new.view
  pub ended : is_running_fate old.fate ≡ false → (new.view ≡ old.view) × (new.fate ≡ old.fate)

-- what is known of an actor apart from its seat and its fate is as before
abbrev pub HasHeardNothing : PlayerView → PlayerView → Type 0
HasHeardNothing old new = new.view ≡ old.view

-- the same seat, which was shown more of the history, by posts of others
pub record HasWatched (old new : SeatView) : Type 0 where
  pub config : new.config ≡ old.config
  pub node : new.node ≡ old.node
  pub actor : new.actor ≡ old.actor
  pub watched : Watched old.config old.node old.actor old.seen new.seen

-- ---- nothing is left to deliver

-- an actor has seen as many posts as these, and has received each of these that comes to it
pub record HasReceivedAll (s : Script) (posts : List Post) (p : PlayerView) : Type 0 where
  pub level : length p.seat.seen ≡ length posts
  pub received : (k : ℕ) → IsReceived s.config s posts p.seat.node p.seat.actor k → Contains p.view.got k

-- one of the actors has seen these posts, and no more
pub record IsSeenBySome (posts : List Post) (players : List PlayerView) : Type 0 where
  pub player : PlayerView
  pub stands : Contains players player
  pub seen : player.seat.seen ≡ posts

-- there are m posts, of which each actor that works has received all that come to it
pub record HaveReceivedAll (s : Script) (players : List PlayerView) (m : ℕ) : Type 0 where
  pub posts : List Post
  pub count : length posts ≡ m
  pub shown : IsSeenBySome posts players
  pub each : All (λ p. p.fate ≡ Running → HasReceivedAll s posts p) players

-- Nothing is left to deliver: nobody has seen more than m posts, and all actors that work have received what comes to them of m
-- posts; or there is nobody left to receive any, since each actor has ended by a full book.
pub record IsSettled (s : Script) (players : List PlayerView) (liars : List SeatView) (m : ℕ) : Type 0 where
  pub all : HaveReceivedAll s players m ⊎ All (λ p. p.fate ≡ Full) players
  pub few : All (λ p. length p.seat.seen ≤ m) players
  pub level : All (λ seat. length seat.seen ≤ m) liars
