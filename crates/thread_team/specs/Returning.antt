-- What comes out of the locks of a run. The letters: a run of script s; A are actors over a book whose seats are S.
use Rattle.std.specs.Prelude.{◌≡◌, ℕ, ◌<◌, ◌≤◌, ◌||◌, Bool, true, List, All, count_by}
use Rattle.std.specs.List.Sorted.{IsNonDecreasingBy}
use Rattle.hb_base.specs.Numbers.{Numbers}
use Rattle.hb_base.specs.NodeSet.{is_in}
use Rattle.hb_base.specs.Limits.{most_lies, most_nodes}
use Rattle.hb_wire.specs.declared.post.Post.{Post}
use Rattle.net_script.specs.declared.script.Script.{Script}
use Rattle.hb_rules.specs.Actor.{ActorView}
use Rattle.actor_cell.specs.Marks.{is_marked, most_actors}
use Rattle.returned_players.specs.Ordering.{place_number}
use Rattle.step_driver.specs.declared.player.Player.{Player}
use Rattle.step_driver.specs.Places.{player_at}
use Rattle.step_driver.specs.Delivering.{IsPlayer, is_from}
use Rattle.thread_team.specs.declared.returning.Returned.{Returned}

-- An actor of a correct node: its seat is of the book, as `knows` tells, and of the config, it goes by the script, and its fate
-- has its cause.
pub record IsOut {A S : Type 0} (knows : S → Type 0) (config : S → Numbers) (node actor : S → ℕ) (seen : S → List Post) (seat : A → S) (view : A → ActorView)
    (s : Script) (p : Player A) : Type 0 where
  pub of_book : knows (seat p.actor)
  pub of_run : config (seat p.actor) ≡ s.config
  pub known : (node (seat p.actor) < s.config.n) × (actor (seat p.actor) ≤ s.config.n)
  pub player : IsPlayer s.config s true (player_at config node actor seen seat view p.actor p.fate)

-- the seat of a node that lies, under which no more lies were posted than it may
pub record IsLiarOut {S : Type 0} (knows : S → Type 0) (config : S → Numbers) (node actor : S → ℕ) (seen : S → List Post) (s : Script) (seat : S) : Type 0 where
  pub of_book : knows seat
  pub of_run : config seat ≡ s.config
  pub known : node seat < s.config.n
  pub lies : is_in s.config.liars (node seat) ≡ true
  pub whole : actor seat ≡ 255
  pub few : count_by (is_from (node seat)) (seen seat) ≤ most_lies

-- all that came out so far
pub record AreOut {A S : Type 0} (knows : S → Type 0) (config : S → Numbers) (node actor : S → ℕ) (seen : S → List Post) (seat : A → S) (view : A → ActorView)
    (s : Script) (all : Returned A S) : Type 0 where
  pub players : All (IsOut knows config node actor seen seat view s) all.players.items
  pub in_order : IsNonDecreasingBy (place_number node actor seat) all.players.items
  pub liars : All (IsLiarOut knows config node actor seen s) all.liars.items

-- Of sets of actors, as of those whose mailbox refused a number: the new one has those of two others, and no more
abbrev pub AreNotedToo : List (List Bool) → List (List Bool) → List (List Bool) → Type 0
AreNotedToo more old new = (i x : ℕ) → i < most_nodes → x < most_actors → is_marked new i x ≡ (is_marked more i x || is_marked old i x)

-- the new one has all that the old one has
abbrev pub StayNoted : List (List Bool) → List (List Bool) → Type 0
StayNoted old new = (i x : ℕ) → i < most_nodes → x < most_actors → is_marked old i x ≡ true → is_marked new i x ≡ true
