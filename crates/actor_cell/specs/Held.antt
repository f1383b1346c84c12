-- What lies under the lock of an actor.
use Rattle.std.specs.Prelude.{◌≡◌, ℕ, ◌<◌, ◌≤◌, true, List}
use Rattle.atomic_table.specs.Seated.{TableId}
use Rattle.hb_wire.specs.declared.post.Post.{Post}
use Rattle.net_script.specs.declared.script.Script.{Script}
use Rattle.hb_rules.specs.declared.report.Fate.{Fate}
use Rattle.hb_rules.specs.Ledger.{IsPrefix}
use Rattle.step_driver.specs.Places.{PlayerView}
pub use Rattle.step_driver.specs.Places.{player_at}
use Rattle.step_driver.specs.Delivering.{IsPlayer}
use Rattle.actor_cell.specs.Boxes.{place_of}
use Rattle.actor_cell.specs.Mail.{MailView}

-- an actor with its fate, its book, the script of the run, its mail, the numbers that it holds back, in order, and for how many
-- there is room
pub record HeldView (A B : Type 0) : Type 0 where
  pub actor : A
  pub fate : Fate
  pub book : B
  pub script : Script
  pub mail : MailView
  pub back : List ℕ
  pub room : ℕ

-- The book and the script are those of the run, the seat is of this book, the mailboxes are of the script's config, and the
-- mailbox from which numbers are taken is the actor's, which is one of the config. The actor goes by the script, and its fate has
-- its cause.
pub record IsHeld {B S : Type 0} (knows : B → S → Type 0) (is_script : Script → Type 0) (run : TableId) (seat : S) (b : B) (name : TableId) (s : Script) (mail : MailView)
    (p : PlayerView) : Type 0 where
  pub of_book : knows b seat
  pub book : name ≡ run
  pub script : is_script s
  pub config : p.seat.config ≡ s.config
  pub known : (p.seat.node < s.config.n) × (p.seat.actor ≤ s.config.n)
  pub boxes : mail.boxes.config ≡ s.config
  pub place : mail.passes.place ≡ place_of s.config p.seat.node p.seat.actor
  pub player : IsPlayer s.config s true p

-- While the book went on from b to b', by the calls of actor x of node i, the seat of this actor was shown the whole history of a
-- moment, and in the end it has seen that.
pub record WasShown {B S : Type 0} (is_whole : B → B → S → S → Type 0) (moved : ℕ → ℕ → B → B → Type 0) (seen : S → List Post) (i x : ℕ) (b b' : B) (s : S) : Type 0 where
  pub before : B
  pub after : B
  pub seat_before : S
  pub seat_after : S
  pub first : moved i x b before
  pub whole : is_whole before after seat_before seat_after
  pub last : moved i x after b'
  pub more : IsPrefix (seen seat_after) (seen s)
