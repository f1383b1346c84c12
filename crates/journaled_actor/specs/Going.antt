-- How a seat and a disk go on in a call of an actor, whatever comes of it.
use Rattle.std.specs.Prelude.{◌≡◌, ℕ, ◌≤◌, List, length, Result, IsErrOf}
use Rattle.disk_model.specs.Supply.{Supply, Draws}
use Rattle.hb_base.specs.Limits.{most_posts}
use Rattle.hb_base.specs.Numbers.{Numbers}
use Rattle.hb_base.specs.Outside.{Rose}
use Rattle.hb_wire.specs.declared.post.Post.{Post}
use Rattle.vote_journal.specs.Runs.{IsUnfailed}
use Rattle.hb_rules.specs.declared.actor.ActorFault.{ActorFault}
use Rattle.hb_rules.specs.declared.actor.ActorFault.TheVariants.{Journal, Full, Memory}
use Rattle.hb_rules.specs.Actor.{Told}
use Rattle.hb_rules.specs.Ledger.{IsPrefix}
use Rattle.hb_rules.specs.Terms.{Terms}

-- The seat is of the book still, which went on by this seat alone. The history went on, and the numbers of the actor's
-- posts by which it did were told, unless memory was wanting. The book is full where that is the fault.
pub record SeatGoes {S K T : Type 0} (config : S → Numbers) (node actor : S → ℕ) (seen : S → List Post) (knows : K → S → Type 0)
    (moved : ℕ → ℕ → K → K → Type 0) (t : Terms) (old new : S) (before after : K) (out numbers : List ℕ) (result : Result T ActorFault) : Type 0 where
  pub stays : knows after new
  pub same : (config new ≡ config old) × (node new ≡ node old) × (actor new ≡ actor old)
  pub book : moved (node old) (actor old) before after
  pub longer : IsPrefix (seen old) (seen new)
  pub told : (IsErrOf result Memory → ⊥) → Told t (seen old) (seen new) out numbers
  pub full : IsErrOf result Full → length (seen new) ≡ most_posts

-- The disk was used: its power and its faults went on, and where its fault is the cause it has failed, and explains it; else
-- it has not failed, and has its power as before.
pub record DiskGoes {D T : Type 0} (supply : D → Supply) (faults : D → ℕ) (explains : D → Type 0) (old new : D) (result : Result T ActorFault) : Type 0 where
  pub draws : Draws (supply old) (supply new)
  pub no_fewer : faults old ≤ faults new
  pub failed : IsErrOf result Journal → Rose (faults old) (faults new) × explains new
  pub unfailed : (IsErrOf result Journal → ⊥) → IsUnfailed faults supply old new
