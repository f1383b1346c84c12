-- What is said of a disk over several of its calls.
use Rattle.std.specs.Prelude.{◌≡◌, ◌⊎◌, ℕ, ◌≤◌, List, Result, OnOk, IfErr, IsErrOf}
use Rattle.disk_model.specs.Image.{Image}
use Rattle.disk_model.specs.Disk.{LeavesOnly, Only}
use Rattle.hb_base.specs.Outside.{Rose}
use Rattle.disk_model.specs.Supply.{Supply, Draws}
use Rattle.vote_journal.specs.Text.{SaysOnly}
use Rattle.vote_journal.specs.declared.fault.JournalFault.{JournalFault}
use Rattle.vote_journal.specs.declared.fault.JournalFault.TheVariants.{Failed, NotAJournal}

-- A crash at any moment since old leaves an image that has P; the count of faults and the supply are those of the calls made.
pub record Runs {D : Type 0} (moment : D → ℕ) (left_since : D → ℕ → Image → Type 0) (faults : D → ℕ) (supply : D → Supply)
    (old new : D) (P : Image → Type 0) : Type 0 where
  pub moments : LeavesOnly moment left_since old new P
  pub faults_stay : faults old ≤ faults new
  pub draws : Draws (supply old) (supply new)

-- `Failed` is told only where the disk has failed since, which it explains
pub record HasReason {D : Type 0} (faults : D → ℕ) (explains : D → Type 0) (old new : D) (fault : JournalFault) : Type 0 where
  pub rose : fault ≡ Failed → Rose (faults old) (faults new)
  pub explained : fault ≡ Failed → explains new

-- the disk has not failed, and has its power as before
pub record IsUnfailed {D : Type 0} (faults : D → ℕ) (supply : D → Supply) (old new : D) : Type 0 where
  pub no_fault : faults new ≡ faults old
  pub power : (supply new).off ≡ (supply old).off

-- What each step of the journal keeps: once it is done all is durable; a crash at any moment of it leaves an image that has P;
-- where it is refused that has a reason, and never the one that the disk holds no journal; and the disk fails and loses its
-- power only where the step tells that it failed.
pub record IsStep {T D : Type 0} (seen : D → Image) (may_leave : D → Image → Type 0) (moment : D → ℕ) (left_since : D → ℕ → Image → Type 0)
    (faults : D → ℕ) (supply : D → Supply) (explains : D → Type 0)
    (old new : D) (P : Image → Type 0) (result : Result T JournalFault) : Type 0 where
  pub durable : OnOk result (Only (seen new) (may_leave new))
  pub runs : Runs moment left_since faults supply old new P
  pub failed : IfErr result (HasReason faults explains old new)
  pub no_other : IfErr result (λ fault. fault ≡ NotAJournal → ⊥)
  pub unfailed : (IsErrOf result Failed → ⊥) → IsUnfailed faults supply old new

-- what might have been left before, or a sound image of this text, in so many entries at most
abbrev pub LeftOrSays : (Image → Type 0) → List ℕ → ℕ → Image → Type 0
LeftOrSays may_leave text most c = may_leave c ⊎ SaysOnly text most c

-- Nothing was written: a read gives what it gave, all of it is durable, and a crash since then leaves what one before might have
-- left.
pub record IsUntouched {D : Type 0} (seen : D → Image) (may_leave : D → Image → Type 0) (moment : D → ℕ) (left_since : D → ℕ → Image → Type 0)
    (old new : D) : Type 0 where
  pub same : seen new ≡ seen old
  pub durable : Only (seen new) (may_leave new)
  pub moments : LeavesOnly moment left_since old new (may_leave old)
