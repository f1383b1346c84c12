-- The calls of a journal, one after another, on a disk that was empty.
use Rattle.std.specs.Prelude.{◌≡◌, ℕ, ◌+◌, List, [], ◌∷◌, length}
use Rattle.disk_model.specs.Image.{Image}
use Rattle.disk_model.specs.Disk.{Only, Elapses}
use Rattle.disk_model.specs.Supply.{Supply}
use Rattle.vote_journal.specs.Runs.{Runs, LeftOrSays}
use Rattle.vote_journal.specs.Text.{IsSound, SaysOnly, SaysMaybe, text_of, live_entries}

-- a call of a journal, or the power that comes back
pub data JournalCall : Type 0 where
  Recover : JournalCall
  Append : List ℕ → JournalCall
  Fold : JournalCall
  SwitchOn : JournalCall

-- both halves are empty, and nothing is pending
pub record IsEmpty {D : Type 0} (seen : D → Image) (may_leave : D → Image → Type 0) (disk : D) : Type 0 where
  pub nothing : seen disk ≡ record { a = []; b = [] }
  pub durable : Only (seen disk) (may_leave disk)

-- the disk holds one of the images that the crash may leave, and nothing is pending
pub record ComesBack {D : Type 0} (seen : D → Image) (may_leave : D → Image → Type 0) (moment : D → ℕ) (left_since : D → ℕ → Image → Type 0)
    (old new : D) : Type 0 where
  pub image : may_leave old (seen new)
  pub durable : Only (seen new) (may_leave new)
  pub time : Elapses (moment old) (moment new) (left_since old) (left_since new) (may_leave new)

module _ {D : Type 0} (seen : D → Image) (may_leave : D → Image → Type 0) (moment : D → ℕ) (left_since : D → ℕ → Image → Type 0)
    (faults : D → ℕ) (supply : D → Supply) where
  -- What a call's clauses say of the disk before it and after it, whether it ended well or failed: of `recover` the
  -- clause `pending`, of `append` and `fold` the clause `runs`, of `switch_on` those on its image and on time.
  abbrev pub Did : JournalCall → D → D → Type 0
  Did Recover old new = IsSound (seen old) → Runs moment left_since faults supply old new (LeftOrSays (may_leave old) (text_of (seen old)) (length (live_entries (seen old))))
  Did (Append payload) old new = Runs moment left_since faults supply old new (SaysMaybe (text_of (seen old)) payload (length (live_entries (seen old)) + 1))
  Did Fold old new = Runs moment left_since faults supply old new (SaysOnly (text_of (seen old)) (length (live_entries (seen old))))
  Did SwitchOn old new = ComesBack seen may_leave moment left_since old new

  -- calls, each with the disk after it, that lead from one disk to another
  abbrev pub Lead : List (JournalCall × D) → D → D → Type 0
  Lead [] old new = new ≡ old
  Lead (step ∷ steps) old new = Did step.0 old step.1 × Lead steps step.1 new
