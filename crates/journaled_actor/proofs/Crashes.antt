-- What a crash leaves after a step of a journal, and why a step failed.
use Rattle.std.proofs.Common.{ℕ, ◌≤◌, Result, Ok, Err, arith}
use Rattle.std.specs.Prelude.{IfErr}
use Rattle.hb_base.specs.Outside.{Rose}
use Rattle.disk_model.specs.Image.{Image}
use Rattle.disk_model.specs.Disk.{LeavesOnly}
use Rattle.vote_journal.specs.Runs.{HasReason}
use Rattle.vote_journal.specs.declared.fault.JournalFault.{JournalFault}

-- what holds of all images since a call began holds of those that are left now
pub left_now : {D : Type 0} (may_leave : D → Image → Type 0) (moment : D → ℕ) (left_since : D → ℕ → Image → Type 0)
    → ((disk : D) (t : ℕ) (c : Image) → t ≤ moment disk → may_leave disk c → left_since disk t c)
    → (old new : D) (P : Image → Type 0) → LeavesOnly moment left_since old new P → (image : Image) → may_leave new image → P image
left_now may_leave moment left_since counts old new P leaves image may = leaves.each image (counts new (moment old) image leaves.later may)

pub rose_later : (a b c : ℕ) → a ≤ b → Rose b c → Rose a c
rose_later a b c le rose = omega (arith, le, rose)

pub rose_stays : (a b c : ℕ) → Rose a b → b ≤ c → Rose a c
rose_stays a b c rose le = omega (arith, le, rose)

pub reason_later : {D : Type 0} (faults : D → ℕ) (explains : D → Type 0) (old mid new : D) (fault : JournalFault) → faults old ≤ faults mid
    → HasReason faults explains mid new fault → HasReason faults explains old new fault
reason_later faults explains old mid new fault le reason = record {
  rose = λ is. rose_later (faults old) (faults mid) (faults new) le (reason.rose is);
  explained = reason.explained;
}

-- of an error, if it is one
pub reasons_later : {T D : Type 0} (faults : D → ℕ) (explains : D → Type 0) (old mid new : D) (result : Result T JournalFault) → faults old ≤ faults mid
    → IfErr result (HasReason faults explains mid new) → IfErr result (HasReason faults explains old new)
reasons_later faults explains old mid new (Ok x) le reason = tt
reasons_later faults explains old mid new (Err fault) le reason = reason_later faults explains old mid new fault le reason
