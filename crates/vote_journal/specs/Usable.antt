-- A journal that may be appended to.
use Rattle.std.specs.Prelude.{◌≡◌, ◌+◌, ◌-◌, ◌^◌, ◌<◌, ℕ, List, [], length, min, Result, Ok, Err}
use Rattle.std.specs.List.{concat}
use Rattle.disk_model.specs.Image.{Image, half_of, other}
use Rattle.disk_model.specs.Disk.{Only}
use Rattle.vote_journal.specs.Text.{half_entries, blocks, HoldsEntries}
use Rattle.vote_journal.specs.declared.fault.JournalFault.{JournalFault}
use Rattle.vote_journal.specs.declared.journal.Journal.{Journal}

-- the disk under a journal
abbrev pub disk_of : {D : Type 0} → Journal D → D
disk_of journal = journal.disk

-- the disk after a recovery: that under the journal, or the one that was handed back
abbrev pub disk_after : {D A : Type 0} → Result (Journal D × A) (D × JournalFault) → D
disk_after (Ok opened) = disk_of opened.0
disk_after (Err refused) = refused.0

-- what it knows of how many entries it has, and of how many bytes of payload
abbrev pub entry_count : {D : Type 0} → Journal D → ℕ
entry_count journal = journal.entries

abbrev pub byte_count : {D : Type 0} → Journal D → ℕ
byte_count journal = journal.bytes

-- the entries of its live half
abbrev pub entries_in_journal : {D : Type 0} → (D → Image) → Journal D → List (List ℕ)
entries_in_journal seen journal = half_entries (half_of journal.live (seen journal.disk))

-- what stands in the half beside its live one
abbrev pub spare_bytes : {D : Type 0} → (D → Image) → Journal D → List ℕ
spare_bytes seen journal = half_of (other journal.live) (seen journal.disk)

-- Both halves hold their entries, the one beside the live one none, and all of it is durable. The journal knows where
-- the closed gate of the live half stands, how many entries there are, and how many bytes of payload.
pub record IsUsable {D : Type 0} (seen : D → Image) (may_leave : D → Image → Type 0) (journal : Journal D) : Type 0 where
  pub live : HoldsEntries (half_of journal.live (seen journal.disk)) (entries_in_journal seen journal)
  pub spare : HoldsEntries (half_of (other journal.live) (seen journal.disk)) []
  pub durable : Only (seen journal.disk) (may_leave journal.disk)
  pub gate : journal.gate ≡ 8 + length (blocks (entries_in_journal seen journal))
  pub small : journal.gate < 2 ^ 63
  pub count : journal.entries ≡ min (length (entries_in_journal seen journal)) (2 ^ 32 - 1)
  pub bytes : journal.bytes ≡ min (length (concat (entries_in_journal seen journal))) (2 ^ 64 - 1)
