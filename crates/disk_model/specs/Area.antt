-- One half of a disk in memory: what a read gives, and what a crash may leave.
use Rattle.std.specs.Prelude.{◌≡◌, ◌≤◌, ◌<◌, ◌+◌, ◌%◌, ◌==◌, ◌&&◌, ◌||◌, ℕ, Bool, false, List, [], ◌∷◌, ◌++◌, length, take, min, max}
use Rattle.std.specs.Prelude.{nat_le, nat_lt, slice_index, if◌then◌else◌}
use Rattle.disk_model.specs.declared.span.Span.{Span}
use Rattle.disk_model.specs.declared.plan.Leave.{Leave}
use Rattle.disk_model.specs.declared.plan.Leave.TheVariants.{Old, New, Torn}
use Rattle.disk_model.specs.Disk.{overwritten}

-- what a read gives; what the last successful sync left; the ranges written since; the least and greatest length since
pub record AreaState : Type 0 where
  pub content : List ℕ
  pub synced : List ℕ
  pub written : List Span
  pub least : ℕ
  pub most : ℕ

-- the offset lies in the range
abbrev pub is_in : Span → ℕ → Bool
is_in span k = nat_le span.at k && nat_lt k (span.at + span.len)

-- it lies in one of them
abbrev pub is_written : List Span → ℕ → Bool
is_written [] k = false
is_written (span ∷ spans) k = is_in span k || is_written spans k

-- A crash may leave any length between the least and the greatest, and any bytes in the ranges that were written and
-- past the least length, which is where bytes were cut off or added. Other bytes stay.
pub record MayBeLeft (area : AreaState) (c : List ℕ) : Type 0 where
  pub no_shorter : min area.least (length area.content) ≤ length c
  pub no_longer : length c ≤ max area.most (length area.content)
  pub others : (k : ℕ) → k < area.least → k < length area.content → is_written area.written k ≡ false
      → slice_index c k ≡ slice_index area.content k

-- these bytes, with nothing pending
abbrev pub at_rest : List ℕ → AreaState
at_rest bytes = record { content = bytes; synced = bytes; written = []; least = length bytes; most = length bytes }

-- after a write; one of no bytes changes nothing
abbrev pub after_write : ℕ → List ℕ → AreaState → AreaState
after_write at [] area = area
after_write at (byte ∷ bytes) area = record {
  content = overwritten at (byte ∷ bytes) area.content;
  synced = area.synced;
  written = area.written ++ record { at = at; len = length (byte ∷ bytes) } ∷ [];
  least = area.least;
  most = max area.most (at + length (byte ∷ bytes));
}

-- after a cut
abbrev pub after_cut : ℕ → AreaState → AreaState
after_cut len area = record {
  content = take len area.content;
  synced = area.synced;
  written = area.written;
  least = min area.least len;
  most = area.most;
}

-- the bytes from an offset on, where each at an odd offset of a range that was written is 0x5A
abbrev pub torn_from : List Span → ℕ → List ℕ → List ℕ
torn_from spans at [] = []
torn_from spans at (byte ∷ bytes) = (if is_written spans at && at % 2 == 1 then 0x5A else byte) ∷ torn_from spans (at + 1) bytes

-- what a stop leaves of a half
abbrev pub left_by : Leave → AreaState → List ℕ
left_by Old area = area.synced
left_by New area = area.content
left_by Torn area = torn_from area.written 0 area.content

-- What was synced differs from what a read gives only in the ranges that were written and past the least length.
pub record IsKept (area : AreaState) : Type 0 where
  pub least_content : area.least ≤ length area.content
  pub content_most : length area.content ≤ area.most
  pub least_synced : area.least ≤ length area.synced
  pub synced_most : length area.synced ≤ area.most
  pub agree : (k : ℕ) → k < area.least → is_written area.written k ≡ false
      → slice_index area.synced k ≡ slice_index area.content k
