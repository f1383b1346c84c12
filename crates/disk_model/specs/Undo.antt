-- Bytes that can be put back to what they were.
use Rattle.std.specs.Prelude.{◌≤◌, ◌+◌, ◌/◌, ◌^◌, ◌||◌, ℕ, List, [], ◌∷◌, length, max, nat_lt, nat_le, if◌then◌else◌}
use Rattle.disk_model.specs.declared.undo.Saved.{Saved}
use Rattle.disk_model.specs.Disk.{overwritten}

-- the bytes, and those that were settled last
pub record UndoState : Type 0 where
  pub current : List ℕ
  pub settled : List ℕ

-- the bytes with what was saved put back, the last first
abbrev pub put_back : List Saved → List ℕ → List ℕ
put_back [] bytes = bytes
put_back (first ∷ later) bytes = overwritten first.at first.bytes.items (put_back later bytes)

-- each range that was saved lies within the first n bytes
abbrev pub AreWithin : ℕ → List Saved → Type 0
AreWithin n [] = Unit {0}
AreWithin n (first ∷ later) = (first.at + length first.bytes.items ≤ n) × AreWithin n later

-- The room of bytes that are to take so many more. Where it does not do and they are 64 KiB or more, it becomes room for
-- a quarter of them more, or for those where they are more.
abbrev pub room_made : ℕ → ℕ → ℕ → ℕ
room_made room len more = if nat_lt len (2 ^ 16) || nat_le (len + more) room then room else len + max more (len / 4)
