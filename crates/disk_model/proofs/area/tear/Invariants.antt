use Rattle.std.proofs.Common.{◌≡◌, ◌<◌, length, ℕ, slice_index}
use Rattle.disk_model.proofs.Tears.{torn_below}
use Rattle.disk_model.proofs.area.tear.Given as goal

-- the bytes below this one are torn
abbrev pub invariant-loop-k : goal.invariant-loop-k
invariant-loop-k l = (k : ℕ) → k < length l.bytes → slice_index l.bytes k ≡ torn_below l.fn.span l.fn.bytes l.k k
