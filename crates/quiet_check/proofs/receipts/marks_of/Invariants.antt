use Rattle.std.proofs.Common.{◌≡◌, ◌==◌, ℕ, length, slice_index_or, take, false}
use Rattle.std.specs.List.{list_any}
use Rattle.quiet_check.proofs.receipts.marks_of.Given as goal

-- the posts before this one are marked
abbrev pub invariant-loop-number : goal.invariant-loop-number
invariant-loop-number l = record {
  long : length l.marks.items ≡ length l.report.history.items;
  marked : (k : ℕ) → slice_index_or l.marks.items k false ≡ list_any (λ m. m == k) (take l.number-index l.end.got.items);
}
