use Rattle.std.proofs.Common.{◌≡◌, length}
use Rattle.last_deliveries.proofs.listing.clear_all.Given as goal

abbrev pub invariant-loop-number : goal.invariant-loop-number
invariant-loop-number l = length l.lists.items ≡ length l.initial.lists.items
