use Rattle.std.proofs.Common.{◌≡◌, false}
use Rattle.tx_pool.specs.Pool.{is_among}
use Rattle.ledger_text.specs.Places.{in_lists}
use Rattle.ledger_text.proofs.search.stands_in_lists.Given as goal

abbrev pub invariant-loop-place : goal.invariant-loop-place
invariant-loop-place g l = is_among (in_lists (g.L.Ledger.lists l.ledger) l.place) l.tx ≡ false
