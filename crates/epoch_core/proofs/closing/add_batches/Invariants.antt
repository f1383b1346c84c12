use Rattle.std.proofs.Common.{◌≡◌, ◌++◌, take}
use Rattle.hb_rules.specs.Pool.{transactions_in}
use Rattle.epoch_core.proofs.closing.add_batches.Given as goal

abbrev pub invariant-loop-item : goal.invariant-loop-item
invariant-loop-item l = l.gone.items ≡ l.initial.gone.items ++ transactions_in (take l.item-index l.list)
