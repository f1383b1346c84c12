use Rattle.epoch_core.specs.Tables.{AreUnheard}
use Rattle.epoch_core.proofs.recovery.unheard.Given as goal

abbrev pub invariant-loop-epoch : goal.invariant-loop-epoch
invariant-loop-epoch l = AreUnheard l.own l.epoch l.tables.items
