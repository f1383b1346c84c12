use Rattle.std.specs.List.{AllByRecursion}
use Rattle.hb_base.specs.ByteLists.{AreBytes}
use Rattle.hb_base.specs.Limits.{IsTransaction}
use Rattle.epoch_cases.proofs.desks.submitted.Given as goal

abbrev pub invariant-loop-letter : goal.invariant-loop-letter
invariant-loop-letter l = AllByRecursion IsTransaction l.txs.items × AllByRecursion AreBytes l.txs.items
