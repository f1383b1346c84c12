use Rattle.std.proofs.Common.{sym, ◌∙◌, arith}
use Rattle.epoch_core.specs.Tables.{list_of}
use Rattle.epoch_core.proofs.ClosingSteps.{may_so, may_not}
use Rattle.epoch_core.proofs.closing.close.Goals as goal

pub returns-in_ok-close_with-in-Some : goal.returns-in_ok-close_with-in-Some
returns-in_ok-close_with-in-Some c = λ i place.
    may_so c.args.config.now c.args.epoch (list_of c.args.config.now i c.args.epoch c.args.table.now) c.in-Some.closing _ _
    (sym c.in-Some.is ∙ c.in_ok-closing.ensures c.args.config.now i c.args.epoch (omega (arith, c.n-n.ensures.value, c.n-n.ensures.bounds.0)) place)
    c.in_ok-close_with-in-Some.ensures.pooled c.in_ok-close_with-in-Some.ensures.closings c.in_ok-close_with-in-Some.ensures.proposals

pub returns-in-None : goal.returns-in-None
returns-in-None c = λ i place.
    may_not c.args.config.now c.args.epoch (list_of c.args.config.now i c.args.epoch c.args.table.now) _
    (sym c.in-None.is ∙ c.in_ok-closing.ensures c.args.config.now i c.args.epoch (omega (arith, c.n-n.ensures.value, c.n-n.ensures.bounds.0)) place)
