use Rattle.std.proofs.Common.{arith}
use Rattle.epoch_core.proofs.ClosingSteps.{step_more, step_stops, step_all, none_closed}
use Rattle.epoch_core.proofs.closing.close_all.Goals as goal

pub loop-epoch-init : goal.loop-epoch-init
loop-epoch-init c = λ i placed. none_closed c.args.config.now i c.args.tables.now c.args.from _

pub loop-epoch-preserved : goal.loop-epoch-preserved
loop-epoch-preserved c = λ i placed.
    step_more c.args.config.now i c.args.tables.now c.args.from c.loop-epoch.epoch c.index-tables-epoch.result _ _ _ c.in_ok-close.field-0
    (omega arith) (omega (arith, c.loop-epoch-test.true, c.epochs-epoch-end.ensures.value, c.requires.count)) c.index-tables-epoch.is placed
    c.if-not-branch.false (c.loop-epoch.invariant i placed) c.in_ok-close.ensures

pub returns-then-not-branch : goal.returns-then-not-branch
returns-then-not-branch c = λ i placed.
    step_stops c.args.config.now i c.args.tables.now c.args.from c.loop-epoch.epoch c.index-tables-epoch.result _ _ _ c.in_ok-close.field-0
    (omega arith) (omega (arith, c.loop-epoch-test.true, c.epochs-epoch-end.ensures.value, c.requires.count))
    (omega (arith, c.loop-epoch-test.true, c.epochs-epoch-end.ensures.value)) c.index-tables-epoch.is placed
    c.if-not-branch.true (c.loop-epoch.invariant i placed) c.in_ok-close.ensures

pub returns : goal.returns
returns c = λ i placed.
    step_all c.args.config.now i c.args.tables.now c.args.from c.loop-epoch.epoch c.epochs.result _ _ c.requires.from
    (omega (arith, c.loop-epoch-test.false, c.epochs-epoch-end.ensures.value)) c.epochs.ensures.value (c.loop-epoch.invariant i placed)
