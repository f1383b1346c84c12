use Rattle.std.proofs.Common.{get_or, ap, arith}
use Rattle.hb_rules.specs.Hearing.{hearing}
use Rattle.epoch_core.specs.declared.table.Table.{Table}
use Rattle.epoch_core.proofs.Tabled.{HearsAll-outside, HearsAll-set}
use Rattle.epoch_core.proofs.ClosingSteps.{if_ok}
use Rattle.epoch_core.proofs.epochs.hear_in.Goals as goal

pub returns-then-epoch-epochs-clause-ok : goal.returns-then-epoch-epochs-clause-ok
returns-then-epoch-epochs-clause-ok c =
    HearsAll-outside c.args.config.now c.args.node c.args.tables.now (hearing c.args.lane c.args.vote.now) c.requires.placed
    (omega (arith, c.if-epoch-epochs.true, c.epochs.ensures.value, c.epoch-epoch.ensures))

pub returns-clause-ok : goal.returns-clause-ok
returns-clause-ok c =
    let at : Table → Table = λ table. get_or c.args.tables.now c.epoch-epoch.result table in
    if_ok c.hear.result _ _
    (λ is_due hears.
    HearsAll-set c.args.config.now c.args.node c.args.tables.now c.epoch-epoch.result (at c.index-tables-epoch.result) c.hear.new.self
    (hearing c.args.lane c.args.vote.now) is_due c.requires.placed c.epoch-epoch.ensures
    (omega (arith, c.if-epoch-epochs.false, c.epochs.ensures.value)) c.requires.count (ap at c.index-tables-epoch.is) hears)
    c.hear.ensures.ok
