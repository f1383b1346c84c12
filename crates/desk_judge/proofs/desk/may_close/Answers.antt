use Rattle.std.proofs.Common.{sym, ◌∙◌}
use Rattle.desk_judge.proofs.Accepting.{may_close, may_not_close}
use Rattle.desk_judge.proofs.desk.may_close.Goals as goal

pub returns-then-not-is_due : goal.returns-then-not-is_due
returns-then-not-is_due c =
    may_not_close c.args.config.now c.args.epoch c.args.own.now c.args.heard.now c.args.list.now (sym c.is_unclosed-is_due.ensures ∙ c.if-not-is_due.true)

pub returns : goal.returns
returns c =
    may_close c.args.config.now c.args.epoch c.args.own.now c.args.heard.now c.args.list.now c.is_accepted.result
    (sym c.is_unclosed-is_due.ensures ∙ c.if-not-is_due.false) (c.is_accepted.ensures c.args.config.now (sym c.n.ensures.value))
