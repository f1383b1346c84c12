use Rattle.std.proofs.Common.{◌∙◌, ap, sym}
use Rattle.rbc_core.proofs.Unheeded.{unheeded_epoch, unheeded_kind, is_heard_kind, other_kind}
use Rattle.rbc_core.proofs.rbc.Rbc.hear.Goals as goal

pub returns-then-epoch-self-clause-ok : goal.returns-then-epoch-self-clause-ok
returns-then-epoch-self-clause-ok c =
    rw (← c.self.view_is) (unheeded_epoch _ c.args.from c.args.vote.now c.args.due.now.votes (rw (← c.self.view_is) at c.requires.from)
    (λ same. c.if-epoch-self.true (c.epoch.ensures ∙ same)))

pub returns-in_default-clause-ok : goal.returns-in_default-clause-ok
returns-in_default-clause-ok c =
    unheeded_kind c.args.self.now c.args.from c.args.vote.now c.args.due.now.votes c.requires.from
    (ap is_heard_kind (sym c.vote.ensures) ∙ other_kind c.vote.result.now c.in_default.not-Val c.in_default.not-Echo c.in_default.not-Ready c.in_default.not-Propose)
