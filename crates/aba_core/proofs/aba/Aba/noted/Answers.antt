use Rattle.std.proofs.Common.{◌∙◌}
use Rattle.aba_core.proofs.Notes.{Notes-foreign, Notes-other, other_vote}
use Rattle.aba_core.proofs.aba.Aba.noted.Goals as goal

pub returns-then-epoch-self : goal.returns-then-epoch-self
returns-then-epoch-self c =
    rw (← c.self.view_is) (Notes-foreign _ c.args.from c.args.vote.now (rw (← c.self.view_is) at c.requires) (λ same. c.if-epoch-self.true (c.epoch.ensures ∙ same)))

pub returns-in_default : goal.returns-in_default
returns-in_default c =
    Notes-other c.args.self.now c.args.from c.args.vote.now c.requires
    (other_vote c.args.vote.now c.in_default.not-Bval c.in_default.not-Aux c.in_default.not-Coin c.in_default.not-Conf c.in_default.not-NoMore)
