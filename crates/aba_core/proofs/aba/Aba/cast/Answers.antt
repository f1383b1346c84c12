use Rattle.std.proofs.Common.{◌∙◌}
use Rattle.aba_core.proofs.Marking.{Casts-foreign}
use Rattle.aba_core.proofs.aba.Aba.cast.Goals as goal

pub returns-then-epoch-self : goal.returns-then-epoch-self
returns-then-epoch-self c = rw (← c.self.view_is) (Casts-foreign _ c.args.vote.now (λ same. c.if-epoch-self.true (c.epoch.ensures ∙ same)))
