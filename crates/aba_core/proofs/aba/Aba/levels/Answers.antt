use Rattle.std.proofs.Common.{◌∙◌}
use Rattle.aba_core.proofs.aba.Aba.levels.Goals as goal

pub returns : goal.returns
returns c =
    rw (← c.self.view_is) (c.levels.ensures ∙ (c.self.invariant.aba.each c.args.round (rw (← c.self.view_is) at c.requires)).levels)
