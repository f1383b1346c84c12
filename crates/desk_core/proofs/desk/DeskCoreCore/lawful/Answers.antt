use Rattle.std.proofs.Common.{subst}
use Rattle.hb_rules.specs.Terms.{AreLawful}
use Rattle.desk_core.specs.Desk.{DeskView, desk_terms}
use Rattle.desk_core.proofs.desk.DeskCoreCore.lawful.Goals as goal

pub returns : goal.returns
returns c =
    subst (λ (d : DeskView). AreLawful (desk_terms d)) c.self.view_is
    (c.term_laws.ensures c.self.inside.config c.liars-sound.ensures.sound c.self.inside.submitted.items c.self.invariant.fit c.self.invariant.bytes
    c.self.inside.node c.self.inside.config.n c.self.invariant.known)
