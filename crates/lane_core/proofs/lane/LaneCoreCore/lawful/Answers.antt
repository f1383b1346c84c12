use Rattle.std.proofs.Common.{[], subst}
use Rattle.hb_rules.specs.Terms.{AreLawful}
use Rattle.lane_core.specs.Lane.{LaneView, lane_terms}
use Rattle.lane_core.proofs.lane.LaneCoreCore.lawful.Goals as goal

pub returns : goal.returns
returns c =
    subst (λ (l : LaneView). AreLawful (lane_terms l)) c.self.view_is
    (c.term_laws.ensures c.self.inside.config c.liars-sound.ensures.sound [] tt tt c.self.inside.node c.self.inside.lane c.self.invariant.node)
