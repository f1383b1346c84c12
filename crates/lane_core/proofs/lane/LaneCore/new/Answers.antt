use Rattle.std.proofs.Common.{[], List, Option, sym, subst}
use Rattle.lane_core.specs.declared.cores.Cores.{Cores}
use Rattle.lane_core.specs.Lane.{Stands}
use Rattle.hb_rules.proofs.Starting.{lane_starts}
use Rattle.lane_core.proofs.Lanes.{Stands-new}
use Rattle.lane_core.proofs.lane.LaneCore.new.Goals as goal

pub returns-clause-stands : goal.returns-clause-stands
returns-clause-stands c =
    subst (λ (epochs : List (Option Cores)). Stands (record { config = c.args.config.now; node = c.args.node; lane = c.args.lane; epochs = epochs }) [] [])
    (sym c.new.ensures.items)
    (Stands-new c.args.config.now c.args.node c.args.lane (lane_starts c.args.config.now c.args.node c.args.lane))
