use Rattle.lane_core.proofs.Lanes.{AreRecovered-more}
use Rattle.lane_core.proofs.lane.LaneCore.recovered.Goals as goal

pub loop-epoch-preserved : goal.loop-epoch-preserved
loop-epoch-preserved c =
    rw c.in_ok-push.ensures.items (AreRecovered-more c.args.self.now c.args.own.now c.loop-epoch.epoch c.loop-epoch.epochs.items
    c.in_ok-recover.field-0 c.loop-epoch.invariant c.in_ok-recover.ensures.at c.in_ok-recover.ensures.stands)
