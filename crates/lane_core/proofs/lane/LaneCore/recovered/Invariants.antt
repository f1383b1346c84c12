use Rattle.lane_core.specs.Lane.{AreRecovered}
use Rattle.lane_core.proofs.lane.LaneCore.recovered.Given as goal

abbrev pub invariant-loop-epoch : goal.invariant-loop-epoch
invariant-loop-epoch l = AreRecovered l.self l.own l.epoch l.epochs.items
