use Rattle.lane_progress.proofs.Lanes.{lane_quiet}
use Rattle.lane_progress.proofs.laws.lane_laws.Goals as goal

pub returns : goal.returns
returns c = record { quiet = lane_quiet }
