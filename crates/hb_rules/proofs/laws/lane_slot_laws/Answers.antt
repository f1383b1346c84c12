use Rattle.hb_rules.proofs.LaneSlots.{lane-parts, lane_hears, lane-guarded, lane-forgets, lane-tested, lane-owed, lane_in_turn, lane_spelled}
use Rattle.hb_rules.proofs.Starting.{lane_starts}
use Rattle.hb_rules.proofs.laws.lane_slot_laws.Goals as goal

pub returns-clause-parts : goal.returns-clause-parts
returns-clause-parts c = lane-parts

pub returns-clause-hears : goal.returns-clause-hears
returns-clause-hears c = lane_hears

pub returns-clause-starts : goal.returns-clause-starts
returns-clause-starts c = lane_starts

pub returns-clause-guarded : goal.returns-clause-guarded
returns-clause-guarded c = lane-guarded

pub returns-clause-forgetful : goal.returns-clause-forgetful
returns-clause-forgetful c = lane-forgets

pub returns-clause-tested : goal.returns-clause-tested
returns-clause-tested c = lane-tested

pub returns-clause-owed : goal.returns-clause-owed
returns-clause-owed c = lane-owed

pub returns-clause-in_turn : goal.returns-clause-in_turn
returns-clause-in_turn c = lane_in_turn

pub returns-clause-spelled : goal.returns-clause-spelled
returns-clause-spelled c = lane_spelled
