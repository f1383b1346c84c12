use Rattle.hb_rules.proofs.BroadcastParts.{broadcast-parts, broadcast-plain, broadcast-guarded, broadcast-forgets, broadcast-tested}
use Rattle.hb_rules.proofs.BroadcastSlots.{broadcast_in_turn, broadcast_spelled, broadcast-rests, broadcast-owed}
use Rattle.hb_rules.proofs.laws.broadcast_slot_laws.Goals as goal

pub returns-clause-parts : goal.returns-clause-parts
returns-clause-parts c = broadcast-parts

pub returns-clause-guarded : goal.returns-clause-guarded
returns-clause-guarded c = broadcast-guarded

pub returns-clause-forgetful : goal.returns-clause-forgetful
returns-clause-forgetful c = broadcast-forgets

pub returns-clause-tested : goal.returns-clause-tested
returns-clause-tested c = broadcast-tested

pub returns-clause-plain : goal.returns-clause-plain
returns-clause-plain c = broadcast-plain

pub returns-clause-rests : goal.returns-clause-rests
returns-clause-rests c = broadcast-rests

pub returns-clause-owed : goal.returns-clause-owed
returns-clause-owed c = broadcast-owed

pub returns-clause-in_turn : goal.returns-clause-in_turn
returns-clause-in_turn c = broadcast_in_turn

pub returns-clause-spelled : goal.returns-clause-spelled
returns-clause-spelled c = broadcast_spelled
