use Rattle.hb_rules.proofs.DeskParts.{desk-guarded, desk-forgets, desk-tested}
use Rattle.hb_rules.proofs.DeskSlots.{desk-owed, desk_in_turn, desk_proper, desk_spelled}
use Rattle.hb_rules.proofs.laws.desk_slot_laws.Goals as goal

pub returns-clause-guarded : goal.returns-clause-guarded
returns-clause-guarded c = desk-guarded

pub returns-clause-forgetful : goal.returns-clause-forgetful
returns-clause-forgetful c = desk-forgets

pub returns-clause-tested : goal.returns-clause-tested
returns-clause-tested c = desk-tested

pub returns-clause-owed : goal.returns-clause-owed
returns-clause-owed c = desk-owed

pub returns-clause-in_turn : goal.returns-clause-in_turn
returns-clause-in_turn c = desk_in_turn

pub returns-clause-proper : goal.returns-clause-proper
returns-clause-proper c = desk_proper

pub returns-clause-spelled : goal.returns-clause-spelled
returns-clause-spelled c = desk_spelled
