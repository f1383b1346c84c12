use Rattle.hb_rules.proofs.AgreementParts.{agreement-parts, agreement-guarded, agreement-forgets, agreement-tested}
use Rattle.hb_rules.proofs.AgreementSlots.{agreement-owed, agreement_in_turn, agreement_spelled}
use Rattle.hb_rules.proofs.laws.agreement_slot_laws.Goals as goal

pub returns-clause-parts : goal.returns-clause-parts
returns-clause-parts c = agreement-parts

pub returns-clause-guarded : goal.returns-clause-guarded
returns-clause-guarded c = agreement-guarded

pub returns-clause-forgetful : goal.returns-clause-forgetful
returns-clause-forgetful c = agreement-forgets

pub returns-clause-tested : goal.returns-clause-tested
returns-clause-tested c = agreement-tested

pub returns-clause-owed : goal.returns-clause-owed
returns-clause-owed c = agreement-owed

pub returns-clause-in_turn : goal.returns-clause-in_turn
returns-clause-in_turn c = agreement_in_turn

pub returns-clause-spelled : goal.returns-clause-spelled
returns-clause-spelled c = agreement_spelled
