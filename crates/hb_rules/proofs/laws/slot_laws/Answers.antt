use Rattle.hb_rules.proofs.Passing.{passes-settled, IsOwed-unique, IsOwed-nil, IsOwed-both, IsOwed-plain, plain-rests, pass-rests, owed_is_owed, owed-rests, owed-forgets, idle-forgets}
use Rattle.hb_rules.proofs.Within.{IsOwed-same, IsOwed-made}
use Rattle.hb_rules.proofs.Tested.{owed-same}
use Rattle.hb_rules.proofs.laws.slot_laws.Goals as goal

pub returns-clause-settled : goal.returns-clause-settled
returns-clause-settled c = passes-settled

pub returns-clause-unique : goal.returns-clause-unique
returns-clause-unique c = IsOwed-unique

pub returns-clause-nothing : goal.returns-clause-nothing
returns-clause-nothing c = IsOwed-nil

pub returns-clause-both : goal.returns-clause-both
returns-clause-both c = IsOwed-both

pub returns-clause-plain_after : goal.returns-clause-plain_after
returns-clause-plain_after c = λ slots own heard plain. pass-rests slots plain own heard

pub returns-clause-plain_rests : goal.returns-clause-plain_rests
returns-clause-plain_rests c = λ slots own more heard plain idle. plain-rests slots plain own more heard idle

pub returns-clause-plain_first : goal.returns-clause-plain_first
returns-clause-plain_first c = IsOwed-plain

pub returns-clause-same : goal.returns-clause-same
returns-clause-same c = IsOwed-same

pub returns-clause-made : goal.returns-clause-made
returns-clause-made c = IsOwed-made

pub returns-clause-owed : goal.returns-clause-owed
returns-clause-owed c = owed_is_owed

pub returns-clause-owed_rests : goal.returns-clause-owed_rests
returns-clause-owed_rests c = owed-rests

pub returns-clause-owed_same : goal.returns-clause-owed_same
returns-clause-owed_same c = owed-same

pub returns-clause-owed_forgets : goal.returns-clause-owed_forgets
returns-clause-owed_forgets c = owed-forgets

pub returns-clause-forgets : goal.returns-clause-forgets
returns-clause-forgets c = idle-forgets
