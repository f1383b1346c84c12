use Rattle.history_verdict.proofs.Apart.{apart_before, legal_verdict, one_verdict}
use Rattle.history_verdict.proofs.laws.verdict_laws.Goals as goal

pub returns-clause-legal : goal.returns-clause-legal
returns-clause-legal c = legal_verdict

pub returns-clause-beginnings : goal.returns-clause-beginnings
returns-clause-beginnings c = apart_before

pub returns-clause-one : goal.returns-clause-one
returns-clause-one c = one_verdict
