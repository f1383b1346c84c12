use Rattle.std.proofs.Common.{refl}
use Rattle.trace_text.specs.Text.{trace_text}
use Rattle.trace_audit.proofs.Texts.{verdict_of, right_on, finds_legal}
use Rattle.trace_audit.proofs.laws.audit_laws.Goals as goal

pub returns-clause-one : goal.returns-clause-one
returns-clause-one c = verdict_of

pub returns-clause-printed : goal.returns-clause-printed
unfolding trace_text
returns-clause-printed c report old new answer config posts short legal apart left audited =
    finds_legal report.config report.history.items answer
    (right_on c.verdict_laws.ensures.legal old new (trace_text report) report.config report.history.items answer audited left short
    (record { config = config; each = posts; text = refl }))
    legal apart
