use Rattle.std.proofs.Common.{refl}
use Rattle.trace_text.specs.Text.{trace_text}
use Rattle.trace_reader.proofs.Traces.{one_trace, one_line}
use Rattle.trace_reader.proofs.laws.trace_laws.Goals as goal

pub returns-clause-printed : goal.returns-clause-printed
unfolding trace_text
returns-clause-printed c report is each = record { config = is; each = each; text = refl }

pub returns-clause-one : goal.returns-clause-one
returns-clause-one c = one_trace

pub returns-clause-line : goal.returns-clause-line
returns-clause-line c = one_line
