-- What is said of the text of a history: its verdict, or why it has none. Numbers are in decimal.
use Rattle.std.specs.Prelude.{ℕ, List, ◌++◌, codes}
use Rattle.history_verdict.specs.declared.verdict.Verdict.{Verdict}
use Rattle.history_verdict.specs.declared.verdict.Verdict.TheVariants.{Legal, Illegal}
use Rattle.ledger_text.specs.Lines.{counted}
use Rattle.trace_reader.specs.declared.fault.TraceFault.{TraceFault}
use Rattle.trace_reader.specs.declared.fault.TraceFault.TheVariants as faults

-- a verdict, with the number of posts, or with that of the first that may not follow those before it
unfoldable pub verdict_line : Verdict → List ℕ
verdict_line (Legal posts) = counted (codes "legal ") posts ++ codes "\n"
verdict_line (Illegal post) = counted (codes "illegal ") post ++ codes "\n"

-- a refusal, with the first line that breaks the form
unfoldable pub refusal_words : TraceFault → List ℕ
refusal_words faults.ReadFault = codes "read failed"
refusal_words faults.TooLong = codes "refused 21 TooLongTrace"
refusal_words (faults.NotATrace line) = counted (codes "refused 20 NotATrace line=") line
refusal_words faults.Memory = codes "no memory"

-- its line
unfoldable pub refusal_line : TraceFault → List ℕ
refusal_line fault = refusal_words fault ++ codes "\n"
