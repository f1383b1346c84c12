-- The verdict on a text.
use Rattle.std.proofs.Common.{◌≡◌, ℕ, ◌≤◌, List, length, Some, Result, Ok, Err, sym, subst, arith}
use Rattle.hb_base.specs.Numbers.{Numbers}
use Rattle.hb_wire.specs.declared.post.Post.{Post}
use Rattle.hb_rules.specs.History.{IsLegal}
use Rattle.hb_rules.specs.Strings.{NoCollision}
use Rattle.input_reader.specs.Streams.{SourceView}
use Rattle.history_verdict.specs.declared.verdict.Verdict.{Verdict}
use Rattle.history_verdict.specs.declared.verdict.Verdict.TheVariants.{Legal}
use Rattle.history_verdict.specs.Verdicts.{IsVerdict}
use Rattle.trace_reader.specs.declared.fault.TraceFault.{TraceFault}
use Rattle.trace_reader.specs.declared.fault.TraceFault.TheVariants.{ReadFault, TooLong, NotATrace, Memory}
use Rattle.trace_reader.specs.Trace.{longest_trace, IsTrace}
use Rattle.trace_reader.proofs.Traces.{one_trace}
use Rattle.trace_audit.specs.Audits.{HasVerdict, Audits, IsRightOn, FindsLegal}
use Rattle.trace_audit.proofs.Left.{all_left, more_left}

-- it is that on what the text is of
pub verdict_of : (bytes : List ℕ) (c : Numbers) (posts : List Post) (verdict : Verdict) → IsTrace bytes c posts → HasVerdict bytes verdict
    → IsVerdict c posts verdict
verdict_of bytes c posts verdict text has =
    let one = one_trace bytes has.config c has.posts posts has.text text in
    subst (λ (ps : List Post). IsVerdict c ps verdict) one.1 (subst (λ (d : Numbers). IsVerdict d has.posts verdict) one.0 has.is)

-- the verdict on what a source has left
verdict_left : (old new : SourceView) (input : List ℕ) (c : Numbers) (posts : List Post) (verdict : Verdict) → old.left ≡ Some input
    → IsTrace input c posts → Audits old new (Ok verdict) → IsVerdict c posts verdict
verdict_left old new input c posts verdict left text audited =
    verdict_of input c posts verdict text
    (subst (λ (bytes : List ℕ). HasVerdict bytes verdict) (sym (all_left old new input audited.0 audited.2 left)) audited.3)

-- a text that is short enough is not refused as one that is none
not_long : (old new : SourceView) (input : List ℕ) → old.left ≡ Some input → length input ≤ longest_trace → Audits old new (Err TooLong) → ⊥
not_long old new input left short most = omega (arith, short, more_left longest_trace old new input most left)

not_broken : (old new : SourceView) (input : List ℕ) (line : ℕ) (c : Numbers) (posts : List Post) → old.left ≡ Some input
    → IsTrace input c posts → Audits old new (Err (NotATrace line)) → ⊥
not_broken old new input line c posts left text refused =
    refused.3.0 c posts (subst (λ (bytes : List ℕ). IsTrace bytes c posts) (all_left old new input refused.0 refused.2 left) text)

-- where no two hashed strings share a digest, the verdict on a legal history is that it is
abbrev pub LegalIsFound : Type 0
LegalIsFound = (c : Numbers) (history : List Post) (verdict : Verdict) → NoCollision c history → IsVerdict c history verdict → IsLegal c history
    → verdict ≡ Legal (length history)

-- the answer to a text is on the run and the posts of which it is
pub right_on : LegalIsFound → (old new : SourceView) (input : List ℕ) (c : Numbers) (posts : List Post) (answer : Result Verdict TraceFault)
    → Audits old new answer → old.left ≡ Some input → length input ≤ longest_trace → IsTrace input c posts → IsRightOn c posts answer
right_on law old new input c posts (Ok verdict) audited left short text =
    let is = verdict_left old new input c posts verdict left text audited in
    (is, λ apart legal. law c posts verdict apart is legal)
right_on law old new input c posts (Err ReadFault) audited left short text = tt
right_on law old new input c posts (Err TooLong) audited left short text = not_long old new input left short audited
right_on law old new input c posts (Err (NotATrace line)) audited left short text = not_broken old new input line c posts left text audited
right_on law old new input c posts (Err Memory) audited left short text = tt

pub finds_legal : (c : Numbers) (posts : List Post) (answer : Result Verdict TraceFault) → IsRightOn c posts answer → IsLegal c posts → NoCollision c posts
    → FindsLegal (length posts) answer
finds_legal c posts (Ok verdict) right legal apart = right.1 apart legal
finds_legal c posts (Err ReadFault) right legal apart = tt
finds_legal c posts (Err TooLong) right legal apart = right
finds_legal c posts (Err (NotATrace line)) right legal apart = right
finds_legal c posts (Err Memory) right legal apart = tt
