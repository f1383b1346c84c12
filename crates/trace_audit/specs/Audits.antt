-- What an audit of a text comes to.
use Rattle.std.specs.Prelude.{◌≡◌, ℕ, List, length, Result, Ok, Err}
use Rattle.hb_base.specs.Numbers.{Numbers}
use Rattle.hb_wire.specs.declared.post.Post.{Post}
use Rattle.hb_rules.specs.History.{IsLegal}
use Rattle.hb_rules.specs.Strings.{NoCollision}
use Rattle.input_reader.specs.Streams.{SourceView}
use Rattle.history_verdict.specs.declared.verdict.Verdict.{Verdict}
use Rattle.history_verdict.specs.declared.verdict.Verdict.TheVariants.{Legal}
use Rattle.history_verdict.specs.Verdicts.{IsVerdict}
use Rattle.trace_reader.specs.declared.fault.TraceFault.{TraceFault}
use Rattle.trace_reader.specs.declared.fault.TraceFault.TheVariants.{ReadFault, TooLong, NotATrace, Memory}
use Rattle.trace_reader.specs.Sources.{ReadsWhole, IsRefusal}
use Rattle.trace_reader.specs.Trace.{IsTrace}

-- Bytes are the text of a run and posts on which this is the verdict.
pub record HasVerdict (bytes : List ℕ) (verdict : Verdict) : Type 0 where
  pub config : Numbers
  pub posts : List Post
  pub text : IsTrace bytes config posts
  pub is : IsVerdict config posts verdict

-- What a source was audited as: it was read to its end, and this is the verdict on the history that its bytes tell; or why there
-- was no trace, or no memory to judge it.
abbrev pub Audits : SourceView → SourceView → Result Verdict TraceFault → Type 0
Audits old new (Ok verdict) = ReadsWhole old new (λ bytes. HasVerdict bytes verdict)
Audits old new (Err fault) = IsRefusal old new fault

-- The answer to the text of a run and posts. It is the verdict on them, and where no two hashed strings share a digest, a
-- legal history is found legal; or a take failed, or there was no memory.
abbrev pub IsRightOn : Numbers → List Post → Result Verdict TraceFault → Type 0
IsRightOn c posts (Ok verdict) = IsVerdict c posts verdict × (NoCollision c posts → IsLegal c posts → verdict ≡ Legal (length posts))
IsRightOn c posts (Err ReadFault) = Unit {0}
IsRightOn c posts (Err TooLong) = ⊥
IsRightOn c posts (Err (NotATrace line)) = ⊥
IsRightOn c posts (Err Memory) = Unit {0}

-- An audit found a legal history of so many posts, if a take did not fail and there was memory.
abbrev pub FindsLegal : ℕ → Result Verdict TraceFault → Type 0
FindsLegal posts (Ok verdict) = verdict ≡ Legal posts
FindsLegal posts (Err ReadFault) = Unit {0}
FindsLegal posts (Err TooLong) = ⊥
FindsLegal posts (Err (NotATrace line)) = ⊥
FindsLegal posts (Err Memory) = Unit {0}
