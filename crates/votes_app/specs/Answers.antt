-- What the program answers, and why.
use Rattle.std.specs.Prelude.{◌≡◌, ℕ, List, [], ◌∷◌, Option, None, Some, Result, Ok, Err, codes}
use Rattle.input_reader.specs.Streams.{SourceView}
use Rattle.trace_reader.specs.declared.fault.TraceFault.TheVariants as refusals
use Rattle.verdict_text.specs.Text.{refusal_line}
use Rattle.vote_words.specs.declared.detail.Detail.{Detail}
use Rattle.vote_words.specs.declared.detail.Detail.TheVariants.{Brief, Full}
use Rattle.votes_app.specs.declared.fault.VotesFault.{VotesFault}
use Rattle.votes_app.specs.declared.fault.VotesFault.TheVariants.{ReadFault, TooLong, NotATrace, Memory, WriteFault}
use Rattle.votes_app.specs.Printing.{PrintsVotes}
use Rattle.votes_app.specs.Streams.{SinkView, PutsOrFails, PutsOr7}

-- the words that ask for votes in this detail
abbrev pub words_for : Detail → List (List ℕ)
words_for Brief = []
words_for Full = codes "--full" ∷ []

-- what these words ask for
abbrev pub Asks : List (List ℕ) → Option Detail → Type 0
Asks words None = (detail : Detail) → words ≡ words_for detail → ⊥
Asks words (Some detail) = words ≡ words_for detail

abbrev pub usage_line : List ℕ
usage_line = codes "usage: hb_votes [--full]\n"

abbrev pub read_line : List ℕ
read_line = codes "read failed\n"

abbrev pub memory_line : List ℕ
memory_line = codes "no memory\n"

-- what is told of what printing came to, and the status that is answered
abbrev pub Tells : Result (Unit {0}) VotesFault → SinkView → SinkView → ℕ → Type 0
Tells (Ok _) old new status = (status ≡ 0) × (new ≡ old)
Tells (Err ReadFault) old new status = PutsOr7 old new read_line 6 status
Tells (Err TooLong) old new status = PutsOr7 old new (refusal_line refusals.TooLong) 3 status
Tells (Err (NotATrace line)) old new status = PutsOr7 old new (refusal_line (refusals.NotATrace line)) 3 status
Tells (Err Memory) old new status = (status ≡ 9) × PutsOrFails old new memory_line
Tells (Err WriteFault) old new status = (status ≡ 7) × (new ≡ old)

-- What a call answers that prints votes in this detail: what printing came to, and what was told of it.
pub record Answers (detail : Detail) (old new : SourceView) (out out_after err err_after : SinkView) (status : ℕ) : Type 0 where
  pub answer : Result (Unit {0}) VotesFault
  pub printed : PrintsVotes detail old new out out_after answer
  pub told : Tells answer err err_after status
