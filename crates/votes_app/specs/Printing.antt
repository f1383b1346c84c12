-- What printing a history in words comes to.
use Rattle.std.specs.Prelude.{◌≡◌, ◌⊎◌, ℕ, ◌+◌, ◌≤◌, List, [], ◌++◌, length, Some, Result, Ok, Err}
use Rattle.std.specs.Io.KnownBytes.{Consumes, IsAtEnd}
use Rattle.hb_base.specs.Numbers.{Numbers}
use Rattle.hb_wire.specs.declared.post.Post.{Post}
use Rattle.input_reader.specs.Streams.{SourceView, IsFaultless}
use Rattle.ledger_text.specs.Lines.{end_line}
use Rattle.trace_reader.specs.Sources.{ReadsWhole}
use Rattle.trace_reader.specs.Trace.{longest_trace, IsTrace, IsBegun, BreaksAt}
use Rattle.vote_words.specs.declared.detail.Detail.{Detail}
use Rattle.vote_words.specs.Words.{begun_in_words, history_in_words}
use Rattle.votes_app.specs.declared.fault.VotesFault.{VotesFault}
use Rattle.votes_app.specs.declared.fault.VotesFault.TheVariants.{ReadFault, TooLong, NotATrace, Memory, WriteFault}
use Rattle.votes_app.specs.Steps.{IsCause, PutsUpTo}
use Rattle.votes_app.specs.Streams.{SinkView, HasPut}

-- bytes are the text of a run and posts, and these were put in words
pub record IsPrinted (detail : Detail) (out out_after : SinkView) (bytes : List ℕ) : Type 0 where
  pub config : Numbers
  pub posts : List Post
  pub text : IsTrace bytes config posts
  pub put : HasPut out out_after (history_in_words detail config posts)

-- bytes begin with the first line of a run and the lines of posts, and a text has these in words
pub record IsFront (detail : Detail) (bytes : List ℕ) (text : List ℕ) : Type 0 where
  pub config : Numbers
  pub posts : List Post
  pub rest : List ℕ
  pub begun : IsBegun bytes config posts rest
  pub words : text ≡ begun_in_words detail config posts

-- bytes are the text of a run and posts, and a text has these in words
pub record IsWhole (detail : Detail) (bytes : List ℕ) (text : List ℕ) : Type 0 where
  pub config : Numbers
  pub posts : List Post
  pub is : IsTrace bytes config posts
  pub words : text ≡ history_in_words detail config posts

-- A text has in words all bytes, behind which the source is at its end. So it is only where the put of the last line failed.
abbrev pub IsEnded : Detail → VotesFault → SourceView → List ℕ → List ℕ → Type 0
IsEnded detail ReadFault new bytes text = ⊥
IsEnded detail TooLong new bytes text = ⊥
IsEnded detail (NotATrace line) new bytes text = ⊥
IsEnded detail Memory new bytes text = ⊥
IsEnded detail WriteFault new bytes text = IsWhole detail bytes text × IsAtEnd new.left

-- a text has in words what bytes begin with, or nothing
abbrev pub IsPart : Detail → VotesFault → SourceView → List ℕ → List ℕ → Type 0
IsPart detail fault new bytes text = (text ≡ []) ⊎ IsFront detail bytes text ⊎ IsEnded detail fault new bytes text

-- Bytes were taken, and then printing stopped for this reason. What they begin with was put in words.
pub record StopsAfter (detail : Detail) (fault : VotesFault) (old new : SourceView) (out out_after : SinkView) : Type 0 where
  pub bytes : List ℕ
  pub taken : Consumes old.left new.left bytes
  pub few : length bytes ≤ longest_trace + 1
  pub cause : IsCause fault old new (length bytes) (longest_trace + 1)
  pub text : List ℕ
  pub part : IsPart detail fault new bytes text
  pub put : PutsUpTo fault out out_after text

-- Where the first line breaks the form, a text is empty. Else it has in words the first line and all posts before the line that
-- breaks it: behind these posts comes that line, or the last line and then that one.
abbrev pub IsBefore : Detail → List ℕ → ℕ → List ℕ → Type 0
IsBefore detail bytes line text =
    ((line ≡ 1) × (text ≡ []))
    ⊎ ((front : IsFront detail bytes text)
    × ((line ≡ length front.posts + 2) ⊎ ((line ≡ length front.posts + 3) × (later : List ℕ) × (front.rest ≡ end_line (length front.posts) ++ later))))

-- Bytes were taken, and in them, as in the whole input, this line is the first that breaks the form. All posts before it were put
-- in words.
pub record Breaks (detail : Detail) (line : ℕ) (old new : SourceView) (out out_after : SinkView) : Type 0 where
  pub bytes : List ℕ
  pub taken : Consumes old.left new.left bytes
  pub quiet : IsFaultless old new
  pub few : length bytes ≤ longest_trace + 1
  pub breaks : BreaksAt bytes line
  pub whole : (more : List ℕ) → new.left ≡ Some more → BreaksAt (bytes ++ more) line
  pub text : List ℕ
  pub before : IsBefore detail bytes line text
  pub put : HasPut out out_after text

-- What printing came to: the source was read to its end, and had the text of a run and posts, which were put in words; or why
-- not.
abbrev pub PrintsVotes : Detail → SourceView → SourceView → SinkView → SinkView → Result (Unit {0}) VotesFault → Type 0
PrintsVotes detail old new out out_after (Ok _) = ReadsWhole old new (IsPrinted detail out out_after)
PrintsVotes detail old new out out_after (Err (NotATrace line)) = Breaks detail line old new out out_after
PrintsVotes detail old new out out_after (Err fault) = StopsAfter detail fault old new out out_after
