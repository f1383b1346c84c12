-- What the steps of printing come to. The letters: w is a window before a step and v behind it, and used are the bytes that the
-- step used, at the front of those in the window and of those that it took.
use Rattle.std.specs.Prelude.{◌≡◌, ◌⊎◌, ℕ, ◌+◌, ◌<◌, ◌≤◌, Bool, true, false, List, [], ◌∷◌, ◌++◌, length, drop, Option, None, Some, Result, Ok, Err, All, ◌==◌}
use Rattle.std.specs.List.{list_any}
use Rattle.std.specs.Io.KnownBytes.{Consumes, IsAtEnd}
use Rattle.hb_base.specs.Numbers.{Numbers}
use Rattle.hb_base.specs.Outside.{Rose}
use Rattle.hb_wire.specs.declared.post.Post.{Post}
use Rattle.input_reader.specs.Streams.{SourceView, IsFaultless}
use Rattle.ledger_text.specs.Lines.{end_line}
use Rattle.trace_text.specs.Text.{trace_line, post_line, posts_text}
use Rattle.trace_reader.specs.Trace.{longest_trace, IsConfig, IsPost, HasNoHead}
use Rattle.vote_words.specs.declared.detail.Detail.{Detail}
use Rattle.vote_words.specs.Words.{post_in_words, posts_in_words}
use Rattle.votes_app.specs.declared.fault.VotesFault.{VotesFault}
use Rattle.votes_app.specs.declared.fault.VotesFault.TheVariants.{ReadFault, TooLong, NotATrace, Memory, WriteFault}
use Rattle.votes_app.specs.Streams.{SinkView, HasPut, FailsWithin}
use Rattle.votes_app.specs.Window.{Span}

-- Some bytes were taken, and no take failed. Of those in the window and those that were taken some are used, and the others are
-- in the window now.
pub record Moves (old new : SourceView) (w v : Span) (used : List ℕ) : Type 0 where
  pub more : List ℕ
  pub taken : Consumes old.left new.left more
  pub quiet : IsFaultless old new
  pub text : w.bytes ++ more ≡ used ++ v.bytes
  pub spent : v.budget + length more ≡ w.budget

-- Why a step stopped, where so many bytes were taken of those that might be. TooLong: all of them.
abbrev pub IsCause : VotesFault → SourceView → SourceView → ℕ → ℕ → Type 0
IsCause ReadFault old new taken budget = Rose old.faults new.faults
IsCause TooLong old new taken budget = IsFaultless old new × (taken ≡ budget)
IsCause (NotATrace line) old new taken budget = ⊥
IsCause Memory old new taken budget = IsFaultless old new
IsCause WriteFault old new taken budget = IsFaultless old new

-- A step stopped after it had used some bytes. What it had taken besides may be gone.
pub record Stops (fault : VotesFault) (old new : SourceView) (w : Span) (used : List ℕ) : Type 0 where
  pub more : List ℕ
  pub rest : List ℕ
  pub taken : Consumes old.left new.left more
  pub text : w.bytes ++ more ≡ used ++ rest
  pub few : length more ≤ w.budget
  pub cause : IsCause fault old new (length more) w.budget

-- a text was put, or else a front of it where that is the fault
abbrev pub PutsUpTo : VotesFault → SinkView → SinkView → List ℕ → Type 0
PutsUpTo ReadFault old new text = HasPut old new text
PutsUpTo TooLong old new text = HasPut old new text
PutsUpTo (NotATrace line) old new text = HasPut old new text
PutsUpTo Memory old new text = HasPut old new text
PutsUpTo WriteFault old new text = FailsWithin old new text

-- ---- lines out of a source

-- whether a line ends in bytes
abbrev pub has_end : List ℕ → Bool
has_end bytes = list_any (λ byte. byte == 10) bytes

-- a line ends in the window, or the input is at its end
abbrev pub Shows : Bool → SourceView → Span → Type 0
Shows true new v = has_end v.bytes ≡ true
Shows false new v = IsAtEnd new.left

-- some bytes were taken into the window, or the input is at its end
abbrev pub TakesPiece : SourceView → SourceView → Span → Span → Result (Option Bool) VotesFault → Type 0
TakesPiece old new w v (Ok None) = Moves old new w v [] × IsAtEnd new.left
TakesPiece old new w v (Ok (Some ends)) = Moves old new w v [] × (v.budget < w.budget) × (ends ≡ true → has_end v.bytes ≡ true)
TakesPiece old new w v (Err WriteFault) = ⊥
TakesPiece old new w v (Err fault) = Stops fault old new w []

abbrev pub TakesLine : SourceView → SourceView → Span → Span → Result Bool VotesFault → Type 0
TakesLine old new w v (Ok ends) = Moves old new w v [] × Shows ends new v
TakesLine old new w v (Err WriteFault) = ⊥
TakesLine old new w v (Err fault) = Stops fault old new w []

-- whether the input is at its end; where it is not, one byte more was taken
abbrev pub TakesEnd : SourceView → SourceView → Span → Result Bool VotesFault → Type 0
TakesEnd old new w (Ok true) = Consumes old.left new.left [] × IsAtEnd new.left × IsFaultless old new × (1 ≤ w.budget)
TakesEnd old new w (Ok false) = (byte : ℕ) × Consumes old.left new.left (byte ∷ []) × IsFaultless old new × (1 ≤ w.budget)
TakesEnd old new w (Err ReadFault) = Stops ReadFault old new w []
TakesEnd old new w (Err TooLong) = Stops TooLong old new w []
TakesEnd old new w (Err _) = ⊥

-- ---- the first line

-- the window begins with the first line of this run, behind which it goes on
pub record IsHead (c : Numbers) (w v : Span) : Type 0 where
  pub config : IsConfig c
  pub text : w.bytes ≡ trace_line c ++ v.bytes
  pub budget : v.budget ≡ w.budget

abbrev pub PrintsHead : Span → Span → SinkView → SinkView → Result Numbers VotesFault → Type 0
PrintsHead w v out out_after (Ok c) = IsHead c w v × HasPut out out_after (trace_line c)
PrintsHead w v out out_after (Err (NotATrace line)) = (line ≡ 1) × HasNoHead w.bytes × (out_after ≡ out)
PrintsHead w v out out_after (Err WriteFault) = (c : Numbers) × IsHead c w v × FailsWithin out out_after (trace_line c)
PrintsHead w v out out_after (Err _) = ⊥

-- ---- the lines of posts

-- the window begins with the line of post k, behind which it goes on
pub record IsLine (k : ℕ) (post : Post) (w v : Span) : Type 0 where
  pub is : IsPost post
  pub text : w.bytes ≡ post_line k post ++ v.bytes
  pub budget : v.budget ≡ w.budget

-- no line of post k comes next
pub record HasNoPost (k : ℕ) (bytes : List ℕ) : Type 0 where
  pub none : (post : Post) (later : List ℕ) → IsPost post → bytes ≡ post_line k post ++ later → ⊥

-- so many bytes are the line of post k
pub record HasLine (k : ℕ) (bytes : List ℕ) (post : Post) (used : ℕ) : Type 0 where
  pub is : IsPost post
  pub few : used ≤ length bytes
  pub text : bytes ≡ post_line k post ++ drop used bytes

-- post k and how many bytes its line has, if it comes next
abbrev pub FindsPost : ℕ → List ℕ → Option (Post × ℕ) → Type 0
FindsPost k bytes None = HasNoPost k bytes
FindsPost k bytes (Some (post, used)) = HasLine k bytes post used

abbrev pub PrintsPost : Detail → Numbers → ℕ → Span → Span → SinkView → SinkView → Result Bool VotesFault → Type 0
PrintsPost detail c k w v out out_after (Ok true) = (post : Post) × IsLine k post w v × HasPut out out_after (post_in_words detail c k post)
PrintsPost detail c k w v out out_after (Ok false) = HasNoPost k w.bytes × (v ≡ w) × (out_after ≡ out)
PrintsPost detail c k w v out out_after (Err Memory) = out_after ≡ out
PrintsPost detail c k w v out out_after (Err WriteFault) = (post : Post) × IsLine k post w v × FailsWithin out out_after (post_in_words detail c k post)
PrintsPost detail c k w v out out_after (Err _) = ⊥

-- posts were used and put in words, numbered from 0 on
pub record ArePrinted (detail : Detail) (c : Numbers) (posts : List Post) (old new : SourceView) (w v : Span) (out out_after : SinkView) : Type 0 where
  pub each : All IsPost posts
  pub moves : Moves old new w v (posts_text 0 posts)
  pub put : HasPut out out_after (posts_in_words detail c 0 posts)

-- a step stopped after some posts, or within the last of them
pub record StopsIn (detail : Detail) (c : Numbers) (fault : VotesFault) (old new : SourceView) (w : Span) (out out_after : SinkView) : Type 0 where
  pub posts : List Post
  pub each : All IsPost posts
  pub stops : Stops fault old new w (posts_text 0 posts)
  pub put : PutsUpTo fault out out_after (posts_in_words detail c 0 posts)

abbrev pub PrintsPosts : Detail → Numbers → SourceView → SourceView → Span → Span → SinkView → SinkView → Result ℕ VotesFault → Type 0
PrintsPosts detail c old new w v out out_after (Ok count) =
    (posts : List Post) × ArePrinted detail c posts old new w v out out_after × (length posts ≡ count) × HasNoPost count v.bytes
    × ((ends : Bool) × Shows ends new v) × (count ≤ longest_trace + 1)
PrintsPosts detail c old new w v out out_after (Err fault) = StopsIn detail c fault old new w out out_after

-- ---- the last line

-- no last line comes next
pub record HasNoEnd (count : ℕ) (bytes : List ℕ) : Type 0 where
  pub none : (later : List ℕ) → bytes ≡ end_line count ++ later → ⊥

-- the last line comes next, and the input ends behind it
pub record IsEnd (count : ℕ) (old new : SourceView) (w : Span) : Type 0 where
  pub text : w.bytes ≡ end_line count
  pub taken : Consumes old.left new.left []
  pub ended : IsAtEnd new.left
  pub quiet : IsFaultless old new
  pub spare : 1 ≤ w.budget

-- the last line comes next, and something behind it
pub record GoesOn (count : ℕ) (old new : SourceView) (w : Span) : Type 0 where
  pub more : List ℕ
  pub byte : ℕ
  pub later : List ℕ
  pub taken : Consumes old.left new.left more
  pub quiet : IsFaultless old new
  pub few : length more ≤ w.budget
  pub text : w.bytes ++ more ≡ end_line count ++ byte ∷ later

abbrev pub PrintsEnd : ℕ → SourceView → SourceView → Span → SinkView → SinkView → Result (Unit {0}) VotesFault → Type 0
PrintsEnd count old new w out out_after (Ok _) = IsEnd count old new w × HasPut out out_after (end_line count)
PrintsEnd count old new w out out_after (Err (NotATrace line)) =
    (((line ≡ count + 2) × HasNoEnd count w.bytes × (new ≡ old)) ⊎ ((line ≡ count + 3) × GoesOn count old new w)) × (out_after ≡ out)
PrintsEnd count old new w out out_after (Err WriteFault) = IsEnd count old new w × FailsWithin out out_after (end_line count)
PrintsEnd count old new w out out_after (Err ReadFault) = Stops ReadFault old new w [] × (out_after ≡ out)
PrintsEnd count old new w out out_after (Err TooLong) = Stops TooLong old new w [] × (out_after ≡ out)
PrintsEnd count old new w out out_after (Err Memory) = ⊥
