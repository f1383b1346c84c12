-- Steps one after another.
use Rattle.std.proofs.Common.{◌≡◌, ℕ, ◌+◌, ◌-◌, ◌≤◌, List, [], ◌++◌, length, drop, refl, sym, ap, ◌∙◌, arith, append_assoc, append-nil, length-append}
use Rattle.std.proofs.KnownBytes.{Consumes-nil, Consumes-trans, Consumes-kept}
use Rattle.std.proofs.Math.Seq.{drop-append_seam}
use Rattle.std.specs.Io.KnownBytes.{Consumes, Keeps}
use Rattle.input_reader.specs.Streams.{SourceView, IsFaultless}
use Rattle.votes_app.specs.declared.fault.VotesFault.{VotesFault}
use Rattle.votes_app.specs.declared.fault.VotesFault.TheVariants.{ReadFault, TooLong, NotATrace, Memory, WriteFault}
use Rattle.votes_app.specs.Steps.{Moves, IsCause, Stops}
use Rattle.votes_app.specs.Window.{Span}

-- ---- a step takes nothing, and uses some bytes of the window

pub uses : (s : SourceView) (w v : Span) (used : List ℕ) → w.bytes ≡ used ++ v.bytes → v.budget ≡ w.budget → Moves s s w v used
uses s w v used text budget = record {
  more = [];
  taken = Consumes-nil s.left;
  quiet = refl;
  text = append-nil w.bytes ∙ text;
  spent = omega (arith, budget);
}

-- ---- a step takes bytes, which stand in the window behind it

pub takes : (old new : SourceView) (w v : Span) (piece : List ℕ) → Consumes old.left new.left piece → IsFaultless old new → v.bytes ≡ w.bytes ++ piece
    → v.budget + length piece ≡ w.budget → Moves old new w v []
takes old new w v piece taken quiet text spent = record { more = piece; taken = taken; quiet = quiet; text = sym text; spent = spent }

-- ---- one step, and then another

regroup : (w v u first second used then : List ℕ) → w ++ first ≡ used ++ v → v ++ second ≡ then ++ u → w ++ (first ++ second) ≡ (used ++ then) ++ u
regroup w v u first second used then one two =
    sym (append_assoc w first second) ∙ ap (λ (xs : List ℕ). xs ++ second) one ∙ append_assoc used v second
    ∙ ap (λ (xs : List ℕ). used ++ xs) two ∙ sym (append_assoc used then u)

pub moves_then : (old now new : SourceView) (w v u : Span) (used then : List ℕ) → Moves old now w v used → Moves now new v u then → Moves old new w u (used ++ then)
moves_then old now new w v u used then first second = record {
  more = first.more ++ second.more;
  taken = Consumes-trans old.left now.left new.left first.more second.more first.taken second.taken;
  quiet = second.quiet ∙ first.quiet;
  text = regroup w.bytes v.bytes u.bytes first.more second.more used then first.text second.text;
  spent = omega (arith, first.spent, second.spent, length-append first.more second.more);
}

-- the cause of a stop is that of the steps together
cause_then : (fault : VotesFault) (old now new : SourceView) (before taken budget left : ℕ) → IsFaultless old now → left + before ≡ budget → IsCause fault now new taken left
    → IsCause fault old new (before + taken) budget
cause_then ReadFault old now new before taken budget left quiet spent rose = omega (arith, quiet, rose)
cause_then TooLong old now new before taken budget left quiet spent (still, all) = (still ∙ quiet, omega (arith, spent, all))
cause_then (NotATrace line) old now new before taken budget left quiet spent none = none
cause_then Memory old now new before taken budget left quiet spent still = still ∙ quiet
cause_then WriteFault old now new before taken budget left quiet spent still = still ∙ quiet

cause_of : (fault : VotesFault) (old new : SourceView) (taken total budget : ℕ) → taken ≡ total → IsCause fault old new taken budget → IsCause fault old new total budget
cause_of fault old new taken total budget same is = rw (sym same) is

pub stops_then : (fault : VotesFault) (old now new : SourceView) (w v : Span) (used then : List ℕ) → Moves old now w v used → Stops fault now new v then
    → Stops fault old new w (used ++ then)
stops_then fault old now new w v used then first second = record {
  more = first.more ++ second.more;
  rest = second.rest;
  taken = Consumes-trans old.left now.left new.left first.more second.more first.taken second.taken;
  text = regroup w.bytes v.bytes second.rest first.more second.more used then first.text second.text;
  few = omega (arith, first.spent, second.few, length-append first.more second.more);
  cause = cause_of fault old new (length first.more + length second.more) (length (first.more ++ second.more)) w.budget (sym (length-append first.more second.more))
      (cause_then fault old now new (length first.more) (length second.more) w.budget v.budget first.quiet first.spent second.cause);
}

-- ---- stops at once

pub stops_still : (fault : VotesFault) (old new : SourceView) (w : Span) → Keeps old.left new.left → IsCause fault old new 0 w.budget → Stops fault old new w []
stops_still fault old new w kept cause = record {
  more = [];
  rest = w.bytes;
  taken = Consumes-kept old.left old.left new.left [] (Consumes-nil old.left) kept;
  text = append-nil w.bytes;
  few = omega arith;
  cause = cause;
}

-- what was taken is gone
pub stops_taken : (fault : VotesFault) (old new : SourceView) (w : Span) (piece : List ℕ) → Consumes old.left new.left piece → length piece ≤ w.budget
    → IsCause fault old new (length piece) w.budget → Stops fault old new w []
stops_taken fault old new w piece taken few cause = record { more = piece; rest = w.bytes ++ piece; taken = taken; text = refl; few = few; cause = cause }

-- ---- the bytes behind a line

-- where bytes are a line and others, so many are the line
pub behind : (bytes line rest : List ℕ) → bytes ≡ line ++ rest → drop (length bytes - length rest) bytes ≡ rest
behind bytes line rest text =
    let count : length bytes - length rest ≡ length line = omega (arith, ap (λ (xs : List ℕ). length xs) text, length-append line rest) in
    ap (λ (k : ℕ). drop k bytes) count ∙ ap (λ (xs : List ℕ). drop (length line) xs) text ∙ drop-append_seam line rest
