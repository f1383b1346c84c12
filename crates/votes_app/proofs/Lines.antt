-- The lines that the readers of a history give.
use Rattle.std.proofs.Common.{◌≡◌, ℕ, ◌-◌, ◌≤◌, true, false, eqb, List, [], ◌∷◌, ◌++◌, length, drop, Some, None, refl, sym, ap, subst, ◌∙◌, arith, append-nil, length-append}
use Rattle.std.proofs.KnownBytes.{Consumes-nil}
use Rattle.std.proofs.lemmas.Bool.{eqb-true}
use Rattle.std.specs.Io.KnownBytes.{Consumes, Appends}
use Rattle.hb_base.specs.Outside.{Rose, AppendsFront}
use Rattle.hb_wire.specs.declared.post.Post.{Post}
use Rattle.hb_wire.proofs.FieldLemmas.{IsBytes}
use Rattle.input_reader.specs.Streams.{SourceView, IsFaultless}
use Rattle.ledger_text.specs.Lines.{end_line}
use Rattle.trace_text.specs.Text.{post_line}
use Rattle.trace_reader.specs.Reading.{post_at, end_at}
use Rattle.trace_reader.proofs.Fields.{after_takes, after_again}
use Rattle.trace_reader.proofs.PostLines.{reads_post}
use Rattle.trace_reader.proofs.Whole.{no_more}
use Rattle.votes_app.specs.Steps.{IsLine, HasNoPost, HasLine, HasNoEnd, GoesOn}
use Rattle.votes_app.specs.Streams.{SinkView, HasPut, FailsWithin}
use Rattle.votes_app.specs.Window.{Span}
use Rattle.votes_app.proofs.Moving.{behind}

some_none : {A : Type 0} (x : A) → Some x ≡ None → ⊥
some_none x is = cc

-- ---- a post

pub no_line : (bytes : List ℕ) (k j : ℕ) → j ≡ k → post_at j bytes ≡ None → HasNoPost k bytes
no_line bytes k j count none = record {
  none = λ post later is text. no_more bytes j k count none post later is text;
}

pub rest_short : (bytes rest : List ℕ) (j : ℕ) (post : Post) → IsBytes bytes → post_at j bytes ≡ Some (post, rest) → length rest ≤ length bytes
rest_short bytes rest j post are read =
    let t = (reads_post j).takes bytes post rest are read in
    omega (arith, ap (λ (xs : List ℕ). length xs) t.1, length-append (post_line j post) rest)

pub has_line : (bytes rest : List ℕ) (k j : ℕ) (post : Post) → IsBytes bytes → j ≡ k → post_at j bytes ≡ Some (post, rest)
    → HasLine k bytes post (length bytes - length rest)
has_line bytes rest k j post are count read =
    let t = (reads_post j).takes bytes post rest are read in
    record {
      is = t.0;
      few = omega arith;
      text = t.1 ∙ ap (λ (n : ℕ). post_line n post ++ rest) count ∙ ap (λ (xs : List ℕ). post_line k post ++ xs) (sym (behind bytes (post_line j post) rest t.1));
    }

pub line_of : (bytes : List ℕ) (w v : Span) (k used : ℕ) (post : Post) → HasLine k bytes post used → bytes ≡ w.bytes → v.bytes ≡ drop used w.bytes → v.budget ≡ w.budget
    → IsLine k post w v
line_of bytes w v k used post line same dropped budget = record {
  is = line.is;
  text = sym same ∙ line.text ∙ ap (λ (xs : List ℕ). post_line k post ++ drop used xs) same ∙ ap (λ (xs : List ℕ). post_line k post ++ xs) (sym dropped);
  budget = budget;
}

-- ---- puts

pub put_of : (old new : SinkView) (line text : List ℕ) → line ≡ text → Appends old.held new.held line → new.faults ≡ old.faults → HasPut old new text
put_of old new line text same put quiet = record { appended = subst (λ (xs : List ℕ). Appends old.held new.held xs) same put; quiet = quiet }

pub fail_of : (old new : SinkView) (line text : List ℕ) → line ≡ text → AppendsFront old.held new.held line → Rose old.faults new.faults → FailsWithin old new text
fail_of old new line text same put rose = record { front = subst (λ (xs : List ℕ). AppendsFront old.held new.held xs) same put; rose = rose }

-- ---- the last line

pub no_end : (bytes : List ℕ) (w : Span) (count j : ℕ) → bytes ≡ w.bytes → j ≡ count → end_at j bytes ≡ None → HasNoEnd count w.bytes
no_end bytes w count j same number none = record {
  none = λ later text.
      let here : bytes ≡ end_line j ++ later = same ∙ text ∙ ap (λ (n : ℕ). end_line n ++ later) (sym number) in
      some_none later (sym (after_again (end_line j) later) ∙ ap (end_at j) (sym here) ∙ none);
}

pub end_takes : (bytes rest : List ℕ) (w : Span) (count j : ℕ) → bytes ≡ w.bytes → j ≡ count → end_at j bytes ≡ Some rest → w.bytes ≡ end_line count ++ rest
end_takes bytes rest w count j same number read = sym same ∙ after_takes (end_line j) bytes rest read ∙ ap (λ (n : ℕ). end_line n ++ rest) number

none_left : (rest : List ℕ) → eqb (length rest) 0 ≡ true → rest ≡ []
none_left [] is = refl
none_left (x ∷ xs) is = absurd (omega (arith, eqb-true (length (x ∷ xs)) 0 is))

pub end_whole : (rest : List ℕ) (w : Span) (count : ℕ) → w.bytes ≡ end_line count ++ rest → eqb (length rest) 0 ≡ true → w.bytes ≡ end_line count
end_whole rest w count text none = text ∙ ap (λ (xs : List ℕ). end_line count ++ xs) (none_left rest none) ∙ append-nil (end_line count)

pub goes_on_here : (rest : List ℕ) (s : SourceView) (w : Span) (count : ℕ) → w.bytes ≡ end_line count ++ rest → eqb (length rest) 0 ≡ false → GoesOn count s s w
goes_on_here [] s w count text some = absurd cc
goes_on_here (byte ∷ later) s w count text some = record {
  more = [];
  byte = byte;
  later = later;
  taken = Consumes-nil s.left;
  quiet = refl;
  few = omega arith;
  text = append-nil w.bytes ∙ text;
}

pub goes_on_there : (old new : SourceView) (w : Span) (count byte : ℕ) → w.bytes ≡ end_line count → Consumes old.left new.left (byte ∷ []) → IsFaultless old new → 1 ≤ w.budget
    → GoesOn count old new w
goes_on_there old new w count byte text taken quiet few = record {
  more = byte ∷ [];
  byte = byte;
  later = [];
  taken = taken;
  quiet = quiet;
  few = few;
  text = ap (λ (xs : List ℕ). xs ++ byte ∷ []) text;
}
