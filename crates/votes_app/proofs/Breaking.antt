-- Texts in which a line breaks the form.
use Rattle.std.proofs.Common.{◌≡◌, ℕ, ◌+◌, ◌^◌, ◌<◌, ◌≤◌, Bool, true, false, List, [], ◌∷◌, ◌++◌, length, Option, Some, All, refl, sym, ap, subst, ◌∙◌, inl, inr, arith, append_assoc, append-nil, length-append}
use Rattle.std.proofs.KnownBytes.{Consumes-trans}
use Rattle.std.specs.Io.KnownBytes.{IsAtEnd}
use Rattle.hb_base.specs.Numbers.{Numbers}
use Rattle.hb_wire.specs.declared.post.Post.{Post}
use Rattle.input_reader.specs.Streams.{SourceView}
use Rattle.ledger_text.specs.Lines.{end_line}
use Rattle.trace_text.specs.Text.{trace_line, posts_text}
use Rattle.trace_reader.specs.Trace.{longest_trace, IsConfig, IsPost, HasNoHead, BreaksAt}
use Rattle.vote_words.specs.declared.detail.Detail.{Detail}
use Rattle.vote_words.specs.Words.{posts_in_words}
use Rattle.votes_app.specs.Printing.{Breaks}
use Rattle.votes_app.specs.Steps.{Moves, Shows, HasNoPost, HasNoEnd, GoesOn}
use Rattle.votes_app.specs.Streams.{SinkView}
use Rattle.votes_app.specs.Window.{Span}
use Rattle.votes_app.proofs.LineEnds.{no_post_more, no_end_more, no_head_more}
use Rattle.votes_app.proofs.Puts.{has_put_nothing}
use Rattle.votes_app.proofs.Whole.{start, HasBegun, begun_of, begun_words}

-- where the input is at its end, nothing is behind
nothing_more : (left : Option (List ℕ)) (more : List ℕ) → IsAtEnd left → left ≡ Some more → more ≡ []
nothing_more left more ended is = rw is at ended

-- ---- the first line

breaks_first : (bytes : List ℕ) → HasNoHead bytes → BreaksAt bytes 1
breaks_first bytes lacks = inl (refl, lacks)

first_more : (ends : Bool) (new : SourceView) (w : Span) (more : List ℕ) → Shows ends new w → HasNoHead w.bytes → new.left ≡ Some more → HasNoHead (w.bytes ++ more)
first_more true new w more shows lacks left = no_head_more w.bytes more shows lacks
first_more false new w more shows lacks left =
    subst (λ (xs : List ℕ). HasNoHead xs) (sym (ap (λ (xs : List ℕ). w.bytes ++ xs) (nothing_more new.left more shows left) ∙ append-nil w.bytes)) lacks

pub breaks_at_first : (detail : Detail) (line : ℕ) (ends : Bool) (old new : SourceView) (w : Span) (out : SinkView) → Moves old new start w [] → Shows ends new w → line ≡ 1
    → HasNoHead w.bytes → Breaks detail line old new out out
breaks_at_first detail line ends old new w out moves shows one lacks = record {
  bytes = moves.more;
  taken = moves.taken;
  quiet = moves.quiet;
  few = omega (arith, moves.spent);
  breaks = rw (one, moves.text) (breaks_first w.bytes lacks);
  whole = λ more left. rw (one, moves.text) (breaks_first (w.bytes ++ more) (first_more ends new w more shows lacks left));
  text = [];
  before = inl (one, refl);
  put = has_put_nothing out;
}

-- ---- behind the posts

ends_after : (bytes : List ℕ) (c : Numbers) (posts : List Post) (rest : List ℕ) (count : ℕ) → IsConfig c → All IsPost posts
    → bytes ≡ (trace_line c ++ posts_text 0 posts) ++ rest → length posts ≡ count → HasNoPost count rest → HasNoEnd count rest → BreaksAt bytes (count + 2)
ends_after bytes c posts rest count config each text same no_post no_end = inr (
  count,
  inl (
    refl,
    record {
      c = c;
      posts = posts;
      rest = rest;
      begun = begun_of bytes c posts rest config each text;
      count_is = same;
      no_post = no_post.none;
      no_end = no_end.none;
    },
  ),
)

-- the same line breaks the form of all that is left
after_more : (ends : Bool) (new : SourceView) (u : Span) (count : ℕ) (more : List ℕ) → Shows ends new u → count < 2 ^ 64 → HasNoPost count u.bytes → HasNoEnd count u.bytes
    → new.left ≡ Some more → HasNoPost count (u.bytes ++ more) × HasNoEnd count (u.bytes ++ more)
after_more true new u count more shows small no_post no_end left = (no_post_more count u.bytes more small shows no_post, no_end_more count u.bytes more small shows no_end)
after_more false new u count more shows small no_post no_end left =
    let same : u.bytes ++ more ≡ u.bytes = ap (λ (xs : List ℕ). u.bytes ++ xs) (nothing_more new.left more shows left) ∙ append-nil u.bytes in
    (subst (λ (xs : List ℕ). HasNoPost count xs) (sym same) no_post, subst (λ (xs : List ℕ). HasNoEnd count xs) (sym same) no_end)

text_more : (bytes used rest more : List ℕ) → bytes ≡ used ++ rest → bytes ++ more ≡ used ++ (rest ++ more)
text_more bytes used rest more text = ap (λ (xs : List ℕ). xs ++ more) text ∙ append_assoc used rest more

pub breaks_behind : (detail : Detail) (line : ℕ) (ends : Bool) (old new : SourceView) (u : Span) (c : Numbers) (posts : List Post) (out mid : SinkView) (count : ℕ)
    → HasBegun detail c posts old new u out mid → length posts ≡ count → count ≤ longest_trace + 1 → HasNoPost count u.bytes → Shows ends new u → line ≡ count + 2 → HasNoEnd count u.bytes
    → Breaks detail line old new out mid
breaks_behind detail line ends old new u c posts out mid count b same few no_post shows at no_end =
    let small : count < 2 ^ 64 = omega (arith, few) in
    record {
      bytes = b.moves.more;
      taken = b.moves.taken;
      quiet = b.moves.quiet;
      few = omega (arith, b.moves.spent);
      breaks = subst (λ (n : ℕ). BreaksAt b.moves.more n) (sym at) (ends_after b.moves.more c posts u.bytes count b.config b.each b.moves.text same no_post no_end);
      whole = λ more left.
          let later = after_more ends new u count more shows small no_post no_end left in
          subst (λ (n : ℕ). BreaksAt (b.moves.more ++ more) n) (sym at)
          (ends_after (b.moves.more ++ more) c posts (u.bytes ++ more) count b.config b.each
          (text_more b.moves.more (trace_line c ++ posts_text 0 posts) u.bytes more b.moves.text) same later.0 later.1);
      text = trace_line c ++ posts_in_words detail c 0 posts;
      before = inr (
        record {
          config = c;
          posts = posts;
          rest = u.bytes;
          begun = begun_of b.moves.more c posts u.bytes b.config b.each b.moves.text;
          words = begun_words detail c posts;
        },
        inl (at ∙ ap (λ (n : ℕ). n + 2) (sym same)),
      );
      put = b.put;
    }

-- ---- behind the last line

goes_on_after : (bytes : List ℕ) (c : Numbers) (posts : List Post) (count byte : ℕ) (later : List ℕ) → IsConfig c → All IsPost posts
    → bytes ≡ (trace_line c ++ posts_text 0 posts) ++ (end_line count ++ byte ∷ later) → length posts ≡ count → BreaksAt bytes (count + 3)
goes_on_after bytes c posts count byte later config each text same = inr (
  count,
  inr (
    refl,
    record {
      c = c;
      posts = posts;
      byte = byte;
      later = later;
      begun = begun_of bytes c posts (end_line count ++ byte ∷ later) config each text;
      count_is = same;
    },
  ),
)

pub breaks_at_end : (detail : Detail) (line : ℕ) (old now new : SourceView) (u : Span) (c : Numbers) (posts : List Post) (out mid : SinkView) (count : ℕ)
    → HasBegun detail c posts old now u out mid → length posts ≡ count → line ≡ count + 3 → GoesOn count now new u → Breaks detail line old new out mid
breaks_at_end detail line old now new u c posts out mid count b same at g =
    let used = trace_line c ++ posts_text 0 posts in
    let bytes = b.moves.more ++ g.more in
    let text : bytes ≡ used ++ (end_line count ++ g.byte ∷ g.later) =
    text_more b.moves.more used u.bytes g.more b.moves.text ∙ ap (λ (xs : List ℕ). used ++ xs) g.text in
    record {
      bytes = bytes;
      taken = Consumes-trans old.left now.left new.left b.moves.more g.more b.moves.taken g.taken;
      quiet = g.quiet ∙ b.moves.quiet;
      few = omega (arith, b.moves.spent, g.few, length-append b.moves.more g.more);
      breaks = subst (λ (n : ℕ). BreaksAt bytes n) (sym at) (goes_on_after bytes c posts count g.byte g.later b.config b.each text same);
      whole = λ more left.
          let grown : (end_line count ++ g.byte ∷ g.later) ++ more ≡ end_line count ++ g.byte ∷ (g.later ++ more) = append_assoc (end_line count) (g.byte ∷ g.later) more in
          subst (λ (n : ℕ). BreaksAt (bytes ++ more) n) (sym at)
          (goes_on_after (bytes ++ more) c posts count g.byte (g.later ++ more) b.config b.each
          (text_more bytes used (end_line count ++ g.byte ∷ g.later) more text ∙ ap (λ (xs : List ℕ). used ++ xs) grown) same);
      text = trace_line c ++ posts_in_words detail c 0 posts;
      before = inr (
        record {
          config = c;
          posts = posts;
          rest = end_line count ++ g.byte ∷ g.later;
          begun = begun_of bytes c posts (end_line count ++ g.byte ∷ g.later) b.config b.each text;
          words = begun_words detail c posts;
        },
        inr (at ∙ ap (λ (n : ℕ). n + 3) (sym same), g.byte ∷ g.later, ap (λ (n : ℕ). end_line n ++ g.byte ∷ g.later) (sym same)),
      );
      put = b.put;
    }
