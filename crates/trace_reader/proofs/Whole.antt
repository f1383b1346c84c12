-- What the readers of the lines come to.
use Rattle.std.proofs.Common.{◌≡◌, ℕ, ◌+◌, ◌*◌, ◌^◌, ◌<◌, ◌≤◌, false, eqb, List, [], ◌∷◌, ◌++◌, length, Some, None, refl, sym, ap, ◌∙◌, append_assoc, append-nil, arith, inl, inr, length-append, All}
use Rattle.std.proofs.lemmas.Bool.Decides.{nat_tests}
use Rattle.std.proofs.lemmas.List.Elements.{All-push}
use Rattle.hb_base.specs.Numbers.{Numbers}
use Rattle.hb_wire.specs.declared.post.Post.{Post}
use Rattle.hb_wire.proofs.FieldLemmas.{IsBytes}
use Rattle.ledger_text.specs.Lines.{end_line}
use Rattle.trace_text.specs.Text.{trace_line, post_line, posts_text}
use Rattle.trace_text.proofs.Numbered.{posts_append}
use Rattle.trace_reader.specs.Reading.{post_at, end_at}
use Rattle.trace_reader.specs.Trace.{IsConfig, IsPost, IsTrace, IsNoTrace, IsBegun, BreaksAt}
use Rattle.trace_reader.proofs.Fields.{bytes_behind, after_takes, after_again}
use Rattle.trace_reader.proofs.PostLines.{reads_post, line_long}
use Rattle.trace_reader.proofs.Traces.{breaks_none}

some_none : {A : Type 0} (x : A) → Some x ≡ None → ⊥
some_none x is = cc

-- ---- one post after another

-- the posts so far and what is left are all
pub record AreRead (bytes : List ℕ) (posts : List Post) (rest : List ℕ) : Type 0 where
  pub each : All IsPost posts
  pub text : bytes ≡ posts_text 0 posts ++ rest
  pub few : 31 * length posts + length rest ≤ length bytes

one_line : (k : ℕ) (posts : List Post) (post : Post) → k ≡ length posts → posts_text (0 + length posts) (post ∷ []) ≡ post_line k post
one_line k posts post count =
    let same : 0 + length posts ≡ k = omega (arith, count) in
    append-nil (post_line (0 + length posts) post) ∙ ap (λ (n : ℕ). post_line n post) same

-- one post more
pub read_more : (bytes rest later : List ℕ) (posts : List Post) (k : ℕ) (post : Post) → IsBytes bytes → k ≡ length posts → k < 2 ^ 64 → post_at k rest ≡ Some (post, later)
    → AreRead bytes posts rest → AreRead bytes (posts ++ post ∷ []) later × (length later < length rest)
read_more bytes rest later posts k post are count small read so_far =
    let t = (reads_post k).takes rest post later (bytes_behind bytes (posts_text 0 posts) rest so_far.text are) read in
    let long = line_long k post small t.0 in
    let size : length rest ≡ length (post_line k post) + length later = ap (λ (xs : List ℕ). length xs) t.1 ∙ length-append (post_line k post) later in
    let lines : posts_text 0 (posts ++ post ∷ []) ≡ posts_text 0 posts ++ post_line k post =
    posts_append 0 posts (post ∷ []) ∙ ap (λ (xs : List ℕ). posts_text 0 posts ++ xs) (one_line k posts post count) in (
      record {
        each = All-push IsPost posts post so_far.each t.0;
        text = so_far.text ∙ ap (λ (xs : List ℕ). posts_text 0 posts ++ xs) t.1 ∙ sym (append_assoc (posts_text 0 posts) (post_line k post) later) ∙ ap (λ (xs : List ℕ). xs ++ later) (sym lines);
        few = omega (arith, length-append posts (post ∷ []), size, long, so_far.few);
      },
      omega (arith, size, long),
    )

-- no further post
pub no_more : (rest : List ℕ) (k count : ℕ) → k ≡ count → post_at k rest ≡ None → (post : Post) (later : List ℕ) → IsPost post → rest ≡ post_line count post ++ later → ⊥
no_more rest k count same none post later is text =
    some_none (post, later) (sym ((reads_post k).again post later is) ∙ ap (λ (n : ℕ). post_at k (post_line n post ++ later)) same ∙ ap (post_at k) (sym text) ∙ none)

-- ---- the last line

no_end : (count : ℕ) (rest : List ℕ) → end_at count rest ≡ None → (later : List ℕ) → rest ≡ end_line count ++ later → ⊥
no_end count rest none later text = some_none later (sym (after_again (end_line count) later) ∙ ap (end_at count) (sym text) ∙ none)

begun : (whole bytes rest : List ℕ) (c : Numbers) (posts : List Post) → IsConfig c → whole ≡ trace_line c ++ bytes → All IsPost posts → bytes ≡ posts_text 0 posts ++ rest → IsBegun whole c posts rest
begun whole bytes rest c posts is head each text = record { config = is; each = each; text = head ∙ ap (λ (xs : List ℕ). trace_line c ++ xs) text }

broken : (whole : List ℕ) (line : ℕ) → BreaksAt whole line → IsNoTrace whole × BreaksAt whole line
broken whole line breaks = (breaks_none whole line breaks, breaks)

-- the line behind the posts is none that may come there
pub ends_wrong : (whole bytes rest : List ℕ) (c : Numbers) (posts : List Post) (count : ℕ) → IsConfig c → whole ≡ trace_line c ++ bytes → All IsPost posts → bytes ≡ posts_text 0 posts ++ rest
    → length posts ≡ count → ((post : Post) (later : List ℕ) → IsPost post → rest ≡ post_line (length posts) post ++ later → ⊥) → end_at count rest ≡ None
    → IsNoTrace whole × BreaksAt whole (count + 2)
ends_wrong whole bytes rest c posts count is head each text size no_post none =
    broken whole (count + 2) (inr (
      count,
      inl (
        refl,
        record {
          c = c;
          posts = posts;
          rest = rest;
          begun = begun whole bytes rest c posts is head each text;
          count_is = size;
          no_post = λ post later fits line. no_post post later fits (line ∙ ap (λ (k : ℕ). post_line k post ++ later) (sym size));
          no_end = no_end count rest none;
        },
      ),
    ))

pub some_later : (n : ℕ) → eqb n 0 ≡ false → 0 < n
some_later n is = grind (arith, nat_tests)

-- something stands behind the last line
pub goes_on : (whole bytes rest later : List ℕ) (c : Numbers) (posts : List Post) (count : ℕ) → IsConfig c → whole ≡ trace_line c ++ bytes → All IsPost posts → bytes ≡ posts_text 0 posts ++ rest
    → length posts ≡ count → end_at count rest ≡ Some later → 0 < length later → IsNoTrace whole × BreaksAt whole (count + 3)
goes_on whole bytes rest [] c posts count is head each text size read some = absurd (omega (arith, some))
goes_on whole bytes rest (byte ∷ later) c posts count is head each text size read some =
    broken whole (count + 3) (inr (
      count,
      inr (
        refl,
        record {
          c = c;
          posts = posts;
          byte = byte;
          later = later;
          begun = begun whole bytes (end_line count ++ byte ∷ later) c posts is head each (text ∙ ap (λ (xs : List ℕ). posts_text 0 posts ++ xs) (after_takes (end_line count) rest (byte ∷ later) read));
          count_is = size;
        },
      ),
    ))

-- nothing does
pub is_whole : (whole bytes rest later : List ℕ) (c : Numbers) (posts : List Post) (count : ℕ) → IsConfig c → whole ≡ trace_line c ++ bytes → All IsPost posts → bytes ≡ posts_text 0 posts ++ rest
    → length posts ≡ count → end_at count rest ≡ Some later → length later ≡ 0 → IsTrace whole c posts
is_whole whole bytes rest [] c posts count is head each text size read none = record {
  config = is;
  each = each;
  text =
      head ∙ ap (λ (xs : List ℕ). trace_line c ++ xs) (text ∙ ap (λ (xs : List ℕ). posts_text 0 posts ++ xs)
      (after_takes (end_line count) rest [] read ∙ append-nil (end_line count) ∙ ap end_line (sym size)));
}
is_whole whole bytes rest (byte ∷ later) c posts count is head each text size read none = absurd (omega (arith, none))
