-- Whole texts: a text tells of one run and its posts, and of another text one line is the first that breaks the form.
use Rattle.std.proofs.Common.{◌≡◌, ℕ, ◌+◌, ◌⊎◌, List, [], ◌∷◌, ◌++◌, length, refl, sym, ap, ◌∙◌, append_assoc, append-nil, arith, inl, inr, length-append, All}
use Rattle.std.proofs.lemmas.List.Elements.{All-head, All-tail}
use Rattle.hb_base.specs.Numbers.{Numbers}
use Rattle.hb_wire.specs.declared.post.Post.{Post}
use Rattle.hb_wire.proofs.FieldLemmas.{some_is}
use Rattle.ledger_text.specs.Lines.{end_line}
use Rattle.trace_text.specs.Text.{post_line, posts_text}
use Rattle.trace_reader.specs.Reading.{post_at}
use Rattle.trace_reader.specs.Trace.{IsPost, IsTrace, IsNoTrace, IsBegun, HasNoHead, EndsAfter, GoesOnAfter, BreaksAt}
use Rattle.trace_reader.proofs.Heads.{one_head}
use Rattle.trace_reader.proofs.PostLines.{reads_post, end_or_post}

-- ---- one post after another

one_post : (k : ℕ) (p q : Post) (x y : List ℕ) → IsPost p → IsPost q → post_line k p ++ x ≡ post_line k q ++ y → (p ≡ q) × (x ≡ y)
one_post k p q x y is_p is_q same =
    let both : (p, x) ≡ (q, y) = some_is (p, x) (q, y) (sym ((reads_post k).again p x is_p) ∙ ap (post_at k) same ∙ (reads_post k).again q y is_q) in
    (ap (λ (z : Post × List ℕ). z.0) both, ap (λ (z : Post × List ℕ). z.1) both)

-- more posts were taken of bytes, behind the same ones: x is left behind the fewer, and y behind the more
record AreMore (k : ℕ) (few more : List Post) (x y : List ℕ) : Type 0 where
  others : List Post
  whole : more ≡ few ++ others
  each : All IsPost others
  text : x ≡ posts_text (k + length few) others ++ y

more_behind : (k : ℕ) (p q : Post) (few more : List Post) (x y : List ℕ) → p ≡ q → AreMore (k + 1) few more x y → AreMore k (p ∷ few) (q ∷ more) x y
more_behind k p q few more x y same m =
    let place : k + 1 + length few ≡ k + length (p ∷ few) = omega arith in
    record {
      others = m.others;
      whole = ap (λ (z : Post). z ∷ more) (sym same) ∙ ap (λ (zs : List Post). p ∷ zs) m.whole;
      each = m.each;
      text = m.text ∙ ap (λ (n : ℕ). posts_text n m.others ++ y) place;
    }

none_before : (k : ℕ) (posts : List Post) (x y : List ℕ) → All IsPost posts → x ≡ posts_text k posts ++ y → AreMore k [] posts x y
none_before k posts x y each text =
    let start : k ≡ k + 0 = omega arith in
    record { others = posts; whole = refl; each = each; text = text ∙ ap (λ (n : ℕ). posts_text n posts ++ y) start }

-- of two lists of posts that bytes begin with, one begins the other
meet : (k : ℕ) (posts all : List Post) (x y : List ℕ) → All IsPost posts → All IsPost all → posts_text k posts ++ x ≡ posts_text k all ++ y
    → AreMore k posts all x y ⊎ AreMore k all posts y x
meet k [] all x y are each same = inl (none_before k all x y each same)
meet k (p ∷ posts) [] x y are each same = inr (none_before k (p ∷ posts) y x are (sym same))
meet k (p ∷ posts) (q ∷ all) x y are each same =
    let lines : post_line k p ++ (posts_text (k + 1) posts ++ x) ≡ post_line k q ++ (posts_text (k + 1) all ++ y) =
    sym (append_assoc (post_line k p) (posts_text (k + 1) posts) x) ∙ same ∙ append_assoc (post_line k q) (posts_text (k + 1) all) y in
    let first = one_post k p q (posts_text (k + 1) posts ++ x) (posts_text (k + 1) all ++ y) (All-head IsPost p posts are) (All-head IsPost q all each) lines in
    elim (meet (k + 1) posts all x y (All-tail IsPost p posts are) (All-tail IsPost q all each) first.1) [
      | inl m ↦ inl (more_behind k p q posts all x y first.0 m)
      | inr m ↦ inr (more_behind k q p all posts y x (sym first.0) m)
    ]

-- ---- where the posts end

-- no line of a next post comes
abbrev HasNoPost : List Post → List ℕ → Type 0
HasNoPost posts rest = (post : Post) (later : List ℕ) → IsPost post → rest ≡ post_line (length posts) post ++ later → ⊥

no_more : (posts all : List Post) (x y : List ℕ) → HasNoPost posts x → AreMore 0 posts all x y → (posts ≡ all) × (x ≡ y)
no_more posts all x y ends m = by m.others m.each m.whole m.text
  where
    by : (others : List Post) → All IsPost others → all ≡ posts ++ others → x ≡ posts_text (0 + length posts) others ++ y → (posts ≡ all) × (x ≡ y)
    by [] each whole text = (sym (whole ∙ append-nil posts), text)
    by (p ∷ others) each whole text =
        let place : 0 + length posts ≡ length posts = omega arith in
        absurd (ends p (posts_text (0 + length posts + 1) others ++ y) (All-head IsPost p others each)
        (text ∙ append_assoc (post_line (0 + length posts) p) (posts_text (0 + length posts + 1) others) y
        ∙ ap (λ (k : ℕ). post_line k p ++ (posts_text (0 + length posts + 1) others ++ y)) place))

-- bytes begin with one run and one list of posts behind which none comes
one_end : (bytes : List ℕ) (c d : Numbers) (posts all : List Post) (x y : List ℕ) → IsBegun bytes c posts x → IsBegun bytes d all y → HasNoPost posts x → HasNoPost all y
    → (c ≡ d) × (posts ≡ all) × (x ≡ y)
one_end bytes c d posts all x y first second no_first no_second =
    let head = one_head c d (posts_text 0 posts ++ x) (posts_text 0 all ++ y) first.config second.config (sym first.text ∙ second.text) in
    let same : (posts ≡ all) × (x ≡ y) = elim (meet 0 posts all x y first.each second.each head.1) [
      | inl m ↦ no_more posts all x y no_first m
      | inr m ↦ let back = no_more all posts y x no_second m in (sym back.0, sym back.1)
    ] in
    (head.0, same.0, same.1)

whole_begun : (bytes : List ℕ) (c : Numbers) (posts : List Post) → IsTrace bytes c posts → IsBegun bytes c posts (end_line (length posts))
whole_begun bytes c posts whole = record { config = whole.config; each = whole.each; text = whole.text }

end_no_post : (posts : List Post) (count : ℕ) (later : List ℕ) → HasNoPost posts (end_line count ++ later)
end_no_post posts count later post more is text = end_or_post count (length posts) post later more text

whole_no_post : (posts : List Post) → HasNoPost posts (end_line (length posts))
whole_no_post posts post more is text = end_or_post (length posts) (length posts) post [] more (append-nil (end_line (length posts)) ∙ text)

ends_no_post : (bytes : List ℕ) (count : ℕ) (ends : EndsAfter bytes count) → HasNoPost ends.posts ends.rest
ends_no_post bytes count ends post more is text = ends.no_post post more is (text ∙ ap (λ (k : ℕ). post_line k post ++ more) ends.count_is)

-- ---- one text, one run and its posts

pub one_trace : (bytes : List ℕ) (c d : Numbers) (posts all : List Post) → IsTrace bytes c posts → IsTrace bytes d all → (c ≡ d) × (posts ≡ all)
one_trace bytes c d posts all first second =
    let one =
    one_end bytes c d posts all (end_line (length posts)) (end_line (length all)) (whole_begun bytes c posts first) (whole_begun bytes d all second) (whole_no_post posts) (whole_no_post all) in
    (one.0, one.1)

-- ---- a text in which a line breaks the form is none

ends_none : (bytes : List ℕ) (count : ℕ) → EndsAfter bytes count → IsNoTrace bytes
ends_none bytes count ends d all whole =
    let one = one_end bytes ends.c d ends.posts all ends.rest (end_line (length all)) ends.begun (whole_begun bytes d all whole) (ends_no_post bytes count ends) (whole_no_post all) in
    ends.no_end [] (one.2 ∙ ap (λ (posts : List Post). end_line (length posts)) (sym one.1) ∙ ap end_line ends.count_is ∙ sym (append-nil (end_line count)))

goes_on_none : (bytes : List ℕ) (count : ℕ) → GoesOnAfter bytes count → IsNoTrace bytes
goes_on_none bytes count on d all whole =
    let one =
    one_end bytes on.c d on.posts all (end_line count ++ on.byte ∷ on.later) (end_line (length all)) on.begun (whole_begun bytes d all whole) (end_no_post on.posts count (on.byte ∷ on.later))
    (whole_no_post all) in
    let same : end_line count ++ on.byte ∷ on.later ≡ end_line count = one.2 ∙ ap (λ (posts : List Post). end_line (length posts)) (sym one.1) ∙ ap end_line on.count_is in
    omega (arith, ap (λ (xs : List ℕ). length xs) same, length-append (end_line count) (on.byte ∷ on.later))

pub breaks_none : (bytes : List ℕ) (line : ℕ) → BreaksAt bytes line → IsNoTrace bytes
breaks_none bytes line (inl none) = λ d all whole. none.1.no_head d (posts_text 0 all ++ end_line (length all)) whole.config whole.text
breaks_none bytes line (inr (count, inl ends)) = ends_none bytes count ends.1
breaks_none bytes line (inr (count, inr on)) = goes_on_none bytes count on.1

-- ---- one line is the first that breaks the form

no_head_begun : (bytes : List ℕ) (c : Numbers) (posts : List Post) (rest : List ℕ) → HasNoHead bytes → IsBegun bytes c posts rest → ⊥
no_head_begun bytes c posts rest none begun = none.no_head c (posts_text 0 posts ++ rest) begun.config begun.text

same_ends : (bytes : List ℕ) (a b : ℕ) → EndsAfter bytes a → EndsAfter bytes b → a ≡ b
same_ends bytes a b first second =
    let one =
    one_end bytes first.c second.c first.posts second.posts first.rest second.rest first.begun second.begun (ends_no_post bytes a first) (ends_no_post bytes b second) in
    sym first.count_is ∙ ap (λ (posts : List Post). length posts) one.1 ∙ second.count_is

no_both : (bytes : List ℕ) (a b : ℕ) → EndsAfter bytes a → GoesOnAfter bytes b → ⊥
no_both bytes a b ends on =
    let one =
    one_end bytes ends.c on.c ends.posts on.posts ends.rest (end_line b ++ on.byte ∷ on.later) ends.begun on.begun (ends_no_post bytes a ends) (end_no_post on.posts b (on.byte ∷ on.later)) in
    let count : b ≡ a = sym on.count_is ∙ ap (λ (posts : List Post). length posts) (sym one.1) ∙ ends.count_is in
    ends.no_end (on.byte ∷ on.later) (one.2 ∙ ap (λ (k : ℕ). end_line k ++ on.byte ∷ on.later) count)

same_goes_on : (bytes : List ℕ) (a b : ℕ) → GoesOnAfter bytes a → GoesOnAfter bytes b → a ≡ b
same_goes_on bytes a b first second =
    let one =
    one_end bytes first.c second.c first.posts second.posts (end_line a ++ first.byte ∷ first.later) (end_line b ++ second.byte ∷ second.later) first.begun second.begun
    (end_no_post first.posts a (first.byte ∷ first.later)) (end_no_post second.posts b (second.byte ∷ second.later)) in
    sym first.count_is ∙ ap (λ (posts : List Post). length posts) one.1 ∙ second.count_is

pub one_line : (bytes : List ℕ) (a b : ℕ) → BreaksAt bytes a → BreaksAt bytes b → a ≡ b
one_line bytes a b (inl x) (inl y) = x.0 ∙ sym y.0
one_line bytes a b (inl x) (inr (n, inl y)) = absurd (no_head_begun bytes y.1.c y.1.posts y.1.rest x.1 y.1.begun)
one_line bytes a b (inl x) (inr (n, inr y)) = absurd (no_head_begun bytes y.1.c y.1.posts (end_line n ++ y.1.byte ∷ y.1.later) x.1 y.1.begun)
one_line bytes a b (inr (m, inl x)) (inl y) = absurd (no_head_begun bytes x.1.c x.1.posts x.1.rest y.1 x.1.begun)
one_line bytes a b (inr (m, inr x)) (inl y) = absurd (no_head_begun bytes x.1.c x.1.posts (end_line m ++ x.1.byte ∷ x.1.later) y.1 x.1.begun)
one_line bytes a b (inr (m, inl x)) (inr (n, inl y)) = x.0 ∙ ap (λ (k : ℕ). k + 2) (same_ends bytes m n x.1 y.1) ∙ sym y.0
one_line bytes a b (inr (m, inl x)) (inr (n, inr y)) = absurd (no_both bytes m n x.1 y.1)
one_line bytes a b (inr (m, inr x)) (inr (n, inl y)) = absurd (no_both bytes n m y.1 x.1)
one_line bytes a b (inr (m, inr x)) (inr (n, inr y)) = x.0 ∙ ap (λ (k : ℕ). k + 3) (same_goes_on bytes m n x.1 y.1) ∙ sym y.0
