-- How often a vote was cast.
use Rattle.std.proofs.Common.{append-nil, zero, suc, ◌≡◌, ℕ, ◌≤◌, ◌+◌, Bool, true, false, ◌||◌, List, [], ◌∷◌, ◌++◌, take, drop, if◌then◌else◌, refl, sym, ap, ◌∙◌, subst, arith}
use Rattle.std.specs.List.{list_any}
use Rattle.std.proofs.Math.Bool.{or-false}
use Rattle.std.proofs.lemmas.Bool.{or_right}
use Rattle.std.proofs.lemmas.List.{take-append-drop}
use Rattle.std.proofs.lemmas.List.Folds.{list_any-append}
use Rattle.std.proofs.lemmas.List.Sums.{sum_by-append}
use Rattle.hb_wire.specs.declared.vote.Vote.{Vote}
use Rattle.hb_wire.specs.declared.post.Post.{Post}
use Rattle.hb_wire.proofs.Equality.{one_vote}
use Rattle.hb_rules.specs.Actor.{IsFew}
use Rattle.hb_rules.specs.Hearing.{Hearing}
use Rattle.hb_rules.specs.Same.{same_vote, count, firsts}
use Rattle.hb_rules.specs.Terms.{Terms, AreCastable, AreVotes, cast_in, heard_all}
use Rattle.journaled_actor.specs.Kept.{Covers, IsAll, CastSome}
use Rattle.hb_rules.proofs.SameRules.{new_vote}
use Rattle.hb_rules.proofs.Firsts.{same_firsts}

count-append : (vote : Vote) (xs ys : List Vote) → count vote (xs ++ ys) ≡ count vote xs + count vote ys
count-append vote xs ys = sum_by-append (λ (v : Vote). if same_vote vote v then 1 else 0) xs ys

-- a vote that none is the same as stands nowhere
count_none : (vote : Vote) (votes : List Vote) → list_any (same_vote vote) votes ≡ false → count vote votes ≡ 0
count_none vote [] none = refl
count_none vote (v ∷ votes) none =
    count-append vote (v ∷ []) votes ∙ by (same_vote vote v) refl none (count_none vote votes)
  where
    by : (b : Bool) → same_vote vote v ≡ b → (b || list_any (same_vote vote) votes) ≡ false
        → (list_any (same_vote vote) votes ≡ false → count vote votes ≡ 0) → count vote (v ∷ []) + count vote votes ≡ 0
    by true same h later = absurd (cc (h))
    by false same h later = rw same (omega (arith, later h))

abbrev one_of : Bool → ℕ
one_of b = if b then 0 else 1

-- each of votes that may be cast in turn stands once, and not at all where it stood before
castable_once : (t : Terms) (heard : List Hearing) (before votes : List Vote) (vote : Vote) → AreCastable t heard before votes
    → count vote votes ≤ one_of (list_any (same_vote vote) before)
castable_once t heard before [] vote may = omega arith
castable_once t heard before (v ∷ votes) vote may =
    omega (arith, count-append vote (v ∷ []) votes, by (same_vote vote v) refl (castable_once t heard (before ++ v ∷ []) votes vote may.1))
  where
    goes : list_any (same_vote vote) (before ++ v ∷ []) ≡ (list_any (same_vote vote) before || same_vote vote v)
    goes = list_any-append (same_vote vote) before (v ∷ []) ∙ ap (λ (b : Bool). list_any (same_vote vote) before || b) (or-false (same_vote vote v))

    by : (b : Bool) → same_vote vote v ≡ b → count vote votes ≤ one_of (list_any (same_vote vote) (before ++ v ∷ []))
        → count vote (v ∷ []) + count vote votes ≤ one_of (list_any (same_vote vote) before)
    by true same rest =
        let is : vote ≡ v = (one_vote vote v).0 same in
        let new : list_any (same_vote vote) before ≡ false =
        subst (λ (w : Vote). list_any (same_vote w) before ≡ false) (sym is) (new_vote t.config t.node t.actor before heard v may.0) in
        let stands : list_any (same_vote vote) (before ++ v ∷ []) ≡ true = goes ∙ or_right (list_any (same_vote vote) before) (same_vote vote v) same in
        let none : count vote votes ≤ 0 = subst (λ (b : Bool). count vote votes ≤ one_of b) stands rest in
        rw (same, new) (omega (arith, none))
    by false same rest =
        let as_before : list_any (same_vote vote) (before ++ v ∷ []) ≡ list_any (same_vote vote) before =
        goes ∙ ap (λ (b : Bool). list_any (same_vote vote) before || b) same ∙ or-false (list_any (same_vote vote) before) in
        let few : count vote votes ≤ one_of (list_any (same_vote vote) before) =
        subst (λ (b : Bool). count vote votes ≤ one_of b) as_before rest in
        rw same (omega (arith, few))

one_most : (b : Bool) → one_of b ≤ 1
one_most true = omega arith
one_most false = omega arith

taken_less : (vote : Vote) (votes : List Vote) (k : ℕ) → count vote (take k votes) ≤ count vote votes
taken_less vote votes k =
    omega (arith, ap (λ (xs : List Vote). count vote xs) (take-append-drop k votes), count-append vote (take k votes) (drop k votes))

-- votes that are posted again, once each
pub few_again : (t : Terms) (x old new : List Post) (votes : List Vote) (most : ℕ) → AreVotes t x votes → CastSome t old new votes
    → IsFew t old most → IsFew t new (most + 1)
few_again t x old new votes most are some few = record {
  each = λ vote. omega (
    arith,
    few.each vote,
    ap (λ (xs : List Vote). count vote xs) some.cast,
    count-append vote (cast_in t old) (take some.count votes),
    taken_less vote votes some.count,
    castable_once t (heard_all t x) [] votes vote are.castable,
    one_most (list_any (same_vote vote) []),
  );
}

stands_once : (vote : Vote) (xs : List Vote) → list_any (same_vote vote) xs ≡ true → 1 ≤ count vote xs
stands_once vote [] h = absurd (cc (h))
stands_once vote (v ∷ xs) h = omega (arith, count-append vote (v ∷ []) xs, at (same_vote vote v) refl h (stands_once vote xs))
  where
    at : (b : Bool) → same_vote vote v ≡ b → (b || list_any (same_vote vote) xs) ≡ true
        → (list_any (same_vote vote) xs ≡ true → 1 ≤ count vote xs) → 1 ≤ count vote (v ∷ []) + count vote xs
    at true same h later = rw same (omega arith)
    at false same h later = omega (arith, later h)

-- votes that were not cast before
pub few_new : (t : Terms) (old new : List Post) (text : List ℕ) (votes due : List Vote) (most : ℕ) → IsAll t old text votes
    → AreVotes t old (votes ++ due) → CastSome t old new due → 1 ≤ most → IsFew t old most → IsFew t new most
few_new t old new text votes due most all are some one few = record {
  each = λ vote. by vote (list_any (same_vote vote) (cast_in t old)) refl;
}
  where
    total : (vote : Vote) → count vote (cast_in t new) ≡ count vote (cast_in t old) + count vote (take some.count due)
    total vote = ap (λ (xs : List Vote). count vote xs) some.cast ∙ count-append vote (cast_in t old) (take some.count due)

    due_once : (vote : Vote) → count vote votes + count vote due ≤ 1
    due_once vote = omega (
      arith,
      count-append vote votes due,
      castable_once t (heard_all t old) [] (votes ++ due) vote are.castable,
      one_most (list_any (same_vote vote) []),
    )

    by : (vote : Vote) (b : Bool) → list_any (same_vote vote) (cast_in t old) ≡ b → count vote (cast_in t new) ≤ most
    by vote true was =
        let there : list_any (same_vote vote) votes ≡ true =
        sym (ap (list_any (same_vote vote)) all.complete) ∙ (same_firsts (cast_in t old)).tests (same_vote vote) ∙ was in
        omega (arith, few.each vote, total vote, taken_less vote due some.count, due_once vote, stands_once vote votes there)
    by vote false was =
        omega (arith, one, total vote, count_none vote (cast_in t old) was, taken_less vote due some.count, due_once vote)

stood : (vote : Vote) (votes : List Vote) → 1 ≤ count vote votes → list_any (same_vote vote) votes ≡ true
stood vote votes some = by (list_any (same_vote vote) votes) refl
  where
    by : (b : Bool) → list_any (same_vote vote) votes ≡ b → list_any (same_vote vote) votes ≡ true
    by true is = is
    by false is = absurd (omega (arith, some, count_none vote votes is))

-- what was cast is not cast again by votes that were not
pub once_cast : (t : Terms) (old new : List Post) (text : List ℕ) (votes due : List Vote) → IsAll t old text votes → AreVotes t old (votes ++ due)
    → CastSome t old new due → (vote : Vote) → 1 ≤ count vote (cast_in t old) → count vote (cast_in t new) ≡ count vote (cast_in t old)
once_cast t old new text votes due all are some vote stands =
    let there : list_any (same_vote vote) votes ≡ true =
    sym (ap (list_any (same_vote vote)) all.complete) ∙ (same_firsts (cast_in t old)).tests (same_vote vote) ∙ stood vote (cast_in t old) stands in
    omega (
      arith,
      ap (λ (xs : List Vote). count vote xs) some.cast,
      count-append vote (cast_in t old) (take some.count due),
      taken_less vote due some.count,
      count-append vote votes due,
      castable_once t (heard_all t old) [] (votes ++ due) vote are.castable,
      one_most (list_any (same_vote vote) []),
      stands_once vote votes there,
    )

-- each that was cast is cast once more by all votes of the journal
pub cast_again : (t : Terms) (old new : List Post) (votes : List Vote) → Covers t old votes → cast_in t new ≡ cast_in t old ++ votes
    → (vote : Vote) → 1 ≤ count vote (cast_in t old) → count vote (cast_in t new) ≡ count vote (cast_in t old) + 1
cast_again t old new votes covers whole vote stands =
    let there : list_any (same_vote vote) votes ≡ true = ap (list_any (same_vote vote)) covers.posted.is
    ∙ list_any-append (same_vote vote) (firsts (cast_in t old)) covers.posted.rest
    ∙ ap (λ (b : Bool). b || list_any (same_vote vote) covers.posted.rest)
    ((same_firsts (cast_in t old)).tests (same_vote vote) ∙ stood vote (cast_in t old) stands) in
    omega (
      arith,
      ap (λ (xs : List Vote). count vote xs) whole,
      count-append vote (cast_in t old) votes,
      castable_once t (heard_all t old) [] votes vote covers.are.castable,
      one_most (list_any (same_vote vote) []),
      stands_once vote votes there,
    )

-- no vote was cast of none
pub cast_no_vote : (t : Terms) (old new : List Post) (votes : List Vote) → votes ≡ [] → CastSome t old new votes → cast_in t new ≡ cast_in t old
cast_no_vote t old new votes none some =
    some.cast ∙ ap (λ (xs : List Vote). cast_in t old ++ take some.count xs) none ∙ ap (λ (xs : List Vote). cast_in t old ++ xs) (take_none some.count)
    ∙ append-nil (cast_in t old)
  where
    take_none : (n : ℕ) → ◌≡◌ {A = List Vote} (take n []) []
    take_none zero = refl
    take_none (suc n) = refl
