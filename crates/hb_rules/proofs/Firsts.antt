-- Votes at their first places.
use Rattle.std.proofs.Common.{◌≡◌, ◌<◌, ◌≤◌, ◌⊎◌, Bool, true, false, ◌||◌, inl, inr, List, [], ◌∷◌, ◌++◌, length, Contains, if◌then◌else◌, refl, sym, ap, ◌∙◌, subst, arith, append-nil, append_assoc, length-append}
use Rattle.std.specs.List.{list_any, fold}
use Rattle.std.proofs.lemmas.List.Elements.{Contains-append_left, Contains-push, Contains-push_cases}
use Rattle.std.proofs.lemmas.List.Folds.{list_any-append}
use Rattle.std.proofs.lemmas.List.Sums.{fold-append}
use Rattle.std.proofs.Math.Bool.{or-false}
use Rattle.hb_wire.specs.declared.vote.Vote.{Vote}
use Rattle.hb_wire.proofs.Equality.{one_vote}
use Rattle.hb_rules.specs.Ledger.{IsPrefix}
use Rattle.hb_rules.specs.Same.{same_vote, with_vote, firsts, AreSame}
use Rattle.hb_rules.proofs.Among.{any_stands}
use Rattle.hb_rules.proofs.Lists.{list_any-from, Contains-cases, Contains-first, Contains-later}

-- ---- which votes stand there

pub with_keeps : (votes : List Vote) (w v : Vote) → Contains votes v → Contains (with_vote votes w) v
with_keeps votes w v stands = by (list_any (same_vote w) votes)
  where
    by : (b : Bool) → Contains (if b then votes else votes ++ w ∷ []) v
    by true = stands
    by false = Contains-append_left votes (w ∷ []) v stands

pub with_has : (votes : List Vote) (w : Vote) → Contains (with_vote votes w) w
with_has votes w = by (list_any (same_vote w) votes) refl
  where
    by : (b : Bool) → list_any (same_vote w) votes ≡ b → Contains (if b then votes else votes ++ w ∷ []) w
    by true among =
        let found = any_stands (same_vote w) votes among in
        subst (λ (v : Vote). Contains votes v) (sym ((one_vote w found.0).0 found.2)) found.1
    by false new = Contains-push votes w

pub with_from : (votes : List Vote) (w v : Vote) → Contains (with_vote votes w) v → Contains votes v ⊎ (w ≡ v)
with_from votes w v stands = by (list_any (same_vote w) votes) stands
  where
    by : (b : Bool) → Contains (if b then votes else votes ++ w ∷ []) v → Contains votes v ⊎ (w ≡ v)
    by true among = inl among
    by false among = Contains-push_cases votes w v among

pub firsts_keep : (votes before : List Vote) (v : Vote) → Contains before v → Contains (fold with_vote before votes) v
firsts_keep [] before v stands = stands
firsts_keep (w ∷ votes) before v stands = firsts_keep votes (with_vote before w) v (with_keeps before w v stands)

pub firsts_have : (votes before : List Vote) (v : Vote) → Contains votes v → Contains (fold with_vote before votes) v
firsts_have [] before v stands = absurd (omega (arith, stands.1))
firsts_have (w ∷ votes) before v stands =
    Contains-cases w votes v stands (Contains (fold with_vote before (w ∷ votes)) v)
    (λ is. firsts_keep votes (with_vote before w) v (subst (λ (x : Vote). Contains (with_vote before w) x) is (with_has before w)))
    (λ later. firsts_have votes (with_vote before w) v later)

pub firsts_from : (votes before : List Vote) (v : Vote) → Contains (fold with_vote before votes) v → Contains before v ⊎ Contains votes v
firsts_from [] before v stands = inl stands
firsts_from (w ∷ votes) before v stands = elim (firsts_from votes (with_vote before w) v stands) [
  | inl front ↦ elim (with_from before w v front) [
    | inl already ↦ inl already
    | inr is ↦ inr (subst (λ (x : Vote). Contains (w ∷ votes) x) is (Contains-append_left (w ∷ []) votes w (Contains-push [] w)))
  ]
  | inr later ↦ inr (Contains-later w votes v later)
]

-- ---- no test tells votes from those at their first places

-- a vote that is among votes passes no test that none of them passes
among_passes : (votes : List Vote) (vote : Vote) (test : Vote → Bool) → list_any (same_vote vote) votes ≡ true
    → list_any test votes ≡ (list_any test votes || test vote)
among_passes votes vote test among = by (list_any test votes) (test vote) refl refl
  where
    by : (some : Bool) (one : Bool) → list_any test votes ≡ some → test vote ≡ one → some ≡ (some || one)
    by true one s o = refl
    by false false s o = refl
    by false true s o =
        let found = any_stands (same_vote vote) votes among in
        let stands : Contains votes vote = subst (λ (v : Vote). Contains votes v) (sym ((one_vote vote found.0).0 found.2)) found.1 in
        absurd (cc (s, list_any-from test votes vote stands o))

with_test : (votes : List Vote) (vote : Vote) (test : Vote → Bool) → list_any test (with_vote votes vote) ≡ (list_any test votes || test vote)
with_test votes vote test = by (list_any (same_vote vote) votes) refl
  where
    by : (b : Bool) → list_any (same_vote vote) votes ≡ b
        → list_any test (if b then votes else votes ++ vote ∷ []) ≡ (list_any test votes || test vote)
    by true among = among_passes votes vote test among
    by false new = list_any-append test votes (vote ∷ []) ∙ ap (λ (b : Bool). list_any test votes || b) (or-false (test vote))

or_or : (a b c : Bool) → ((a || b) || c) ≡ (a || (b || c))
or_or true b c = refl
or_or false b c = refl

fold_test : (own before : List Vote) (test : Vote → Bool) → list_any test (fold with_vote before own) ≡ (list_any test before || list_any test own)
fold_test [] before test = sym (or-false (list_any test before))
fold_test (vote ∷ own) before test =
    fold_test own (with_vote before vote) test
    ∙ ap (λ (b : Bool). b || list_any test own) (with_test before vote test)
    ∙ or_or (list_any test before) (test vote) (list_any test own)

pub same_firsts : (own : List Vote) → AreSame (firsts own) own
same_firsts own = record { tests = λ test. fold_test own [] test }

pub same_sym : (own other : List Vote) → AreSame own other → AreSame other own
same_sym own other same = record { tests = λ test. sym (same.tests test) }

-- a vote at its first place was cast
pub firsts_cast : (own : List Vote) (vote : Vote) → Contains (firsts own) vote → Contains own vote
firsts_cast own vote stands = elim (firsts_from own [] vote stands) [
  | inl none ↦ absurd (omega (arith, none.1))
  | inr among ↦ among
]

-- ---- one vote more

pub firsts_more : (own : List Vote) (vote : Vote) → firsts (own ++ vote ∷ []) ≡ with_vote (firsts own) vote
firsts_more own vote = fold-append with_vote [] own (vote ∷ [])

pub with_known : (votes : List Vote) (vote : Vote) → Contains votes vote → with_vote votes vote ≡ votes
with_known votes vote stands = rw (list_any-from (same_vote vote) votes vote stands ((one_vote vote vote).1 refl)) refl

pub with_new : (votes : List Vote) (vote : Vote) → list_any (same_vote vote) votes ≡ false → with_vote votes vote ≡ votes ++ vote ∷ []
with_new votes vote new = rw new refl

-- ---- a beginning of votes that has those that are done

-- it ends with them, or it has the next one too
pub front_cases : (front done rest : List Vote) (vote : Vote) → IsPrefix front (done ++ vote ∷ rest) → length done ≤ length front
    → (front ≡ done) ⊎ ((length done < length front) × Contains front vote)
front_cases [] [] rest vote prefix far = inl refl
front_cases (first ∷ front) [] rest vote prefix far =
    inr (omega arith, subst (λ (v : Vote). Contains (first ∷ front) v) (sym (head prefix.is)) (Contains-first first front))
  where
    head : {xs ys : List Vote} → vote ∷ xs ≡ first ∷ ys → vote ≡ first
    head h = cc (h)
front_cases [] (d ∷ done) rest vote prefix far = absurd (omega (arith, far))
front_cases (first ∷ front) (d ∷ done) rest vote prefix far =
    let heads : d ≡ first = cc (prefix.is) in
    let tails : done ++ vote ∷ rest ≡ front ++ prefix.rest = cc (prefix.is) in
    elim (front_cases front done rest vote (record { rest = prefix.rest; is = tails }) (omega (arith, far))) [
      | inl same ↦ inl (cc (same, heads))
      | inr more ↦ inr (omega (arith, more.0), Contains-later first front vote more.1)
    ]

-- it is them where nothing is left
pub front_whole : (front done : List Vote) → IsPrefix front done → length done ≤ length front → front ≡ done
front_whole front done prefix far =
    let none : prefix.rest ≡ [] = nothing prefix.rest (omega (arith, far, ap (λ (votes : List Vote). length votes) prefix.is, length-append front prefix.rest)) in
    sym (prefix.is ∙ ap (λ (votes : List Vote). front ++ votes) none ∙ append-nil front)
  where
    nothing : (votes : List Vote) → length votes ≤ 0 → votes ≡ []
    nothing [] few = refl
    nothing (vote ∷ votes) few = absurd (omega (arith, few))

-- ---- more votes

fold_front : (before more : List Vote) → IsPrefix before (fold with_vote before more)
fold_front before [] = record { rest = []; is = sym (append-nil before) }
fold_front before (vote ∷ more) =
    let later : IsPrefix (with_vote before vote) (fold with_vote (with_vote before vote) more) = fold_front (with_vote before vote) more in
    by (list_any (same_vote vote) before) refl later
  where
    by : (b : Bool) → list_any (same_vote vote) before ≡ b → IsPrefix (with_vote before vote) (fold with_vote (with_vote before vote) more)
        → IsPrefix before (fold with_vote (with_vote before vote) more)
    by true among later = record { rest = later.rest; is = later.is ∙ ap (λ (front : List Vote). front ++ later.rest) (rw among refl) }
    by false new later = record {
      rest = vote ∷ later.rest;
      is = later.is ∙ ap (λ (front : List Vote). front ++ later.rest) (with_new before vote new) ∙ append_assoc before (vote ∷ []) later.rest;
    }

-- with more votes those at their first places go on
pub firsts_front : (own more : List Vote) → IsPrefix (firsts own) (firsts (own ++ more))
firsts_front own more =
    subst (λ (votes : List Vote). IsPrefix (firsts own) votes) (sym (fold-append with_vote [] own more)) (fold_front (firsts own) more)
