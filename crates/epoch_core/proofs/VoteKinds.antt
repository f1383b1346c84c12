-- Which tests the votes of a desk pass.
use Rattle.std.proofs.Common.{◌≡◌, ℕ, suc, ◌≤◌, Bool, true, false, ◌&&◌, ◌||◌, nat_le, nat_lt, List, [], ◌∷◌, ◌++◌, refl, ap, ◌∙◌, arith}
use Rattle.std.specs.List.{list_any, list_all}
use Rattle.std.proofs.lemmas.Bool.{and_parts, and_from}
use Rattle.std.proofs.lemmas.List.Folds.{list_any-append, list_all-append}
use Rattle.hb_wire.specs.declared.items.Item.{Item}
use Rattle.hb_wire.specs.declared.vote.Vote.{Vote}
use Rattle.hb_wire.specs.declared.vote.Vote.TheVariants.{Propose, NoMore, Closed}
use Rattle.hb_rules.specs.Claims.{is_any_proposal, is_no_more, is_any_closing}
use Rattle.hb_rules.specs.Pool.{settles_below}
use Rattle.epoch_core.specs.Tables.{no_more_if}

-- whether a vote closes this epoch or a later one
abbrev pub closes_from : ℕ → Vote → Bool
closes_from m (Closed d list) = nat_le m d
closes_from m _ = false

abbrev pub is_proposal : Vote → Bool
is_proposal (Propose e value) = true
is_proposal _ = false

-- ---- tests that none passes

pub none_of : {A : Type 0} (made test : A → Bool) → ((x : A) → made x ≡ true → test x ≡ false) → (xs : List A) → list_all made xs ≡ true
    → list_any test xs ≡ false
none_of made test apart [] all = refl
none_of made test apart (x ∷ xs) all =
    let parts = and_parts (made x) (list_all made xs) all in
    let here : test x ≡ false = apart x parts.0 in
    rw (here, none_of made test apart xs parts.1) refl

pub all_more : {A : Type 0} (made : A → Bool) (xs ys : List A) → list_all made xs ≡ true → list_all made ys ≡ true → list_all made (xs ++ ys) ≡ true
all_more made xs ys one two = list_all-append made xs ys ∙ and_from (list_all made xs) (list_all made ys) one two

-- what passes stays, and what none passes adds none
pub any_stays : {A : Type 0} (test : A → Bool) (xs ys : List A) → list_any test xs ≡ true → list_any test (xs ++ ys) ≡ true
any_stays test xs ys passes = list_any-append test xs ys ∙ ap (λ (b : Bool). b || list_any test ys) passes

pub any_later : {A : Type 0} (test : A → Bool) (xs ys : List A) → list_any test ys ≡ true → list_any test (xs ++ ys) ≡ true
any_later test xs ys passes = list_any-append test xs ys ∙ ap (λ (b : Bool). list_any test xs || b) passes ∙ or_true (list_any test xs)
  where
    or_true : (b : Bool) → (b || true) ≡ true
    or_true true = refl
    or_true false = refl

pub any_same : {A : Type 0} (test : A → Bool) (xs ys : List A) → list_any test ys ≡ false → list_any test (xs ++ ys) ≡ list_any test xs
any_same test xs ys none = list_any-append test xs ys ∙ ap (λ (b : Bool). list_any test xs || b) none ∙ or_false (list_any test xs)
  where
    or_false : (b : Bool) → (b || false) ≡ b
    or_false true = refl
    or_false false = refl

pub any_neither : {A : Type 0} (test : A → Bool) (xs ys : List A) → list_any test xs ≡ false → list_any test ys ≡ false → list_any test (xs ++ ys) ≡ false
any_neither test xs ys one two = any_same test xs ys two ∙ one

-- ---- NoMore

pub no_more_none : (test : Vote → Bool) (is_due : Bool) (e : ℕ) → test (NoMore e) ≡ false → list_any test (no_more_if is_due e) ≡ false
no_more_none test true e fails = ap (λ (b : Bool). b || false) fails
no_more_none test false e fails = refl

pub no_more_all : (test : Vote → Bool) (is_due : Bool) (e : ℕ) → test (NoMore e) ≡ true → list_all test (no_more_if is_due e) ≡ true
no_more_all test true e passes = ap (λ (b : Bool). b && true) passes
no_more_all test false e passes = refl

-- ---- closings

pub all_weaker : {A : Type 0} (p q : A → Bool) → ((x : A) → p x ≡ true → q x ≡ true) → (xs : List A) → list_all p xs ≡ true → list_all q xs ≡ true
all_weaker p q weaker [] all = refl
all_weaker p q weaker (x ∷ xs) all =
    let parts = and_parts (p x) (list_all p xs) all in
    and_from (q x) (list_all q xs) (weaker x parts.0) (all_weaker p q weaker xs parts.1)

pub from_later : (m : ℕ) (v : Vote) → closes_from (suc m) v ≡ true → closes_from m v ≡ true
from_later m (Closed d list) passes = grind (arith, passes)
from_later m v passes = absurd (cc (passes))

pub zero_here : (m : ℕ) (list : List Item) → list_all (closes_from 0) (Closed m list ∷ []) ≡ true
zero_here m list = and_from (nat_le 0 m) true (let yes : nat_le 0 m ≡ true = grind arith in yes) refl

closing_no_proposal : (m e : ℕ) (v : Vote) → closes_from m v ≡ true → is_any_proposal e v ≡ false
closing_no_proposal m e (Closed d list) passes = refl
closing_no_proposal m e v passes = absurd (cc (passes))

closing_no_more : (m e : ℕ) (v : Vote) → closes_from m v ≡ true → is_no_more e v ≡ false
closing_no_more m e (Closed d list) passes = refl
closing_no_more m e v passes = absurd (cc (passes))

le_true : (m d : ℕ) → nat_le m d ≡ true → m ≤ d
le_true m d passes = grind (arith, passes)

lt_false : (d e : ℕ) → e ≤ d → nat_lt d e ≡ false
lt_false d e le = grind arith

closing_settles_none : (m e : ℕ) (tx : List ℕ) (v : Vote) → e ≤ m → closes_from m v ≡ true → settles_below e tx v ≡ false
closing_settles_none m e tx (Closed d list) le passes =
    let late : nat_lt d e ≡ false = lt_false d e (omega (arith, le_true m d passes)) in rw late refl
closing_settles_none m e tx v le passes = absurd (cc (passes))

pub closings_propose_none : (m e : ℕ) (vs : List Vote) → list_all (closes_from m) vs ≡ true → list_any (is_any_proposal e) vs ≡ false
closings_propose_none m e vs all = none_of (closes_from m) (is_any_proposal e) (closing_no_proposal m e) vs all

pub closings_want_more : (m e : ℕ) (vs : List Vote) → list_all (closes_from m) vs ≡ true → list_any (is_no_more e) vs ≡ false
closings_want_more m e vs all = none_of (closes_from m) (is_no_more e) (closing_no_more m e) vs all

pub closings_settle_none : (m e : ℕ) (tx : List ℕ) (vs : List Vote) → e ≤ m → list_all (closes_from m) vs ≡ true → list_any (settles_below e tx) vs ≡ false
closings_settle_none m e tx vs le all = none_of (closes_from m) (settles_below e tx) (λ v passes. closing_settles_none m e tx v le passes) vs all

-- ---- proposals

proposal_no_closing : (e : ℕ) (v : Vote) → is_proposal v ≡ true → is_any_closing e v ≡ false
proposal_no_closing e (Propose d value) passes = refl
proposal_no_closing e v passes = absurd (cc (passes))

proposal_no_more : (e : ℕ) (v : Vote) → is_proposal v ≡ true → is_no_more e v ≡ false
proposal_no_more e (Propose d value) passes = refl
proposal_no_more e v passes = absurd (cc (passes))

proposal_settles_none : (e : ℕ) (tx : List ℕ) (v : Vote) → is_proposal v ≡ true → settles_below e tx v ≡ false
proposal_settles_none e tx (Propose d value) passes = refl
proposal_settles_none e tx v passes = absurd (cc (passes))

pub proposals_close_none : (e : ℕ) (vs : List Vote) → list_all is_proposal vs ≡ true → list_any (is_any_closing e) vs ≡ false
proposals_close_none e vs all = none_of is_proposal (is_any_closing e) (proposal_no_closing e) vs all

pub proposals_want_more : (e : ℕ) (vs : List Vote) → list_all is_proposal vs ≡ true → list_any (is_no_more e) vs ≡ false
proposals_want_more e vs all = none_of is_proposal (is_no_more e) (proposal_no_more e) vs all

pub proposals_settle_none : (e : ℕ) (tx : List ℕ) (vs : List Vote) → list_all is_proposal vs ≡ true → list_any (settles_below e tx) vs ≡ false
proposals_settle_none e tx vs all = none_of is_proposal (settles_below e tx) (proposal_settles_none e tx) vs all
