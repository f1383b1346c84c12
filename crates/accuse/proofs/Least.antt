-- The least number that passes a test.
use Rattle.std.proofs.Common.{◌≡◌, ℕ, zero, suc, ◌+◌, ◌<◌, inl, inr, ◌||◌, Bool, true, false, Option, None, Some, refl, sym, ap, subst, ◌∙◌, arith, add-one}
use Rattle.std.specs.Option.{option_or, option_and_then}
use Rattle.std.proofs.lemmas.Bool.{cases_lt, both_ways, false_from_ne_true}
use Rattle.std.proofs.lemmas.Option.{cond_some}
use Rattle.hb_rules.specs.Slots.{when}
use Rattle.accuse.specs.Accused.{least_below}

pub record IsLeast (n : ℕ) (test : ℕ → Bool) (p : ℕ) : Type 0 where
  pub below : p < n
  pub passes : test p ≡ true
  pub least : (q : ℕ) → q < p → test q ≡ false

when_none : (b : Bool) (p : ℕ) → when b p ≡ None → b ≡ false
when_none true p e = absurd (cc (e))
when_none false p e = refl

pub least_none : (n : ℕ) (test : ℕ → Bool) → least_below n test ≡ None → (q : ℕ) → q < n → test q ≡ false
least_none zero test e q below = absurd (omega (arith, below))
least_none (suc n) test e q below = by (least_below n test) refl e (λ none early. least_none n test none q early)
  where
    by : (o : Option ℕ) → least_below n test ≡ o → option_or o (when (test n) n) ≡ None
        → (least_below n test ≡ None → q < n → test q ≡ false) → test q ≡ false
    by None none e before = elim (cases_lt q n) [
      | inl early ↦ before none early
      | inr late ↦
          let last : q ≡ n = omega (arith, below, late) in
          ap test last ∙ when_none (test n) n e
    ]
    by (Some p) found e before = absurd (cc (e))

pub least_some : (n : ℕ) (test : ℕ → Bool) (p : ℕ) → least_below n test ≡ Some p → IsLeast n test p
least_some zero test p e = absurd (cc (e))
least_some (suc n) test p e = by (least_below n test) refl e (λ r found. least_some n test r found)
  where
    by : (o : Option ℕ) → least_below n test ≡ o → option_or o (when (test n) n) ≡ Some p
        → ((r : ℕ) → least_below n test ≡ Some r → IsLeast n test r) → IsLeast (suc n) test p
    by None none e before =
        let chosen = cond_some (test n) n p e in
        record {
          below = omega (arith, chosen.1);
          passes = ap test (sym chosen.1) ∙ chosen.0;
          least = λ q early. least_none n test none q (omega (arith, chosen.1, early));
        }
    by (Some r) found e before =
        let earlier = before r found in
        let same : r ≡ p = cc (e) in
        subst (IsLeast (suc n) test) same (record { below = omega (arith, earlier.below); passes = earlier.passes; least = earlier.least })

pub least_all : (n : ℕ) (test : ℕ → Bool) → ((q : ℕ) → q < n → test q ≡ false) → least_below n test ≡ None
least_all n test fails = by (least_below n test) refl
  where
    by : (o : Option ℕ) → least_below n test ≡ o → least_below n test ≡ None
    by None none = none
    by (Some p) found =
        let first = least_some n test p found in
        absurd (both_ways (test p) (fails p first.below) first.passes)

pub least_is : (n : ℕ) (test : ℕ → Bool) (p : ℕ) → IsLeast n test p → least_below n test ≡ Some p
least_is n test p is = by (least_below n test) refl
  where
    by : (o : Option ℕ) → least_below n test ≡ o → least_below n test ≡ Some p
    by None none = absurd (both_ways (test p) (least_none n test none p is.below) is.passes)
    by (Some r) found =
        let first = least_some n test r found in
        elim (cases_lt r p) [
          | inl early ↦ absurd (both_ways (test r) (is.least r early) first.passes)
          | inr late ↦ elim (cases_lt p r) [
            | inl early ↦ absurd (both_ways (test p) (first.least p early) is.passes)
            | inr other ↦ found ∙ ap Some (let same : r ≡ p = omega (arith, late, other) in same)
          ]
        ]

-- one number more
pub least_more : (n : ℕ) (test : ℕ → Bool) → least_below (n + 1) test ≡ option_or (least_below n test) (when (test n) n)
least_more n test = rw add-one refl

-- Where those at odds have a mark, and of two with the mark that differ in being at odds these two are at odds with each other,
-- and no two are, the first with the mark tells of all.
pub first_tells : (n : ℕ) (marked odds : ℕ → Bool) (between : ℕ → ℕ → Bool) (first : Option ℕ) → least_below n marked ≡ first
    → ((p : ℕ) → p < n → odds p ≡ true → marked p ≡ true)
    → ((p r : ℕ) → r < n → p < r → marked p ≡ true → marked r ≡ true → odds p ≡ false → odds r ≡ true → between p r ≡ true)
    → ((p r : ℕ) → p < r → r < n → between p r ≡ false)
    → least_below n odds ≡ option_and_then (λ p. when (odds p) p) first
first_tells n marked odds between None none has tells quiet =
    least_all n odds (λ p below. false_from_ne_true (odds p) (λ at. both_ways (marked p) (least_none n marked none p below) (has p below at)))
first_tells n marked odds between (Some p) found has tells quiet = by (odds p) refl
  where
    first : IsLeast n marked p
    first = least_some n marked p found

    by : (b : Bool) → odds p ≡ b → least_below n odds ≡ when b p
    by true at = least_is n odds p (record {
      below = first.below;
      passes = at;
      least = λ r early.
          false_from_ne_true (odds r) (λ other. both_ways (marked r) (first.least r early) (has r (omega (arith, early, first.below)) other));
    })
    by false away = least_all n odds (λ r below. false_from_ne_true (odds r) (λ at. elim (cases_lt r p) [
      | inl early ↦ both_ways (marked r) (first.least r early) (has r below at)
      | inr late ↦ elim (cases_lt p r) [
        | inl later ↦ both_ways (between p r) (quiet p r later below) (tells p r below later first.passes (has r below at) away at)
        | inr other ↦ let same : p ≡ r = omega (arith, late, other) in both_ways (odds p) away (ap odds same ∙ at)
      ]
    ]))

-- Those at odds are so in one way or another. Each way has its mark; where some have the first mark, all have it that are at odds
-- in the other way.
pub record TwoWays (n : ℕ) (odds one other mark sign : ℕ → Bool) (between : ℕ → ℕ → Bool) : Type 0 where
  pub split : (p : ℕ) → odds p ≡ (one p || other p)
  pub has_mark : (p : ℕ) → one p ≡ true → mark p ≡ true
  pub has_sign : (p : ℕ) → other p ≡ true → sign p ≡ true
  pub has_both : (p r : ℕ) → mark r ≡ true → other p ≡ true → mark p ≡ true
  pub tells_one : (p r : ℕ) → mark p ≡ true → mark r ≡ true → one p ≡ false → one r ≡ true → between p r ≡ true
  pub tells_other : (p r : ℕ) → sign p ≡ true → sign r ≡ true → other p ≡ false → other r ≡ true → between p r ≡ true
  pub quiet : (p r : ℕ) → p < r → r < n → between p r ≡ false

way_false : (a b : Bool) → (a || b) ≡ false → a ≡ false
way_false false b e = refl
way_false true b e = absurd (cc (e))

without_one : {a b c : Bool} → c ≡ (a || b) → a ≡ false → c ≡ b
without_one {b = b} split none = split ∙ ap (λ (x : Bool). x || b) none

-- where none is at odds in the one way, the first with the other mark tells
second_tells : (n : ℕ) (odds one other mark sign : ℕ → Bool) (between : ℕ → ℕ → Bool) (second : Option ℕ)
    → TwoWays n odds one other mark sign between → least_below n sign ≡ second → ((p : ℕ) → p < n → one p ≡ false)
    → least_below n odds ≡ option_and_then (λ p. when (odds p) p) second
second_tells n odds one other mark sign between second ways signed none =
    first_tells n sign odds between second signed
    (λ p below at. ways.has_sign p (sym (without_one (ways.split p) (none p below)) ∙ at))
    (λ p r below early s t away at. ways.tells_other p r s t
    (sym (without_one (ways.split p) (none p (omega (arith, early, below)))) ∙ away)
    (sym (without_one (ways.split r) (none r below)) ∙ at))
    ways.quiet

-- where one has the first mark, all at odds have it
all_marked : (n : ℕ) (odds one other mark sign : ℕ → Bool) (between : ℕ → ℕ → Bool) (p : ℕ)
    → TwoWays n odds one other mark sign between → mark p ≡ true → (r : ℕ) → odds r ≡ true → mark r ≡ true
all_marked n odds one other mark sign between p ways marked r at = by (one r) refl (other r) refl
  where
    by : (a : Bool) → one r ≡ a → (b : Bool) → other r ≡ b → mark r ≡ true
    by true is b also = ways.has_mark r is
    by false is true also = ways.has_both r p marked also
    by false is false also = absurd (both_ways (odds r) (without_one (ways.split r) is ∙ also) at)

-- the first with the one mark tells, and if it does not, the first with the other
pub firsts_tell : (n : ℕ) (odds one other mark sign : ℕ → Bool) (between : ℕ → ℕ → Bool) (first second : Option ℕ)
    → TwoWays n odds one other mark sign between → least_below n mark ≡ first → least_below n sign ≡ second
    → least_below n odds ≡ option_or (option_and_then (λ p. when (odds p) p) first) (option_and_then (λ p. when (odds p) p) second)
firsts_tell n odds one other mark sign between None second ways marked signed =
    second_tells n odds one other mark sign between second ways signed
    (λ p below. false_from_ne_true (one p) (λ at. both_ways (mark p) (least_none n mark marked p below) (ways.has_mark p at)))
firsts_tell n odds one other mark sign between (Some p) second ways marked signed = by (odds p) refl
  where
    here : IsLeast n mark p
    here = least_some n mark p marked

    by : (b : Bool) → odds p ≡ b → least_below n odds ≡ option_or (when b p) (option_and_then (λ k. when (odds k) k) second)
    by true at = least_is n odds p (record {
      below = here.below;
      passes = at;
      least = λ r early. false_from_ne_true (odds r) (λ same.
          both_ways (mark r) (here.least r early) (all_marked n odds one other mark sign between p ways here.passes r same));
    })
    by false away =
        let none : least_below n one ≡ None =
        first_tells n mark one between (Some p) marked (λ k _ at. ways.has_mark k at)
        (λ k m _ _ s t apart at. ways.tells_one k m s t apart at) ways.quiet
        ∙ ap (λ (x : Bool). when x p) (way_false (one p) (other p) (sym (ways.split p) ∙ away)) in
        second_tells n odds one other mark sign between second ways signed (least_none n one none)
