-- How many votes may still become due.
use Rattle.std.proofs.Common.{◌≡◌, ℕ, zero, suc, ◌+◌, ◌*◌, ◌<◌, ◌≤◌, Bool, true, false, List, [], ◌∷◌, Contains, length, length-append, if◌then◌else◌, refl, ap, ◌∙◌, arith}
use Rattle.std.specs.List.{AllByRecursion}
use Rattle.std.proofs.lemmas.List.Elements.{Contains-append_left, Contains-append_right}
use Rattle.hb_base.specs.Numbers.{Numbers}
use Rattle.hb_rules.specs.declared.agreement_slot.AgreementSlot.{AgreementSlot}
use Rattle.hb_rules.specs.declared.agreement_slot.AgreementSlot.TheVariants.{Begin, Support, Accept, ConfirmOne, ConfirmBoth, PickOne, PickBoth, ShowShare, GoOn, Decide}
use Rattle.hb_rules.specs.AgreementRows.{limit_of}
use Rattle.hb_rules.specs.Marks.{Mark, any_est, bval, any_aux, any_conf, any_pick, any_coin, any_decision}
use Rattle.hb_rules.specs.Slots.{each}
use Rattle.hb_rules.proofs.Lists.{AllByRecursion-append, AllByRecursion-each, Contains-first, Contains-later, Contains-cases}
use Rattle.aba_core.specs.State.{AbaView, mark_round, mark_at}
use Rattle.aba_core.specs.Rows.{IsKnown, limits_at, limits_of, free, room_of}
use Rattle.aba_core.proofs.Names.{Contains-each}

-- what is filled stays so
abbrev pub Stays : (Mark → Bool) → (Mark → Bool) → List Mark → Type 0
Stays old new marks = AllByRecursion (λ mark. old mark ≡ true → new mark ≡ true) marks

count_le : (b c : Bool) (k l : ℕ) → (b ≡ true → c ≡ true) → l ≤ k → (if c then 0 else 1) + l ≤ (if b then 0 else 1) + k
count_le true true k l stays le = omega arith
count_le true false k l stays le = absurd (cc (stays refl))
count_le false true k l stays le = omega arith
count_le false false k l stays le = omega arith

pub free-no_more : (old new : Mark → Bool) (marks : List Mark) → Stays old new marks → free marks new ≤ free marks old
free-no_more old new [] stays = omega arith
free-no_more old new (mark ∷ marks) stays =
    count_le (old mark) (new mark) (free marks old) (free marks new) stays.0 (free-no_more old new marks stays.1)

count_less : (b c : Bool) (k l : ℕ) → (b ≡ true → c ≡ true) → l + 1 ≤ k → ((if c then 0 else 1) + l) + 1 ≤ (if b then 0 else 1) + k
count_less true true k l stays le = omega arith
count_less true false k l stays le = absurd (cc (stays refl))
count_less false true k l stays le = omega arith
count_less false false k l stays le = omega arith

-- filling one leaves one less
pub free-less : (old new : Mark → Bool) (marks : List Mark) (mark : Mark) → Stays old new marks → Contains marks mark → old mark ≡ false → new mark ≡ true
    → free marks new + 1 ≤ free marks old
free-less old new [] mark stays stands was now = absurd (omega (arith, stands.1))
free-less old new (first ∷ marks) mark stays stands was now =
    Contains-cases first marks mark stands (free (first ∷ marks) new + 1 ≤ free (first ∷ marks) old)
    (λ is.
    let before : old first ≡ false = ap old is ∙ was in
    let after : new first ≡ true = ap new is ∙ now in
    rw (before, after) (omega (arith, free-no_more old new marks stays.1)))
    (λ later. count_less (old first) (new first) (free marks old) (free marks new) stays.0 (free-less old new marks mark stays.1 later was now))

free-few : (cast : Mark → Bool) (marks : List Mark) → free marks cast ≤ length marks
free-few cast [] = omega arith
free-few cast (mark ∷ marks) = by (cast mark) (free-few cast marks)
  where
    by : (b : Bool) → free marks cast ≤ length marks → (if b then 0 else 1) + free marks cast ≤ length (mark ∷ marks)
    by true le = omega arith
    by false le = omega arith

limits-count : (rounds : ℕ) → length (each rounds limits_at) ≡ 7 * rounds
limits-count zero = refl
limits-count (suc k) = length-append (each k limits_at) (limits_at k) ∙ rw (limits-count k) (omega arith)

pub room-most : (a : AbaView) → room_of a ≤ 7 * a.config.rounds + 1
room-most a =
    let size : length (limits_of a.config.rounds) ≡ 7 * a.config.rounds + 1 =
    length-append (each a.config.rounds limits_at) (any_decision ∷ []) ∙ ap (λ (k : ℕ). k + 1) (limits-count a.config.rounds) in
    omega (arith, free-few (mark_at a) (limits_of a.config.rounds), size)

-- the limits are of rounds that the run has
pub limits_inside : (rounds : ℕ) → 1 ≤ rounds → AllByRecursion (λ mark. mark_round mark < rounds) (limits_of rounds)
limits_inside rounds some =
    AllByRecursion-append (λ mark. mark_round mark < rounds) (each rounds limits_at) (any_decision ∷ [])
    (AllByRecursion-each (λ mark. mark_round mark < rounds) rounds limits_at (λ r below. (below, (below, (below, (below, (below, (below, (below, tt)))))))))
    (omega arith, tt)

-- what fills a slot of the run is one of the limits
pub limit_known : (c : Numbers) (name : AgreementSlot) → IsKnown c name → Contains (limits_of c.rounds) (limit_of name)
limit_known c name known = by name known
  where
    in_round : (r : ℕ) (mark : Mark) → r < c.rounds → Contains (limits_at r) mark → Contains (limits_of c.rounds) mark
    in_round r mark below stands =
        Contains-append_left (each c.rounds limits_at) (any_decision ∷ []) mark (Contains-each c.rounds limits_at r mark below stands)

    est_in : (r : ℕ) → r < c.rounds → Contains (limits_of c.rounds) (any_est r)
    est_in r below = in_round r (any_est r) below (Contains-first (any_est r) (bval r false ∷ bval r true ∷ any_aux r ∷ any_conf r ∷ any_pick r ∷ any_coin r ∷ []))

    zero_in : (r : ℕ) → r < c.rounds → Contains (limits_of c.rounds) (bval r false)
    zero_in r below = in_round r (bval r false) below (Contains-later (any_est r) (bval r false ∷ bval r true ∷ any_aux r ∷ any_conf r ∷ any_pick r ∷ any_coin r ∷ []) (bval r false) (Contains-first (bval r false) (bval r true ∷ any_aux r ∷ any_conf r ∷ any_pick r ∷ any_coin r ∷ [])))

    one_in : (r : ℕ) → r < c.rounds → Contains (limits_of c.rounds) (bval r true)
    one_in r below =
        in_round r (bval r true) below (Contains-later (any_est r) (bval r false ∷ bval r true ∷ any_aux r ∷ any_conf r ∷ any_pick r ∷ any_coin r ∷ []) (bval r true) (Contains-later (bval r false) (bval r true ∷ any_aux r ∷ any_conf r ∷ any_pick r ∷ any_coin r ∷ []) (bval r true) (Contains-first (bval r true) (any_aux r ∷ any_conf r ∷ any_pick r ∷ any_coin r ∷ []))))

    past_bvals : (r : ℕ) (mark : Mark) → r < c.rounds → Contains (any_aux r ∷ any_conf r ∷ any_pick r ∷ any_coin r ∷ []) mark → Contains (limits_of c.rounds) mark
    past_bvals r mark below stands =
        in_round r mark below (Contains-later (any_est r) (bval r false ∷ bval r true ∷ any_aux r ∷ any_conf r ∷ any_pick r ∷ any_coin r ∷ []) mark (Contains-later (bval r false) (bval r true ∷ any_aux r ∷ any_conf r ∷ any_pick r ∷ any_coin r ∷ []) mark (Contains-later (bval r true) (any_aux r ∷ any_conf r ∷ any_pick r ∷ any_coin r ∷ []) mark stands)))

    conf_in : (r : ℕ) → r < c.rounds → Contains (limits_of c.rounds) (any_conf r)
    conf_in r below = past_bvals r (any_conf r) below (Contains-later (any_aux r) (any_conf r ∷ any_pick r ∷ any_coin r ∷ []) (any_conf r) (Contains-first (any_conf r) (any_pick r ∷ any_coin r ∷ [])))

    pick_in : (r : ℕ) → r < c.rounds → Contains (limits_of c.rounds) (any_pick r)
    pick_in r below =
        past_bvals r (any_pick r) below (Contains-later (any_aux r) (any_conf r ∷ any_pick r ∷ any_coin r ∷ []) (any_pick r) (Contains-later (any_conf r) (any_pick r ∷ any_coin r ∷ []) (any_pick r) (Contains-first (any_pick r) (any_coin r ∷ []))))

    coin_in : (r : ℕ) → r < c.rounds → Contains (limits_of c.rounds) (any_coin r)
    coin_in r below =
        past_bvals r (any_coin r) below (Contains-later (any_aux r) (any_conf r ∷ any_pick r ∷ any_coin r ∷ []) (any_coin r) (Contains-later (any_conf r) (any_pick r ∷ any_coin r ∷ []) (any_coin r)
        (Contains-later (any_pick r) (any_coin r ∷ []) (any_coin r) (Contains-first (any_coin r) []))))

    by : (name : AgreementSlot) → IsKnown c name → Contains (limits_of c.rounds) (limit_of name)
    by (Begin b) known = est_in 0 known.limit
    by (Support r false) known = zero_in r known.round
    by (Support r true) known = one_in r known.round
    by (Accept r) known = past_bvals r (any_aux r) known.round (Contains-first (any_aux r) (any_conf r ∷ any_pick r ∷ any_coin r ∷ []))
    by (ConfirmOne r b) known = conf_in r known.round
    by (ConfirmBoth r) known = conf_in r known.round
    by (PickOne r b) known = pick_in r known.round
    by (PickBoth r) known = pick_in r known.round
    by (ShowShare r) known = coin_in r known.round
    by (GoOn r) known = est_in (r + 1) known.limit
    by (Decide r) known = Contains-append_right (each c.rounds limits_at) (any_decision ∷ []) any_decision (Contains-first any_decision [])
