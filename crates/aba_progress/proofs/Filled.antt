-- A running node of a calm run owes nothing: in its agreement of an epoch each slot that has a choice is filled.
use Rattle.std.proofs.Common.{◌≡◌, ℕ, zero, suc, ◌+◌, ◌-◌, ◌*◌, ◌<◌, ◌≤◌, ◌&&◌, ◌||◌, nat_le, Bool, true, false, inl, inr, List, [], ◌∷◌, ◌++◌, map, None, Some, if◌then◌else◌, refl, sym, ap, ◌∙◌, subst, arith}
use Rattle.std.specs.List.{AllByRecursion}
use Rattle.std.specs.Option.{option_map, option_and_then}
use Rattle.std.proofs.lemmas.Bool.{and_from, or_left, or_right, le-leb, cases_eq}
use Rattle.hb_base.specs.Numbers.{Numbers}
use Rattle.hb_wire.specs.declared.vote.Vals.TheVariants.{Both}
use Rattle.hb_wire.specs.declared.vote.Vote.{Vote}
use Rattle.hb_wire.specs.declared.vote.Vote.TheVariants.{Est, Bval, Aux, Conf, Pick, Decided}
use Rattle.hb_rules.specs.declared.agreement_slot.AgreementSlot.{AgreementSlot}
use Rattle.hb_rules.specs.declared.agreement_slot.AgreementSlot.TheVariants.{Begin, Support, Accept, ConfirmOne, ConfirmBoth, PickOne, PickBoth, ShowShare, GoOn, Decide}
use Rattle.hb_rules.specs.Agreement.{confirms}
use Rattle.hb_rules.specs.AgreementRows.{View, is_supported, is_gathered_one, is_gathered_both, is_left_one, is_left_both, next_bit, stops, accepted_bit, dealt, choice_of, limit_of, agreement_slot, confirm_names, agreement_names, agreement_rows}
use Rattle.hb_rules.specs.BroadcastRows.{broadcast_rows}
use Rattle.hb_rules.specs.Hearing.{Hearing}
use Rattle.hb_rules.specs.Marks.{single, est, any_est, bval, any_aux, any_conf, pick, any_pick, any_coin, any_decision, bvals}
use Rattle.hb_rules.specs.Owing.{lane_slots}
use Rattle.hb_rules.specs.Slots.{Slot, IsIdle, each}
use Rattle.hb_rules.proofs.AgreementParts.{IsKnown}
use Rattle.hb_rules.proofs.Lists.{AllByRecursion-parts, AllByRecursion-weaker}
use Rattle.hb_rules.proofs.Passing.{IsSettledAt, settled_idle, settled_parts}
use Rattle.hb_rules.proofs.Rows.{idle-rows}
use Rattle.aba_progress.proofs.Running.{QuietAgreement, own, view, cast, support_at}

-- ---- from the slots of a lane to one slot of the agreement

-- what holds of all images, and of all that stands at some number, holds of each
map_parts : {A B : Type 0} (P : B → Type 0) (f : A → B) (xs : List A) → AllByRecursion P (map f xs) → AllByRecursion (λ x. P (f x)) xs
map_parts P f [] all = tt
map_parts P f (x ∷ xs) all = (all.0, map_parts P f xs all.1)

each_parts : {A : Type 0} (P : A → Type 0) (k : ℕ) (f : ℕ → List A) → AllByRecursion P (each k f) → (m : ℕ) → m < k → AllByRecursion P (f m)
each_parts P zero f all m below = absurd (omega arith)
each_parts {A} P (suc k) f all m below =
    let parts = AllByRecursion-parts P (each k f) (f k) all in
    elim (cases_eq m k) [
      | inl same ↦ subst (λ (n : ℕ). AllByRecursion P (f n)) (sym same) parts.1
      | inr other ↦ each_parts P k f parts.0 m (omega (arith, below, other))
    ]

-- each slot of these names is settled
abbrev AreSettled : Numbers → ℕ → ℕ → ℕ → List Vote → List Hearing → List AgreementSlot → Type 0
AreSettled c i j e own heard names = AllByRecursion (λ name. IsSettledAt (agreement_slot c i j e name) own heard) names

-- where a lane owes nothing, they all are
names_settled : (c : Numbers) (i j e : ℕ) (own : List Vote) (heard : List Hearing) → IsIdle (lane_slots c i j) own heard → e < c.epochs
    → AllByRecursion (AreSettled c i j e own heard) (agreement_names c)
names_settled c i j e own heard idle below =
    let IsIdleRow : (ℕ → List (Slot Vote Hearing)) → Type 0 = λ row. IsIdle (row e) own heard in
    let rows = AllByRecursion-parts IsIdleRow (broadcast_rows c i j) (agreement_rows c i j)
    (idle-rows c.epochs (broadcast_rows c i j ++ agreement_rows c i j) own heard idle e below) in
    AllByRecursion-weaker (λ names. IsIdle (map (agreement_slot c i j e) names) own heard) (AreSettled c i j e own heard) (agreement_names c)
    (λ names rests.
    map_parts (λ slot. IsSettledAt slot own heard) (agreement_slot c i j e) names (settled_idle (map (agreement_slot c i j e) names) own heard rests))
    (map_parts IsIdleRow (λ names d. map (agreement_slot c i j d) names) (agreement_names c) rows.1)

-- the rows that come after those of the confirm phase
abbrev later_names : Numbers → List (List AgreementSlot)
later_names c =
    each c.rounds (λ r. PickOne r false ∷ PickOne r true ∷ [])
    ∷ each c.rounds (λ r. PickBoth r ∷ [])
    ∷ each c.rounds (λ r. ShowShare r ∷ [])
    ∷ each (c.rounds - 1) (λ r. GoOn r ∷ [])
    ∷ each c.rounds (λ r. Decide r ∷ [])
    ∷ []

-- those of the confirm phase, and those after it
confirm_parts : (P : List AgreementSlot → Type 0) (c : Numbers) → AllByRecursion P (agreement_names c)
    → AllByRecursion P (confirm_names (confirms c) c.rounds) × AllByRecursion P (later_names c)
confirm_parts P c all = AllByRecursion-parts P (confirm_names (confirms c) c.rounds) (later_names c) all.1.1.1.1

-- what holds of all slots of the rows holds of each that the run has
known_holds : (P : AgreementSlot → Type 0) (c : Numbers) → AllByRecursion (λ names. AllByRecursion P names) (agreement_names c)
    → (name : AgreementSlot) → IsKnown c name → P name
known_holds P c all (Begin true) known = all.0.0
known_holds P c all (Begin false) known = all.1.0.0
known_holds P c all (Support r false) known = (each_parts P c.rounds (λ r. Support r false ∷ Support r true ∷ []) all.1.1.0 r known).0
known_holds P c all (Support r true) known = (each_parts P c.rounds (λ r. Support r false ∷ Support r true ∷ []) all.1.1.0 r known).1.0
known_holds P c all (Accept r) known = (each_parts P c.rounds (λ r. Accept r ∷ []) all.1.1.1.0 r known).0
known_holds P c all (ConfirmOne r b) known =
    let rows = subst (λ (confirm : Bool). AllByRecursion (λ names. AllByRecursion P names) (confirm_names confirm c.rounds)) known.1
    (confirm_parts (λ names. AllByRecursion P names) c all).0 in
    by b (each_parts P c.rounds (λ r. ConfirmOne r false ∷ ConfirmOne r true ∷ []) rows.0 r known.0)
  where
    by : (b : Bool) → AllByRecursion P (ConfirmOne r false ∷ ConfirmOne r true ∷ []) → P (ConfirmOne r b)
    by false both = both.0
    by true both = both.1.0
known_holds P c all (ConfirmBoth r) known =
    let rows = subst (λ (confirm : Bool). AllByRecursion (λ names. AllByRecursion P names) (confirm_names confirm c.rounds)) known.1
    (confirm_parts (λ names. AllByRecursion P names) c all).0 in
    (each_parts P c.rounds (λ r. ConfirmBoth r ∷ []) rows.1.0 r known.0).0
known_holds P c all (PickOne r false) known =
    (each_parts P c.rounds (λ r. PickOne r false ∷ PickOne r true ∷ []) (confirm_parts (λ names. AllByRecursion P names) c all).1.0 r known).0
known_holds P c all (PickOne r true) known =
    (each_parts P c.rounds (λ r. PickOne r false ∷ PickOne r true ∷ []) (confirm_parts (λ names. AllByRecursion P names) c all).1.0 r known).1.0
known_holds P c all (PickBoth r) known =
    (each_parts P c.rounds (λ r. PickBoth r ∷ []) (confirm_parts (λ names. AllByRecursion P names) c all).1.1.0 r known).0
known_holds P c all (ShowShare r) known =
    (each_parts P c.rounds (λ r. ShowShare r ∷ []) (confirm_parts (λ names. AllByRecursion P names) c all).1.1.1.0 r known).0
known_holds P c all (GoOn r) known =
    (each_parts P (c.rounds - 1) (λ r. GoOn r ∷ []) (confirm_parts (λ names. AllByRecursion P names) c all).1.1.1.1.0 r (omega (arith, known))).0
known_holds P c all (Decide r) known =
    (each_parts P c.rounds (λ r. Decide r ∷ []) (confirm_parts (λ names. AllByRecursion P names) c all).1.1.1.1.1.0 r known).0

-- a slot that has a choice is filled
pub filled : (q : QuietAgreement) (i : ℕ) (name : AgreementSlot) (vote : Vote) → q.runs i ≡ true → IsKnown q.c name
    → choice_of q.c i q.j q.e name (view q i) ≡ Some vote → cast q (limit_of name) i ≡ true
unfolding agreement_slot
filled q i name vote runs known some =
    let settled = known_holds (λ name. IsSettledAt (agreement_slot q.c i q.j q.e name) (own q i) (q.heard i)) q.c
    (names_settled q.c i q.j q.e (own q i) (q.heard i) (q.lane.idle i runs) q.epoch) name known in
    settled_parts (agreement_slot q.c i q.j q.e name) (own q i) (q.heard i) settled (cast q (limit_of name) i ≡ true) (λ cast. cast)
    (λ none. absurd (cc (none, some)))

-- ---- what a running node must have cast

when_is : {A : Type 0} (test : Bool) (x : A) → test ≡ true → (if test then Some x else None) ≡ Some x
when_is test x passes = rw passes refl

-- it supports its estimate
pub supports_own : (q : QuietAgreement) (i r : ℕ) (b : Bool) → q.runs i ≡ true → r < q.c.rounds → cast q (est r b) i ≡ true
    → cast q (bval r b) i ≡ true
unfolding choice_of
supports_own q i r b runs round estimate =
    let others : Bool = cast q (any_est r) i && nat_le (q.c.f + 1) (support_at q (bvals r b) i) in
    filled q i (Support r b) (Bval q.e r b) runs round
    (when_is (cast q (est r b) i || others) (Bval q.e r b) (or_left (cast q (est r b) i) others estimate))

-- in a round that it has entered it supports what f + 1 nodes support
pub supports_others : (q : QuietAgreement) (i r : ℕ) (b : Bool) → q.runs i ≡ true → r < q.c.rounds → cast q (any_est r) i ≡ true
    → q.c.f + 1 ≤ support_at q (bvals r b) i → cast q (bval r b) i ≡ true
unfolding choice_of
supports_others q i r b runs round entered many =
    let enough : Bool = nat_le (q.c.f + 1) (support_at q (bvals r b) i) in
    let others : Bool = cast q (any_est r) i && enough in
    filled q i (Support r b) (Bval q.e r b) runs round
    (when_is (cast q (est r b) i || others) (Bval q.e r b)
    (or_right (cast q (est r b) i) others
    (and_from (cast q (any_est r) i) enough entered (le-leb (q.c.f + 1) (support_at q (bvals r b) i) many))))

some_accepted : (c : Numbers) (v : View) (r : ℕ) (b : Bool) → is_supported c v r b ≡ true → (d : Bool) × (accepted_bit c v r ≡ Some d)
some_accepted c v r b supported = by (is_supported c v r true) (is_supported c v r false) refl refl
  where
    by : (high low : Bool) → is_supported c v r true ≡ high → is_supported c v r false ≡ low
        → (d : Bool) × ((if high then Some true else (if low then Some false else None)) ≡ Some d)
    by true low is_high is_low = (true, refl)
    by false true is_high is_low = (false, refl)
    by false false is_high is_low = absurd (neither b supported)
      where
        neither : (b : Bool) → is_supported c v r b ≡ true → ⊥
        neither true h = cc (is_high, h)
        neither false h = cc (is_low, h)

-- it accepts a bit, where one is supported
pub accepts : (q : QuietAgreement) (i r : ℕ) (b : Bool) → q.runs i ≡ true → r < q.c.rounds → cast q (any_est r) i ≡ true
    → 2 * q.c.f + 1 ≤ support_at q (bvals r b) i → cast q (any_aux r) i ≡ true
unfolding choice_of
accepts q i r b runs round entered many =
    let found = some_accepted q.c (view q i) r b (le-leb (2 * q.c.f + 1) (support_at q (bvals r b) i) many) in
    filled q i (Accept r) (Aux q.e r found.0) runs round
    (ap (λ (t : Bool). if t then option_map (Aux q.e r) (accepted_bit q.c (view q i) r) else None) entered
    ∙ ap (option_map (Aux q.e r)) found.1)

-- it says with what it is left, where there is a confirm phase
pub confirms_one : (q : QuietAgreement) (i r : ℕ) (b : Bool) → q.runs i ≡ true → r < q.c.rounds → confirms q.c ≡ true
    → is_gathered_one q.c (view q i) r b ≡ true → cast q (any_conf r) i ≡ true
unfolding choice_of
confirms_one q i r b runs round confirming left =
    filled q i (ConfirmOne r b) (Conf q.e r (single b)) runs (round, confirming) (when_is (is_gathered_one q.c (view q i) r b) (Conf q.e r (single b)) left)

pub confirms_both : (q : QuietAgreement) (i r : ℕ) → q.runs i ≡ true → r < q.c.rounds → confirms q.c ≡ true
    → is_gathered_both q.c (view q i) r ≡ true → cast q (any_conf r) i ≡ true
unfolding choice_of
confirms_both q i r runs round confirming left =
    filled q i (ConfirmBoth r) (Conf q.e r Both) runs (round, confirming) (when_is (is_gathered_both q.c (view q i) r) (Conf q.e r Both) left)

-- it picks that
pub picks_one : (q : QuietAgreement) (i r : ℕ) (b : Bool) → q.runs i ≡ true → r < q.c.rounds
    → is_left_one (confirms q.c) q.c (view q i) r b ≡ true → cast q (any_pick r) i ≡ true
unfolding choice_of
picks_one q i r b runs round left =
    filled q i (PickOne r b) (Pick q.e r (single b)) runs round (when_is (is_left_one (confirms q.c) q.c (view q i) r b) (Pick q.e r (single b)) left)

pub picks_both : (q : QuietAgreement) (i r : ℕ) → q.runs i ≡ true → r < q.c.rounds
    → is_left_both (confirms q.c) q.c (view q i) r ≡ true → cast q (any_pick r) i ≡ true
unfolding choice_of
picks_both q i r runs round left =
    filled q i (PickBoth r) (Pick q.e r Both) runs round (when_is (is_left_both (confirms q.c) q.c (view q i) r) (Pick q.e r Both) left)

-- it shows its share, once it has picked
pub shows_share : (q : QuietAgreement) (i r : ℕ) → q.runs i ≡ true → r < q.c.rounds → cast q (any_pick r) i ≡ true
    → cast q (any_coin r) i ≡ true
unfolding choice_of
shows_share q i r runs round picked =
    filled q i (ShowShare r) (dealt q.c i q.j q.e r) runs round (when_is (cast q (any_pick r) i) (dealt q.c i q.j q.e r) picked)

-- it goes on to the next round, unless it stops
pub goes_on : (q : QuietAgreement) (i r : ℕ) (coin b : Bool) → q.runs i ≡ true → r + 1 < q.c.rounds → (view q i).coin r ≡ Some coin
    → stops (view q i) r coin ≡ false → next_bit (view q i) r coin ≡ Some b → cast q (any_est (r + 1)) i ≡ true
unfolding choice_of
goes_on q i r coin b runs round known stays next =
    filled q i (GoOn r) (Est q.e (r + 1) b) runs round
    (ap (option_and_then (λ (d : Bool). if stops (view q i) r d then None else option_map (Est q.e (r + 1)) (next_bit (view q i) r d))) known
    ∙ ap (λ (t : Bool). if t then None else option_map (Est q.e (r + 1)) (next_bit (view q i) r coin)) stays
    ∙ ap (option_map (Est q.e (r + 1))) next)

-- it decides, where it has picked the coin alone
pub decides : (q : QuietAgreement) (i r : ℕ) (coin : Bool) → q.runs i ≡ true → r < q.c.rounds → (view q i).coin r ≡ Some coin
    → cast q (pick r (single coin)) i ≡ true → cast q any_decision i ≡ true
unfolding choice_of
decides q i r coin runs round known picked =
    filled q i (Decide r) (Decided q.e coin) runs round
    (ap (option_and_then (λ (d : Bool). if cast q (pick r (single d)) i then Some (Decided q.e d) else None)) known
    ∙ when_is (cast q (pick r (single coin)) i) (Decided q.e coin) picked)
