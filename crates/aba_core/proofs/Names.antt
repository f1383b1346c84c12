-- The slots of the agreement by their names, row by row.
use Rattle.std.proofs.Common.{◌≡◌, ℕ, zero, suc, ◌+◌, ◌-◌, ◌<◌, ◌≤◌, nat_lt, Bool, true, false, List, [], ◌∷◌, ◌++◌, Contains, map, inl, inr, refl, sym, ap, ◌∙◌, subst, append_assoc, append-nil, arith, if◌then◌else◌}
use Rattle.std.specs.List.{AllByRecursion}
use Rattle.std.proofs.lemmas.Bool.{lt-ltb, le-ltb, ltb-true, cases_lt}
use Rattle.std.proofs.lemmas.List.{map-append}
use Rattle.std.proofs.lemmas.List.Elements.{Contains-append_left, Contains-append_right}
use Rattle.hb_base.specs.Numbers.{Numbers}
use Rattle.hb_wire.specs.declared.vote.Vote.{Vote}
use Rattle.hb_rules.specs.declared.agreement_slot.AgreementSlot.{AgreementSlot}
use Rattle.hb_rules.specs.declared.agreement_slot.AgreementSlot.TheVariants as slot
use Rattle.hb_rules.specs.Agreement.{confirms}
use Rattle.hb_rules.specs.AgreementRows.{agreement_slot, agreement_names, confirm_names}
use Rattle.hb_rules.specs.Hearing.{Hearing}
use Rattle.hb_rules.specs.Slots.{Slot, each, of_epoch, IsIdle}
use Rattle.hb_rules.specs.Owing.{Place}
use Rattle.hb_rules.proofs.Lists.{AllByRecursion-append, AllByRecursion-each, AllByRecursion-contains, AllByRecursion-weaker, Contains-first, Contains-later}
use Rattle.hb_rules.proofs.Passing.{IsSettledAt, pass_settled, settled_idle}
use Rattle.aba_core.specs.declared.passing.Row.{Row}
use Rattle.aba_core.specs.declared.passing.Row.TheVariants.{Support, Accept, ConfirmOne, ConfirmBoth, PickOne, PickBoth, ShowShare, GoOn, Decide}
use Rattle.aba_core.specs.State.{AbaView, place_of}
use Rattle.aba_core.specs.Standing.{slots_at, Shows}
use Rattle.aba_core.specs.Rows.{row_at, row_of, needs_confirm, confirm_slots, begin_slots, names_of, IsKnown, slots_for, Rests, RestsBelow}
use Rattle.aba_core.proofs.Resting.{rests_settled, settled_rests}

-- ---- rows put together

flat : List (List AgreementSlot) → List AgreementSlot
flat [] = []
flat (names ∷ rows) = names ++ flat rows

flat_slots : (c : Numbers) (i j e : ℕ) (rows : List (List AgreementSlot))
    → of_epoch e (map (λ names e. map (agreement_slot c i j e) names) rows) ≡ map (agreement_slot c i j e) (flat rows)
unfolding flat
flat_slots c i j e [] = refl
flat_slots c i j e (names ∷ rows) =
    ap (λ (slots : List (Slot Vote Hearing)). map (agreement_slot c i j e) names ++ slots) (flat_slots c i j e rows)
    ∙ sym (map-append (agreement_slot c i j e) names (flat rows))

each_same : {A : Type 0} (k : ℕ) (f g : ℕ → List A) → ((r : ℕ) → r < k → f r ≡ g r) → each k f ≡ each k g
each_same zero f g same = refl
each_same (suc k) f g same = rw (each_same k f g (λ r below. same r (omega arith)), same k (omega arith)) refl

-- the last round has no estimate after it
next_row : (c : Numbers) → row_of c GoOn ≡ each (c.rounds - 1) (λ r. slot.GoOn r ∷ [])
next_row c = by c.rounds refl
  where
    inner : (k : ℕ) → k + 1 ≡ c.rounds → each k (row_at c GoOn) ≡ each k (λ r. slot.GoOn r ∷ [])
    inner k is =
        each_same k (row_at c GoOn) (λ r. slot.GoOn r ∷ [])
        (λ r below. let inside : nat_lt (r + 1) c.rounds ≡ true = lt-ltb (r + 1) c.rounds (omega arith) in rw inside refl)

    by : (k : ℕ) → c.rounds ≡ k → each k (row_at c GoOn) ≡ each (k - 1) (λ r. slot.GoOn r ∷ [])
    by zero is = refl
    by (suc k) is =
        let last : nat_lt (k + 1) c.rounds ≡ false = le-ltb (k + 1) c.rounds (omega arith) in
        let less : suc k - 1 ≡ k = omega arith in
        rw (less, last) (append-nil (each k (row_at c GoOn)) ∙ inner k (omega arith))

flat_names : (c : Numbers) → flat (agreement_names c) ≡ names_of c
unfolding flat
flat_names c = by (confirms c)
  where
    after : List AgreementSlot
    after = row_of c PickOne ++ (row_of c PickBoth ++ (row_of c ShowShare ++ (row_of c GoOn ++ row_of c Decide)))

    last : row_of c PickOne ++ (row_of c PickBoth ++ (row_of c ShowShare ++ (each (c.rounds - 1) (λ r. slot.GoOn r ∷ []) ++ (row_of c Decide ++ []))))
        ≡ row_of c PickOne ++ (row_of c PickBoth ++ (row_of c ShowShare ++ (row_of c GoOn ++ row_of c Decide)))
    last = rw (← next_row c, append-nil (row_of c Decide)) refl

    by : (confirm : Bool) → (slot.Begin true ∷ []) ++ ((slot.Begin false ∷ []) ++ (row_of c Support ++ (row_of c Accept
        ++ flat (confirm_names confirm c.rounds ++ (row_of c PickOne ∷ row_of c PickBoth ∷ row_of c ShowShare
        ∷ each (c.rounds - 1) (λ r. slot.GoOn r ∷ []) ∷ row_of c Decide ∷ [])))))
        ≡ begin_slots ++ (row_of c Support ++ (row_of c Accept ++ (confirm_slots confirm c
        ++ (row_of c PickOne ++ (row_of c PickBoth ++ (row_of c ShowShare ++ (row_of c GoOn ++ row_of c Decide)))))))
    by false = ap (λ (rest : List AgreementSlot). begin_slots ++ (row_of c Support ++ (row_of c Accept ++ rest))) last
    by true =
        ap (λ (rest : List AgreementSlot). begin_slots ++ (row_of c Support ++ (row_of c Accept ++ (row_of c ConfirmOne ++ (row_of c ConfirmBoth ++ rest))))) last
        ∙ ap (λ (rest : List AgreementSlot). begin_slots ++ (row_of c Support ++ (row_of c Accept ++ rest)))
        (sym (append_assoc (row_of c ConfirmOne) (row_of c ConfirmBoth)
        (row_of c PickOne ++ (row_of c PickBoth ++ (row_of c ShowShare ++ (row_of c GoOn ++ row_of c Decide))))))

pub slots_are : (p : Place) → slots_at p ≡ slots_for p (names_of p.config)
slots_are p = flat_slots p.config p.node p.lane p.epoch (agreement_names p.config) ∙ ap (map (agreement_slot p.config p.node p.lane p.epoch)) (flat_names p.config)

-- ---- each slot of the run is named, and those are all

pub row_known : (c : Numbers) (row : Row) → (needs_confirm row ≡ true → confirms c ≡ true) → (r : ℕ) → r < c.rounds → AllByRecursion (IsKnown c) (row_at c row r)
row_known c Support phase r below = (record { round = below; limit = below; in_use = refl }, (record { round = below; limit = below; in_use = refl }, tt))
row_known c Accept phase r below = (record { round = below; limit = below; in_use = refl }, tt)
row_known c ConfirmOne phase r below =
    (record { round = below; limit = below; in_use = phase refl }, (record { round = below; limit = below; in_use = phase refl }, tt))
row_known c ConfirmBoth phase r below = (record { round = below; limit = below; in_use = phase refl }, tt)
row_known c PickOne phase r below = (record { round = below; limit = below; in_use = refl }, (record { round = below; limit = below; in_use = refl }, tt))
row_known c PickBoth phase r below = (record { round = below; limit = below; in_use = refl }, tt)
row_known c ShowShare phase r below = (record { round = below; limit = below; in_use = refl }, tt)
row_known c GoOn phase r below = by (nat_lt (r + 1) c.rounds) refl
  where
    by : (b : Bool) → nat_lt (r + 1) c.rounds ≡ b → AllByRecursion (IsKnown c) (if b then slot.GoOn r ∷ [] else [])
    by true inside = (record { round = below; limit = ltb-true (r + 1) c.rounds inside; in_use = refl }, tt)
    by false past = tt
row_known c Decide phase r below = (record { round = below; limit = omega arith; in_use = refl }, tt)

pub rows_known : (c : Numbers) (row : Row) → (needs_confirm row ≡ true → confirms c ≡ true) → AllByRecursion (IsKnown c) (row_of c row)
rows_known c row phase = AllByRecursion-each (IsKnown c) c.rounds (row_at c row) (row_known c row phase)

pub begin_known : (c : Numbers) → 1 ≤ c.rounds → AllByRecursion (IsKnown c) begin_slots
begin_known c some = (record { round = omega arith; limit = omega arith; in_use = refl }, (record { round = omega arith; limit = omega arith; in_use = refl }, tt))

pub confirm_known : (c : Numbers) (confirm : Bool) → confirms c ≡ confirm → AllByRecursion (IsKnown c) (confirm_slots confirm c)
confirm_known c false phase = tt
confirm_known c true phase =
    AllByRecursion-append (IsKnown c) (row_of c ConfirmOne) (row_of c ConfirmBoth) (rows_known c ConfirmOne (λ h. phase)) (rows_known c ConfirmBoth (λ h. phase))

pub names_known : (c : Numbers) → 1 ≤ c.rounds → AllByRecursion (IsKnown c) (names_of c)
names_known c some =
    join begin_slots _ (begin_known c some)
    (join (row_of c Support) _ (rows_known c Support (λ h. absurd (cc (h))))
    (join (row_of c Accept) _ (rows_known c Accept (λ h. absurd (cc (h))))
    (join (confirm_slots (confirms c) c) _ (confirm_known c (confirms c) refl)
    (join (row_of c PickOne) _ (rows_known c PickOne (λ h. absurd (cc (h))))
    (join (row_of c PickBoth) _ (rows_known c PickBoth (λ h. absurd (cc (h))))
    (join (row_of c ShowShare) _ (rows_known c ShowShare (λ h. absurd (cc (h))))
    (join (row_of c GoOn) (row_of c Decide) (rows_known c GoOn (λ h. absurd (cc (h))))
    (rows_known c Decide (λ h. absurd (cc (h)))))))))))
  where
    join : (xs ys : List AgreementSlot) → AllByRecursion (IsKnown c) xs → AllByRecursion (IsKnown c) ys → AllByRecursion (IsKnown c) (xs ++ ys)
    join xs ys one two = AllByRecursion-append (IsKnown c) xs ys one two

pub Contains-each : {A : Type 0} (k : ℕ) (f : ℕ → List A) (r : ℕ) (x : A) → r < k → Contains (f r) x → Contains (each k f) x
Contains-each zero f r x below stands = absurd (omega arith)
Contains-each (suc k) f r x below stands = elim (cases_lt r k) [
  | inl earlier ↦ Contains-append_left (each k f) (f k) x (Contains-each k f r x earlier stands)
  | inr last ↦ let is : k ≡ r = omega arith in Contains-append_right (each k f) (f k) x (rw is stands)
]

second : {A : Type 0} (x y : A) → Contains (x ∷ y ∷ []) y
second x y = Contains-later x (y ∷ []) y (Contains-first y [])

pub named : (c : Numbers) (name : AgreementSlot) → IsKnown c name → Contains (names_of c) name
named c name known = in_all name known
  where
    right : (xs ys : List AgreementSlot) (x : AgreementSlot) → Contains ys x → Contains (xs ++ ys) x
    right xs ys x stands = Contains-append_right xs ys x stands

    left : (xs ys : List AgreementSlot) (x : AgreementSlot) → Contains xs x → Contains (xs ++ ys) x
    left xs ys x stands = Contains-append_left xs ys x stands

    in_row : (row : Row) (r : ℕ) (x : AgreementSlot) → r < c.rounds → Contains (row_at c row r) x → Contains (row_of c row) x
    in_row row r x below stands = Contains-each c.rounds (row_at c row) r x below stands

    past_accept : (x : AgreementSlot) → Contains (confirm_slots (confirms c) c ++ (row_of c PickOne ++ (row_of c PickBoth ++ (row_of c ShowShare ++ (row_of c GoOn ++ row_of c Decide))))) x
        → Contains (names_of c) x
    past_accept x stands = right begin_slots _ x (right (row_of c Support) _ x (right (row_of c Accept) _ x stands))

    past_confirm : (x : AgreementSlot) → Contains (row_of c PickOne ++ (row_of c PickBoth ++ (row_of c ShowShare ++ (row_of c GoOn ++ row_of c Decide)))) x
        → Contains (names_of c) x
    past_confirm x stands = past_accept x (right (confirm_slots (confirms c) c) _ x stands)

    confirming : (x : AgreementSlot) → (confirm : Bool) → confirm ≡ true → Contains (row_of c ConfirmOne ++ row_of c ConfirmBoth) x → Contains (confirm_slots confirm c) x
    confirming x true h stands = stands
    confirming x false h stands = absurd (cc (h))

    pair : (f : Bool → AgreementSlot) (b : Bool) → Contains (f false ∷ f true ∷ []) (f b)
    pair f false = Contains-first (f false) (f true ∷ [])
    pair f true = second (f false) (f true)

    in_all : (name : AgreementSlot) → IsKnown c name → Contains (names_of c) name
    in_all (slot.Begin true) known = left begin_slots _ (slot.Begin true) (Contains-first (slot.Begin true) (slot.Begin false ∷ []))
    in_all (slot.Begin false) known = left begin_slots _ (slot.Begin false) (second (slot.Begin true) (slot.Begin false))
    in_all (slot.Support r b) known =
        right begin_slots _ (slot.Support r b) (left (row_of c Support) _ (slot.Support r b)
        (in_row Support r (slot.Support r b) known.round (pair (slot.Support r) b)))
    in_all (slot.Accept r) known =
        right begin_slots _ (slot.Accept r) (right (row_of c Support) _ (slot.Accept r) (left (row_of c Accept) _ (slot.Accept r)
        (in_row Accept r (slot.Accept r) known.round (Contains-first (slot.Accept r) []))))
    in_all (slot.ConfirmOne r b) known =
        past_accept (slot.ConfirmOne r b) (left (confirm_slots (confirms c) c) _ (slot.ConfirmOne r b)
        (confirming (slot.ConfirmOne r b) (confirms c) known.in_use (left (row_of c ConfirmOne) (row_of c ConfirmBoth) (slot.ConfirmOne r b)
        (in_row ConfirmOne r (slot.ConfirmOne r b) known.round (pair (slot.ConfirmOne r) b)))))
    in_all (slot.ConfirmBoth r) known =
        past_accept (slot.ConfirmBoth r) (left (confirm_slots (confirms c) c) _ (slot.ConfirmBoth r)
        (confirming (slot.ConfirmBoth r) (confirms c) known.in_use (right (row_of c ConfirmOne) (row_of c ConfirmBoth) (slot.ConfirmBoth r)
        (in_row ConfirmBoth r (slot.ConfirmBoth r) known.round (Contains-first (slot.ConfirmBoth r) [])))))
    in_all (slot.PickOne r b) known =
        past_confirm (slot.PickOne r b) (left (row_of c PickOne) _ (slot.PickOne r b)
        (in_row PickOne r (slot.PickOne r b) known.round (pair (slot.PickOne r) b)))
    in_all (slot.PickBoth r) known =
        past_confirm (slot.PickBoth r) (right (row_of c PickOne) _ (slot.PickBoth r) (left (row_of c PickBoth) _ (slot.PickBoth r)
        (in_row PickBoth r (slot.PickBoth r) known.round (Contains-first (slot.PickBoth r) []))))
    in_all (slot.ShowShare r) known =
        past_confirm (slot.ShowShare r) (right (row_of c PickOne) _ (slot.ShowShare r) (right (row_of c PickBoth) _ (slot.ShowShare r)
        (left (row_of c ShowShare) _ (slot.ShowShare r) (in_row ShowShare r (slot.ShowShare r) known.round (Contains-first (slot.ShowShare r) [])))))
    in_all (slot.GoOn r) known =
        let inside : nat_lt (r + 1) c.rounds ≡ true = lt-ltb (r + 1) c.rounds known.limit in
        past_confirm (slot.GoOn r) (right (row_of c PickOne) _ (slot.GoOn r) (right (row_of c PickBoth) _ (slot.GoOn r)
        (right (row_of c ShowShare) _ (slot.GoOn r) (left (row_of c GoOn) (row_of c Decide) (slot.GoOn r)
        (in_row GoOn r (slot.GoOn r) known.round (rw inside (Contains-first (slot.GoOn r) [])))))))
    in_all (slot.Decide r) known =
        past_confirm (slot.Decide r) (right (row_of c PickOne) _ (slot.Decide r) (right (row_of c PickBoth) _ (slot.Decide r)
        (right (row_of c ShowShare) _ (slot.Decide r) (right (row_of c GoOn) (row_of c Decide) (slot.Decide r)
        (in_row Decide r (slot.Decide r) known.round (Contains-first (slot.Decide r) []))))))

-- ---- nothing is owed exactly where all slots rest

all_mapped : {A B : Type 0} (P : B → Type 0) (f : A → B) (xs : List A) → AllByRecursion (λ x. P (f x)) xs → AllByRecursion P (map f xs)
all_mapped P f [] all = tt
all_mapped P f (x ∷ xs) all = (all.0, all_mapped P f xs all.1)

all_unmapped : {A B : Type 0} (P : B → Type 0) (f : A → B) (xs : List A) → AllByRecursion P (map f xs) → AllByRecursion (λ x. P (f x)) xs
all_unmapped P f [] all = tt
all_unmapped P f (x ∷ xs) all = (all.0, all_unmapped P f xs all.1)

-- slots that rest owe nothing
pub resting_idle : (a : AbaView) (own : List Vote) (heard : List Hearing) → Shows a own heard → (names : List AgreementSlot)
    → AllByRecursion (λ name. IsKnown a.config name × Rests a name) names → IsIdle (slots_for (place_of a) names) own heard
resting_idle a own heard shows names rest =
    pass_settled (slots_for (place_of a) names) own heard
    (all_mapped (λ slot. IsSettledAt slot own heard) (agreement_slot a.config a.node a.lane a.epoch) names
    (AllByRecursion-weaker (λ name. IsKnown a.config name × Rests a name) (λ name. IsSettledAt (agreement_slot a.config a.node a.lane a.epoch name) own heard) names
    (λ name h. rests_settled a own heard shows name h.0 h.1) rest))

pub all_resting_idle : (a : AbaView) (own : List Vote) (heard : List Hearing) → Shows a own heard → 1 ≤ a.config.rounds → RestsBelow a a.config.rounds
    → IsIdle (slots_at (place_of a)) own heard
all_resting_idle a own heard shows some resting =
    subst (λ (slots : List (Slot Vote Hearing)). IsIdle slots own heard) (sym (slots_are (place_of a))) (resting_idle a own heard shows (names_of a.config)
    (AllByRecursion-weaker (IsKnown a.config) (λ name. IsKnown a.config name × Rests a name) (names_of a.config)
    (λ name known. (known, resting name known known.round)) (names_known a.config some)))

pub idle_resting : (a : AbaView) (own : List Vote) (heard : List Hearing) → Shows a own heard → IsIdle (slots_at (place_of a)) own heard → (k : ℕ) → RestsBelow a k
idle_resting a own heard shows idle k name known below =
    let all : AllByRecursion (λ (name : AgreementSlot). IsSettledAt (agreement_slot a.config a.node a.lane a.epoch name) own heard) (names_of a.config) =
    all_unmapped (λ slot. IsSettledAt slot own heard) (agreement_slot a.config a.node a.lane a.epoch) (names_of a.config)
    (settled_idle (slots_for (place_of a) (names_of a.config)) own heard (subst (λ (slots : List (Slot Vote Hearing)). IsIdle slots own heard) (slots_are (place_of a)) idle)) in
    settled_rests a own heard shows name known
    (AllByRecursion-contains (λ name. IsSettledAt (agreement_slot a.config a.node a.lane a.epoch name) own heard) (names_of a.config) name all (named a.config name known))
