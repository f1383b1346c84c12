-- Going through the lanes beside a list tells whether the list may close the epoch. The letters: e is an epoch, k counts the
-- lanes that are left.
use Rattle.std.proofs.Common.{◌≡◌, ◌↔◌, IsTrue, ℕ, zero, suc, ◌+◌, ◌-◌, ◌<◌, ◌≤◌, Bool, true, false, not, ◌&&◌, ◌==◌, inl, inr, List, [], ◌∷◌, length, Contains, Option, None, Some, if◌then◌else◌, refl, sym, ap, ◌∙◌, subst, map, arith}
use Rattle.std.specs.Prelude.{All}
use Rattle.std.specs.List.{list_any, filter, range_with_len}
use Rattle.std.proofs.lemmas.Bool.{both_ways, not-true, not_from_false, eqb-true, eq-eqb, ne_eqb, and_parts, and_from, cases_eq}
use Rattle.std.proofs.lemmas.List.Elements.{All-nil, All-cons, All-head, All-tail}
use Rattle.std.proofs.lemmas.Slice.Eq.{bytes_eq-Decides}
use Rattle.hb_base.specs.Numbers.{Numbers}
use Rattle.hb_wire.specs.declared.items.Item.{Item}
use Rattle.hb_wire.specs.declared.vote.Vote.{Vote}
use Rattle.hb_wire.specs.declared.vote.Vote.TheVariants.{Delivered, Closed}
use Rattle.hb_rules.specs.Claims.{are_these, is_decision, is_delivery, is_any_closing}
use Rattle.hb_rules.specs.Desk.{is_open, IsAccepted, MayAtDesk}
use Rattle.hb_rules.specs.Hearing.{Hearing, hearing, heard_by}
use Rattle.hb_rules.specs.Slots.{when}
use Rattle.hb_rules.proofs.Among.{any_stands}
use Rattle.hb_rules.proofs.Lists.{list_any-from}
use Rattle.desk_judge.specs.Accepting.{after_lane}

-- whether the list ends with the lanes
abbrev pub ends : List Item → Bool
ends [] = true
ends (item ∷ items) = false

abbrev pub goes_on : (List Item → Bool) → Option (List Item) → Bool
goes_on rest None = false
goes_on rest (Some items) = rest items

-- whether k lanes from this one on and the list fit
abbrev pub fits : ℕ → List Hearing → ℕ → ℕ → List Item → Bool
fits e heard zero lane list = ends list
fits e heard (suc k) lane list = goes_on (fits e heard k (lane + 1)) (after_lane e heard lane list)

-- k lanes from this one on and the list fit: it has, rising, those that decided 1, each with a value that it delivered
record Fit (e : ℕ) (heard : List Hearing) (k lane : ℕ) (list : List Item) : Type 0 where
  bits : ℕ → Bool
  decided : (j : ℕ) → lane ≤ j → j < lane + k → heard_by heard j (is_decision e (bits j)) ≡ true
  lanes : map (λ item. item.node) list ≡ filter bits (range_with_len lane k)
  values : All (λ item. Contains heard (hearing item.node (Delivered e item.value))) list

-- ---- values

delivery-is : (e : ℕ) (value : List ℕ) (vote : Vote) → is_delivery e value vote ≡ true → vote ≡ Delivered e value
delivery-is e value (Delivered d other) h = by (d == e) refl h
  where
    by : (t : Bool) → (d == e) ≡ t → are_these value (if t then Some other else None) ≡ true → Delivered d other ≡ Delivered e value
    by true same h =
        let epoch : d ≡ e = eqb-true d e same in
        let values : value ≡ other = (bytes_eq-Decides value other).0 h in
        cc (epoch, values)
    by false other h = absurd (cc (h))
delivery-is e value vote h = absurd (cc (h))

delivery-marked : (e : ℕ) (value : List ℕ) → is_delivery e value (Delivered e value) ≡ true
delivery-marked e value =
    let same : (e == e) ≡ true = eq-eqb e e refl in
    rw same ((bytes_eq-Decides value value).1 refl)

delivered_from : (e j : ℕ) (value : List ℕ) (heard : List Hearing) → heard_by heard j (is_delivery e value) ≡ true
    → Contains heard (hearing j (Delivered e value))
delivered_from e j value heard h =
    let found = any_stands (λ g. (g.from == j) && is_delivery e value g.vote) heard h in
    let parts = and_parts (found.0.from == j) (is_delivery e value found.0.vote) found.2 in
    let from : found.0.from ≡ j = eqb-true found.0.from j parts.0 in
    let vote : found.0.vote ≡ Delivered e value = delivery-is e value found.0.vote parts.1 in
    subst (λ (v : Vote). Contains heard (hearing j v)) vote (subst (λ (a : ℕ). Contains heard (hearing a found.0.vote)) from found.1)

delivered_heard : (e j : ℕ) (value : List ℕ) (heard : List Hearing) → Contains heard (hearing j (Delivered e value))
    → heard_by heard j (is_delivery e value) ≡ true
delivered_heard e j value heard stands =
    list_any-from (λ (g : Hearing). (g.from == j) && is_delivery e value g.vote) heard (hearing j (Delivered e value)) stands
    (and_from (j == j) (is_delivery e value (Delivered e value)) (eq-eqb j j refl) (delivery-marked e value))

-- ---- one lane more

upd : ℕ → Bool → (ℕ → Bool) → ℕ → Bool
upd lane b bits j = if j == lane then b else bits j

upd-here : (lane : ℕ) (b : Bool) (bits : ℕ → Bool) → upd lane b bits lane ≡ b
unfolding upd
upd-here lane b bits = let same : (lane == lane) ≡ true = eq-eqb lane lane refl in rw same refl

upd-other : (lane : ℕ) (b : Bool) (bits : ℕ → Bool) (j : ℕ) → (j ≡ lane → ⊥) → upd lane b bits j ≡ bits j
unfolding upd
upd-other lane b bits j other = let same : (j == lane) ≡ false = ne_eqb j lane other in rw same refl

same_above : (lane : ℕ) (b : Bool) (bits : ℕ → Bool) (a k : ℕ) → lane < a
    → filter (upd lane b bits) (range_with_len a k) ≡ filter bits (range_with_len a k)
same_above lane b bits a zero above = refl
same_above lane b bits a (suc k) above =
    let here : upd lane b bits a ≡ bits a = upd-other lane b bits a (λ is. absurd (omega (arith, is, above))) in
    let later : filter (upd lane b bits) (range_with_len (a + 1) k) ≡ filter bits (range_with_len (a + 1) k) =
    same_above lane b bits (a + 1) k (omega (arith, above)) in
    rw (here, later) refl

abbrev more_lanes : Bool → ℕ → List ℕ → List ℕ
more_lanes b lane rest = if b then lane ∷ rest else rest

extended : (lane k : ℕ) (b : Bool) (bits : ℕ → Bool)
    → filter (upd lane b bits) (range_with_len lane (suc k)) ≡ more_lanes b lane (filter bits (range_with_len (lane + 1) k))
extended lane k b bits =
    let here : upd lane b bits lane ≡ b = upd-here lane b bits in
    let later : filter (upd lane b bits) (range_with_len (lane + 1) k) ≡ filter bits (range_with_len (lane + 1) k) =
    same_above lane b bits (lane + 1) k (omega arith) in
    rw (here, later) refl

-- the lanes behind one fit, and it has decided this bit
one_more : (e : ℕ) (heard : List Hearing) (k lane : ℕ) (b : Bool) (list rest : List Item) → Fit e heard k (lane + 1) rest
    → heard_by heard lane (is_decision e b) ≡ true
    → map (λ (item : Item). item.node) list ≡ more_lanes b lane (map (λ (item : Item). item.node) rest)
    → All (λ item. Contains heard (hearing item.node (Delivered e item.value))) list
    → Fit e heard (suc k) lane list
one_more e heard k lane b list rest fit decided lanes values = record {
  bits = upd lane b fit.bits;
  decided = λ j low high. elim (cases_eq j lane) [
    | inl same ↦
        let bit : upd lane b fit.bits j ≡ b = ap (upd lane b fit.bits) same ∙ upd-here lane b fit.bits in
        rw (bit, same) decided
    | inr other ↦
        let bit : upd lane b fit.bits j ≡ fit.bits j = upd-other lane b fit.bits j other in
        rw bit (fit.decided j (omega (arith, low, other)) (omega (arith, high)))
  ];
  lanes = lanes ∙ ap (more_lanes b lane) fit.lanes ∙ sym (extended lane k b fit.bits);
  values = values;
}

-- ---- what the tests tell

-- a lane that is not in the list
sound_rejected : (e : ℕ) (heard : List Hearing) (k lane : ℕ) (list : List Item)
    → (fits e heard k (lane + 1) list ≡ true → Fit e heard k (lane + 1) list) → (d : Bool) → heard_by heard lane (is_decision e false) ≡ d
    → goes_on (fits e heard k (lane + 1)) (when d list) ≡ true → Fit e heard (suc k) lane list
sound_rejected e heard k lane list later true decided h =
    let rest = later h in
    one_more e heard k lane false list list rest decided refl rest.values
sound_rejected e heard k lane list later false decided h = absurd (cc (h))

-- a lane that is the first in the list
sound_accepted : (e : ℕ) (heard : List Hearing) (k lane : ℕ) (item : Item) (items : List Item)
    → (fits e heard k (lane + 1) items ≡ true → Fit e heard k (lane + 1) items) → item.node ≡ lane → (d : Bool)
    → (heard_by heard lane (is_decision e true) && heard_by heard lane (is_delivery e item.value)) ≡ d
    → goes_on (fits e heard k (lane + 1)) (when d items) ≡ true → Fit e heard (suc k) lane (item ∷ items)
sound_accepted e heard k lane item items later node true shown h =
    let rest = later h in
    let parts = and_parts (heard_by heard lane (is_decision e true)) (heard_by heard lane (is_delivery e item.value)) shown in
    one_more e heard k lane true (item ∷ items) items rest parts.0 (ap (λ (a : ℕ). a ∷ map (λ (item : Item). item.node) items) node)
    (All-cons (λ (item : Item). Contains heard (hearing item.node (Delivered e item.value))) item items
    (subst (λ (a : ℕ). Contains heard (hearing a (Delivered e item.value))) (sym node) (delivered_from e lane item.value heard parts.1)) rest.values)
sound_accepted e heard k lane item items later node false shown h = absurd (cc (h))

sound_item : (e : ℕ) (heard : List Hearing) (k lane : ℕ) (item : Item) (items : List Item)
    → (fits e heard k (lane + 1) items ≡ true → Fit e heard k (lane + 1) items)
    → (fits e heard k (lane + 1) (item ∷ items) ≡ true → Fit e heard k (lane + 1) (item ∷ items))
    → (t : Bool) → (item.node == lane) ≡ t
    → goes_on (fits e heard k (lane + 1))
    (if t
    then when (heard_by heard lane (is_decision e true) && heard_by heard lane (is_delivery e item.value)) items
    else when (heard_by heard lane (is_decision e false)) (item ∷ items)) ≡ true
    → Fit e heard (suc k) lane (item ∷ items)
sound_item e heard k lane item items one other true same h =
    sound_accepted e heard k lane item items one (eqb-true item.node lane same)
    (heard_by heard lane (is_decision e true) && heard_by heard lane (is_delivery e item.value)) refl h
sound_item e heard k lane item items one other false same h =
    sound_rejected e heard k lane (item ∷ items) other (heard_by heard lane (is_decision e false)) refl h

sound_from : (e : ℕ) (heard : List Hearing) (k lane : ℕ) (list : List Item) → fits e heard k lane list ≡ true → Fit e heard k lane list
sound_from e heard zero lane [] h = record {
  bits = λ j. false;
  decided = λ j low high. absurd (omega (arith, low, high));
  lanes = refl;
  values = All-nil (λ (item : Item). Contains heard (hearing item.node (Delivered e item.value)));
}
sound_from e heard zero lane (item ∷ items) h = absurd (cc (h))
sound_from e heard (suc k) lane [] h =
    sound_rejected e heard k lane [] (λ yes. sound_from e heard k (lane + 1) [] yes) (heard_by heard lane (is_decision e false)) refl h
sound_from e heard (suc k) lane (item ∷ items) h =
    sound_item e heard k lane item items (λ yes. sound_from e heard k (lane + 1) items yes) (λ yes. sound_from e heard k (lane + 1) (item ∷ items) yes)
    (item.node == lane) refl h

-- the numbers that pass a test, from one on, are no less
no_less : (bits : ℕ → Bool) (a k x : ℕ) (xs : List ℕ) → filter bits (range_with_len a k) ≡ x ∷ xs → a ≤ x
no_less bits a zero x xs h = absurd (cc (h))
no_less bits a (suc k) x xs h = by (bits a) (λ later. no_less bits (a + 1) k x xs later) h
  where
    by : (b : Bool) → (filter bits (range_with_len (a + 1) k) ≡ x ∷ xs → a + 1 ≤ x)
        → more_lanes b a (filter bits (range_with_len (a + 1) k)) ≡ x ∷ xs → a ≤ x
    by true later h = let same : a ≡ x = cc (h) in omega (arith, same)
    by false later h = let above : a + 1 ≤ x = later h in omega (arith, above)

complete_from : (e : ℕ) (heard : List Hearing) (k lane : ℕ) (list : List Item) → Fit e heard k lane list → fits e heard k lane list ≡ true
complete_from e heard zero lane [] fit = refl
complete_from e heard zero lane (item ∷ items) fit = absurd (let none : item.node ∷ map (λ (item : Item). item.node) items ≡ [] = fit.lanes in cc (none))
complete_from e heard (suc k) lane list fit = by (fit.bits lane) refl list (λ items rest. complete_from e heard k (lane + 1) items rest) fit.lanes fit.values
  where
    decided : (b : Bool) → fit.bits lane ≡ b → heard_by heard lane (is_decision e b) ≡ true
    decided b is = subst (λ (b : Bool). heard_by heard lane (is_decision e b) ≡ true) is (fit.decided lane (omega arith) (omega arith))

    rest : (items : List Item) → map (λ (item : Item). item.node) items ≡ filter fit.bits (range_with_len (lane + 1) k)
        → All (λ item. Contains heard (hearing item.node (Delivered e item.value))) items → Fit e heard k (lane + 1) items
    rest items lanes values = (record {
      bits = fit.bits;
      decided = λ j low high. fit.decided j (omega (arith, low)) (omega (arith, high));
      lanes = lanes;
      values = values;
    })

    by : (b : Bool) → fit.bits lane ≡ b → (list : List Item)
        → ((items : List Item) → Fit e heard k (lane + 1) items → fits e heard k (lane + 1) items ≡ true)
        → map (λ (item : Item). item.node) list ≡ more_lanes (fit.bits lane) lane (filter fit.bits (range_with_len (lane + 1) k))
        → All (λ item. Contains heard (hearing item.node (Delivered e item.value))) list
        → goes_on (fits e heard k (lane + 1)) (after_lane e heard lane list) ≡ true
    by true is [] later lanes values =
        absurd (let none : [] ≡ lane ∷ filter fit.bits (range_with_len (lane + 1) k) =
        lanes ∙ ap (λ (b : Bool). more_lanes b lane (filter fit.bits (range_with_len (lane + 1) k))) is in cc (none))
    by true is (item ∷ items) later lanes values =
        let all : item.node ∷ map (λ (item : Item). item.node) items ≡ lane ∷ filter fit.bits (range_with_len (lane + 1) k) =
        lanes ∙ ap (λ (b : Bool). more_lanes b lane (filter fit.bits (range_with_len (lane + 1) k))) is in
        let node : item.node ≡ lane = cc (all) in
        let others : map (λ (item : Item). item.node) items ≡ filter fit.bits (range_with_len (lane + 1) k) = cc (all) in
        let same : (item.node == lane) ≡ true = eq-eqb item.node lane node in
        let one : heard_by heard lane (is_decision e true) ≡ true = decided true is in
        let carried : heard_by heard lane (is_delivery e item.value) ≡ true =
        delivered_heard e lane item.value heard
        (subst (λ (a : ℕ). Contains heard (hearing a (Delivered e item.value))) node
        (All-head (λ (item : Item). Contains heard (hearing item.node (Delivered e item.value))) item items values)) in
        let left = later items (rest items others (All-tail (λ (item : Item). Contains heard (hearing item.node (Delivered e item.value))) item items values)) in
        rw (same, one, carried) left
    by false is [] later lanes values =
        let zero_ : heard_by heard lane (is_decision e false) ≡ true = decided false is in
        let left = later [] (rest [] (lanes ∙ ap (λ (b : Bool). more_lanes b lane (filter fit.bits (range_with_len (lane + 1) k))) is) values) in
        rw zero_ left
    by false is (item ∷ items) later lanes values =
        let all : item.node ∷ map (λ (item : Item). item.node) items ≡ filter fit.bits (range_with_len (lane + 1) k) =
        lanes ∙ ap (λ (b : Bool). more_lanes b lane (filter fit.bits (range_with_len (lane + 1) k))) is in
        let above : lane + 1 ≤ item.node = no_less fit.bits (lane + 1) k item.node (map (λ (item : Item). item.node) items) (sym all) in
        let same : (item.node == lane) ≡ false = ne_eqb item.node lane (λ node. absurd (omega (arith, node, above))) in
        let zero_ : heard_by heard lane (is_decision e false) ≡ true = decided false is in
        let left = later (item ∷ items) (rest (item ∷ items) all values) in
        rw (same, zero_) left

-- the list may close the epoch exactly where it and all n lanes fit
pub accepted_is : (c : Numbers) (e : ℕ) (heard : List Hearing) (list : List Item)
    → (fits e heard c.n 0 list ≡ true) ↔ IsAccepted c e heard list
accepted_is c e heard list = (
  λ yes.
      let fit = sound_from e heard c.n 0 list yes in
      record { bits = fit.bits; decided = λ j inside. fit.decided j (omega arith) (omega (arith, inside)); lanes = fit.lanes; values = fit.values },
  λ accepted. complete_from e heard c.n 0 list (record {
    bits = accepted.bits;
    decided = λ j low high. accepted.decided j (omega (arith, high));
    lanes = accepted.lanes;
    values = accepted.values;
  }),
)

-- ---- going through the lanes

-- one lane more
pub lane_more : (e n lane : ℕ) (heard : List Hearing) (rest later : List Item) → lane < n → after_lane e heard lane rest ≡ Some later
    → fits e heard (n - lane) lane rest ≡ fits e heard (n - (lane + 1)) (lane + 1) later
lane_more e n lane heard rest later inside is =
    let left : n - lane ≡ suc (n - (lane + 1)) = omega (arith, inside) in
    ap (λ (k : ℕ). fits e heard k lane rest) left ∙ ap (goes_on (fits e heard (n - (lane + 1)) (lane + 1))) is

-- a lane that does not fit
pub lane_none : (e n lane : ℕ) (heard : List Hearing) (rest : List Item) → lane < n → after_lane e heard lane rest ≡ None
    → fits e heard (n - lane) lane rest ≡ false
lane_none e n lane heard rest inside is =
    let left : n - lane ≡ suc (n - (lane + 1)) = omega (arith, inside) in
    ap (λ (k : ℕ). fits e heard k lane rest) left ∙ ap (goes_on (fits e heard (n - (lane + 1)) (lane + 1))) is

-- the end of the lanes
pub lanes_end : (e n lane : ℕ) (heard : List Hearing) (rest : List Item) → n ≤ lane → fits e heard (n - lane) lane rest ≡ ends rest
lanes_end e n lane heard rest past = let none : n - lane ≡ 0 = omega (arith, past) in ap (λ (k : ℕ). fits e heard k lane rest) none

pub ends_empty : (rest : List Item) → ends rest ≡ (length rest == 0)
ends_empty [] = refl
ends_empty (item ∷ items) = sym (ne_eqb (suc (length items)) 0 (λ same. absurd (omega (arith, same))))

-- the votes that stand in the way, and the list
pub may_close : (c : Numbers) (e : ℕ) (own : List Vote) (heard : List Hearing) (list : List Item) (answer : Bool)
    → (is_open e own && not (list_any (is_any_closing e) own)) ≡ true
    → ((IsTrue answer → IsAccepted c e heard list) × (IsAccepted c e heard list → IsTrue answer))
    → IsTrue answer ↔ MayAtDesk c own heard (Closed e list)
may_close c e own heard list answer free accepted =
    let parts = and_parts (is_open e own) (not (list_any (is_any_closing e) own)) free in (
      λ yes. (parts.0, accepted.0 yes, not-true (list_any (is_any_closing e) own) parts.1),
      λ may. accepted.1 may.1,
    )

pub may_not_close : (c : Numbers) (e : ℕ) (own : List Vote) (heard : List Hearing) (list : List Item)
    → (is_open e own && not (list_any (is_any_closing e) own)) ≡ false → IsTrue false ↔ MayAtDesk c own heard (Closed e list)
may_not_close c e own heard list shut = (
  λ no. absurd (cc (no)),
  λ may.
      absurd (both_ways (is_open e own && not (list_any (is_any_closing e) own)) shut
      (and_from (is_open e own) (not (list_any (is_any_closing e) own)) may.0 (not_from_false (list_any (is_any_closing e) own) may.2))),
)

-- what was found tells whether the list may close the epoch
pub accepted_by : (n e : ℕ) (heard : List Hearing) (list : List Item) (answer : Bool) → fits e heard n 0 list ≡ answer
    → (c : Numbers) → c.n ≡ n → (IsTrue answer → IsAccepted c e heard list) × (IsAccepted c e heard list → IsTrue answer)
accepted_by n e heard list true is c same = (
  λ yes. (accepted_is c e heard list).0 (ap (λ (k : ℕ). fits e heard k 0 list) same ∙ is),
  λ accepted. refl,
)
accepted_by n e heard list false is c same = (
  λ no. absurd (cc (no)),
  λ accepted.
      let yes : fits e heard c.n 0 list ≡ true = (accepted_is c e heard list).1 accepted in
      absurd (both_ways (fits e heard c.n 0 list) (ap (λ (k : ℕ). fits e heard k 0 list) same ∙ is) yes),
)
