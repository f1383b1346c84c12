-- Boxes that are taken out of a cast, and the voice of the liar at a node.
use Rattle.std.proofs.Common.{◌≡◌, ◌==◌, ℕ, zero, suc, ◌+◌, ◌<◌, ◌≤◌, true, false, inl, inr, List, [], ◌∷◌, ◌++◌, length, map, set, take, remove, Option, Some, None, refl, sym, ap, ◌∙◌, subst, arith, slice_get, get_or}
use Rattle.std.specs.Prelude.{bytes_eq}
use Rattle.std.specs.Option.{option_map}
use Rattle.std.proofs.lemmas.List.{map-set, map-append, take_more, take_all}
use Rattle.std.proofs.lemmas.Option.{slice_get-map, slice_get-get_or, get_or_from_slice_get}
use Rattle.std.proofs.lemmas.Bool.{cases_lt, eqb-true, false_from_ne_true}
use Rattle.net_script.specs.declared.script.LiarAt.{LiarAt}
use Rattle.ledger_run.specs.Voices.{NoneHas, IsFirst, HasFirst, IsTaken, AreTaken, AreHired, hears_at, voice_at, without_voice, NoneAt, IsAt}

-- ---- boxes

pub NoneHas-start : {L : Type 0} (name : L → List ℕ) (wanted : List ℕ) (cast : List L) → NoneHas name wanted cast 0
NoneHas-start name wanted cast = record { each = λ p other below at. absurd (omega (arith, below)) }

pub NoneHas-more : {L : Type 0} (name : L → List ℕ) (wanted : List ℕ) (cast : List L) (n : ℕ) (box : L) → slice_get cast n ≡ Some box → bytes_eq (name box) wanted ≡ false
    → NoneHas name wanted cast n → NoneHas name wanted cast (n + 1)
NoneHas-more {L} name wanted cast n box stands differs none = record {
  each = λ p other below at. elim (cases_lt p n) [
    | inl before ↦ none.each p other before at
    | inr after ↦
        let same : p ≡ n = omega (arith, below, after) in
        let there : slice_get cast n ≡ Some other = ap (λ (q : ℕ). slice_get cast q) (sym same) ∙ at in
        let is : box ≡ other = cc in
        subst (λ (o : L). bytes_eq (name o) wanted ≡ false) is differs
  ];
}

-- the first box with a name was taken out
pub IsTaken-first : {L : Type 0} (name : L → List ℕ) (wanted : List ℕ) (lent cast rest : List L) (place : ℕ) (box : L) (voice : Option L) → lent ≡ cast
    → HasFirst name wanted lent place → box ≡ get_or cast place box → rest ≡ remove cast place → voice ≡ Some box → IsTaken name wanted cast voice rest
IsTaken-first {L} name wanted lent cast rest place box voice same (first, found) is removed speaks =
    let here : IsFirst name wanted cast place first = subst (λ (boxes : List L). IsFirst name wanted boxes place first) same found in
    let alike : first ≡ box = sym (get_or_from_slice_get cast place first box here.stands) ∙ sym is in
    subst (λ (v : Option L). IsTaken name wanted cast v rest) (sym speaks)
    (place, (subst (λ (b : L). IsFirst name wanted cast place b) alike here, removed))

pub IsTaken-none : {L : Type 0} (name : L → List ℕ) (wanted : List ℕ) (lent cast : List L) (voice : Option L) → lent ≡ cast → NoneHas name wanted lent (length lent)
    → voice ≡ None → IsTaken name wanted cast voice cast
IsTaken-none {L} name wanted lent cast voice same none silent =
    subst (λ (v : Option L). IsTaken name wanted cast v cast) (sym silent)
    (subst (λ (boxes : List L). NoneHas name wanted boxes (length boxes)) same none, refl)

-- one name more
pub AreTaken-more : {L : Type 0} (name : L → List ℕ) (wanted : List (List ℕ)) (one : List ℕ) (cast mid rest : List L) (voices : List (Option L)) (voice : Option L)
    → AreTaken name wanted cast voices mid → IsTaken name one mid voice rest → AreTaken name (wanted ++ one ∷ []) cast (voices ++ voice ∷ []) rest
AreTaken-more {L} name [] one cast mid rest [] voice left taken = (rest, (subst (λ (c : List L). IsTaken name one c voice rest) left taken, refl))
AreTaken-more name [] one cast mid rest (v ∷ voices) voice are taken = absurd are
AreTaken-more name (w ∷ wanted) one cast mid rest [] voice are taken = absurd are
AreTaken-more name (w ∷ wanted) one cast mid rest (v ∷ voices) voice (left, (first, are)) taken =
    (left, (first, AreTaken-more name wanted one left mid rest voices voice are taken))

pub AreTaken-start : {V L : Type 0} (box : V → Option L) (name : L → List ℕ) (cast : List L) (voices : List V) → voices ≡ [] → AreTaken name [] cast (map box voices) cast
AreTaken-start {V} {L} box name cast voices none = subst (λ (vs : List V). AreTaken name [] cast (map box vs) cast) (sym none) refl

-- one liar more has its voice
pub AreTaken-step : {V L : Type 0} (box : V → Option L) (name : L → List ℕ) (liars : List LiarAt) (i : ℕ) (liar : LiarAt) (cast mid rest : List L) (voices after : List V) (voice : V)
    → i < length liars → liar ≡ get_or liars i liar → after ≡ voices ++ voice ∷ [] → AreTaken name (map (λ (at : LiarAt). at.name) (take i liars)) cast (map box voices) mid
    → IsTaken name liar.name mid (box voice) rest → AreTaken name (map (λ (at : LiarAt). at.name) (take (i + 1) liars)) cast (map box after) rest
AreTaken-step {V} {L} box name liars i liar cast mid rest voices after voice below is pushed are taken =
    let more : take (i + 1) liars ≡ take i liars ++ liar ∷ [] =
    take_more liars i liar below ∙ ap (λ (o : LiarAt). take i liars ++ o ∷ []) (sym is) in
    let names : map (λ (at : LiarAt). at.name) (take (i + 1) liars) ≡ map (λ (at : LiarAt). at.name) (take i liars) ++ liar.name ∷ [] =
    ap (λ (some : List LiarAt). map (λ (at : LiarAt). at.name) some) more ∙ map-append (λ (at : LiarAt). at.name) (take i liars) (liar ∷ []) in
    let spoken : map box after ≡ map box voices ++ box voice ∷ [] = ap (λ (vs : List V). map box vs) pushed ∙ map-append box voices (voice ∷ []) in
    subst (λ (ns : List (List ℕ)). AreTaken name ns cast (map box after) rest) (sym names)
    (subst (λ (vs : List (Option L)). AreTaken name (map (λ (at : LiarAt). at.name) (take i liars) ++ liar.name ∷ []) cast vs rest) (sym spoken)
    (AreTaken-more name (map (λ (at : LiarAt). at.name) (take i liars)) liar.name cast mid rest (map box voices) (box voice) are taken))

pub AreHired-all : {V L : Type 0} (box : V → Option L) (name : L → List ℕ) (liars : List LiarAt) (i : ℕ) (cast rest : List L) (voices : List V) → length liars ≤ i
    → AreTaken name (map (λ (at : LiarAt). at.name) (take i liars)) cast (map box voices) rest → AreHired name (map (λ (at : LiarAt). at.name) liars) cast (map box voices)
AreHired-all {V} {L} box name liars i cast rest voices past are = record {
  left = rest;
  taken = subst (λ (some : List LiarAt). AreTaken name (map (λ (at : LiarAt). at.name) some) cast (map box voices) rest) (take_all i liars past) are;
}

-- ---- the liar at a node

pub differs : (a b : ℕ) → (a ≡ b → ⊥) → (a == b) ≡ false
differs a b apart = false_from_ne_true (a == b) (λ same. apart (eqb-true a b same))

pub NoneAt-start : (i : ℕ) (liars : List LiarAt) → NoneAt i liars 0
NoneAt-start i liars = record { each = λ p other below at. absurd (omega (arith, below)) }

pub NoneAt-more : (i : ℕ) (liars : List LiarAt) (n : ℕ) (liar : LiarAt) → slice_get liars n ≡ Some liar → (liar.node == i) ≡ false → NoneAt i liars n → NoneAt i liars (n + 1)
NoneAt-more i liars n liar stands differs none = record {
  each = λ p other below at. elim (cases_lt p n) [
    | inl before ↦ none.each p other before at
    | inr after ↦
        let same : p ≡ n = omega (arith, below, after) in
        let there : slice_get liars n ≡ Some other = ap (λ (q : ℕ). slice_get liars q) (sym same) ∙ at in
        let is : liar ≡ other = cc in
        subst (λ (o : LiarAt). (o.node == i) ≡ false) is differs
  ];
}

tail_at : (i : ℕ) (l : LiarAt) (liars : List LiarAt) (place : ℕ) (liar : LiarAt) → IsAt i (l ∷ liars) (suc place) liar → IsAt i liars place liar
tail_at i l liars place liar is = record {
  stands = is.stands;
  here = is.here;
  none_before = record { each = λ p other below at. is.none_before.each (suc p) other (omega (arith, below)) at };
}

head_none : (i : ℕ) (l : LiarAt) (liars : List LiarAt) (n : ℕ) → NoneAt i (l ∷ liars) (suc n) → (l.node == i) ≡ false
head_none i l liars n none = none.each 0 l (omega arith) refl

head_here : (i : ℕ) (l : LiarAt) (liars : List LiarAt) (liar : LiarAt) → IsAt i (l ∷ liars) 0 liar → l ≡ liar
head_here i l liars liar is = let at = is.stands in cc

head_named : (i : ℕ) (l : LiarAt) (liars : List LiarAt) (liar : LiarAt) → IsAt i (l ∷ liars) 0 liar → (l.node == i) ≡ true
head_named i l liars liar is = subst (λ (o : LiarAt). (o.node == i) ≡ true) (sym (head_here i l liars liar is)) is.here

pub hears_at-is : (i : ℕ) (liars : List LiarAt) (place : ℕ) (liar : LiarAt) → IsAt i liars place liar → hears_at i liars ≡ liar.hears
hears_at-is i [] place liar is = absurd (cc (is.stands))
hears_at-is i (l ∷ liars) zero liar is =
    let here : (l.node == i) ≡ true = head_named i l liars liar is in
    rw here (ap (λ (o : LiarAt). o.hears) (head_here i l liars liar is))
hears_at-is i (l ∷ liars) (suc place) liar is =
    let other : (l.node == i) ≡ false = head_none i l liars place is.none_before in
    rw other (hears_at-is i liars place liar (tail_at i l liars place liar is))

pub voice_at-is : {L : Type 0} (i : ℕ) (liars : List LiarAt) (voices : List (Option L)) (place : ℕ) (liar : LiarAt) → IsAt i liars place liar
    → voice_at i liars voices ≡ get_or voices place None
voice_at-is i [] voices place liar is = absurd (cc (is.stands))
voice_at-is i (l ∷ liars) [] place liar is = refl
voice_at-is i (l ∷ liars) (voice ∷ voices) zero liar is =
    let here : (l.node == i) ≡ true = head_named i l liars liar is in
    rw here refl
voice_at-is i (l ∷ liars) (voice ∷ voices) (suc place) liar is =
    let other : (l.node == i) ≡ false = head_none i l liars place is.none_before in
    rw other (voice_at-is i liars voices place liar (tail_at i l liars place liar is))

pub without_voice-is : {L : Type 0} (i : ℕ) (liars : List LiarAt) (voices : List (Option L)) (place : ℕ) (liar : LiarAt) → IsAt i liars place liar
    → without_voice i liars voices ≡ set voices place None
without_voice-is i [] voices place liar is = absurd (cc (is.stands))
without_voice-is i (l ∷ liars) [] place liar is = refl
without_voice-is i (l ∷ liars) (voice ∷ voices) zero liar is =
    let here : (l.node == i) ≡ true = head_named i l liars liar is in
    rw here refl
without_voice-is {L} i (l ∷ liars) (voice ∷ voices) (suc place) liar is =
    let other : (l.node == i) ≡ false = head_none i l liars place is.none_before in
    rw other (ap (λ (vs : List (Option L)). voice ∷ vs) (without_voice-is i liars voices place liar (tail_at i l liars place liar is)))

tail_none : (i : ℕ) (l : LiarAt) (liars : List LiarAt) → NoneAt i (l ∷ liars) (length (l ∷ liars)) → NoneAt i liars (length liars)
tail_none i l liars none = record { each = λ p other below at. none.each (suc p) other (omega (arith, below)) at }

-- no liar is there
pub nobody_hears : (i : ℕ) (liars : List LiarAt) → NoneAt i liars (length liars) → hears_at i liars ≡ 0
nobody_hears i [] none = refl
nobody_hears i (l ∷ liars) none =
    let other : (l.node == i) ≡ false = none.each 0 l (omega arith) refl in
    rw other (nobody_hears i liars (tail_none i l liars none))

pub nobody_speaks : {L : Type 0} (i : ℕ) (liars : List LiarAt) (voices : List (Option L)) → NoneAt i liars (length liars) → voice_at i liars voices ≡ None
nobody_speaks i [] voices none = refl
nobody_speaks i (l ∷ liars) [] none = refl
nobody_speaks i (l ∷ liars) (voice ∷ voices) none =
    let other : (l.node == i) ≡ false = none.each 0 l (omega arith) refl in
    rw other (nobody_speaks i liars voices (tail_none i l liars none))

pub nobody_taken : {L : Type 0} (i : ℕ) (liars : List LiarAt) (voices : List (Option L)) → NoneAt i liars (length liars) → without_voice i liars voices ≡ voices
nobody_taken i [] voices none = refl
nobody_taken i (l ∷ liars) [] none = refl
nobody_taken {L} i (l ∷ liars) (voice ∷ voices) none =
    let other : (l.node == i) ≡ false = none.each 0 l (omega arith) refl in
    rw other (ap (λ (vs : List (Option L)). voice ∷ vs) (nobody_taken i liars voices (tail_none i l liars none)))

-- the voice at a place, which may be behind the others, was taken out
pub taken_past : {V L : Type 0} (box : V → Option L) (voices : List V) (place : ℕ) → length voices ≤ place
    → (None ≡ get_or (map box voices) place None) × (map box voices ≡ set (map box voices) place None)
taken_past box [] place past = (refl, refl)
taken_past box (voice ∷ voices) zero past = absurd (omega (arith, past))
taken_past box (voice ∷ voices) (suc place) past =
    let rest = taken_past box voices place (omega (arith, past)) in
    (rest.0, ap (λ vs. box voice ∷ vs) rest.1)

pub taken_there : {V L : Type 0} (box : V → Option L) (voices : List V) (place : ℕ) (old new : V) → place < length voices → old ≡ get_or voices place old → box new ≡ None
    → (box old ≡ get_or (map box voices) place None) × (map box (set voices place new) ≡ set (map box voices) place None)
taken_there {V} {L} box voices place old new within read taken =
    let stands : slice_get voices place ≡ Some old = slice_get-get_or voices place old within ∙ ap (λ (v : V). Some v) (sym read) in
    let spoken : slice_get (map box voices) place ≡ Some (box old) = slice_get-map box voices place ∙ ap (λ (o : Option V). option_map box o) stands in (
      sym (get_or_from_slice_get (map box voices) place (box old) None spoken),
      map-set box voices place new ∙ ap (λ (v : Option L). set (map box voices) place v) taken,
    )
