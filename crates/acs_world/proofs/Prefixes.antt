-- Ledgers that are alike as far as both go: one begins with the other.
use Rattle.std.proofs.Common.{◌≡◌, ℕ, zero, suc, ◌+◌, ◌<◌, ◌≤◌, ◌⊎◌, ◌||◌, not, Bool, true, false, inl, inr, List, [], ◌∷◌, ◌++◌, length, drop, slice_get, bytes_eq, Option, None, Some, refl, sym, ap, ◌∙◌, subst, arith}
use Rattle.std.specs.List.{list_all, flat_map, range_with_len}
use Rattle.std.specs.Cmp.Lexicographic.{pointwise, bytes_decides}
use Rattle.std.proofs.lemmas.Bool.{cases_lt, and_parts, and_from, both_ways, false_from_ne_true}
use Rattle.hb_base.specs.Numbers.{Numbers}
use Rattle.hb_wire.specs.declared.items.Item.{Item}
use Rattle.hb_wire.specs.declared.post.Post.{Post}
use Rattle.hb_wire.specs.Glances.{IsClosedRest}
use Rattle.hb_wire.specs.Lists.{same_item, listed}
use Rattle.hb_wire.specs.Votes.{item_bytes}
use Rattle.hb_wire.proofs.Equality.{lists}
use Rattle.hb_wire.proofs.GlanceLemmas.{closed_list}
use Rattle.hb_rules.specs.Lanes.{is_correct}
use Rattle.hb_rules.specs.Ledger.{ledger, IsPrefix, IsCorrect, AreComparable}
use Rattle.hb_rules.proofs.LaneVotes.{correct_is, correct_from}
use Rattle.acs_world.specs.Lists.{IsListAt}
use Rattle.acs_world.specs.Prefixes.{are_same, same_at, are_alike, may_compare, all_alike}

-- ---- what holds at each number below another

pub all_below : (test : ℕ → Bool) (s k m : ℕ) → list_all test (range_with_len s k) ≡ true → m < k → test (s + m) ≡ true
all_below test s zero m all below = absurd (omega (arith, below))
all_below test s (suc k) zero all below =
    let e : s ≡ s + 0 = omega arith in
    ap test (sym e) ∙ (and_parts (test s) (list_all test (range_with_len (s + 1) k)) all).0
all_below test s (suc k) (suc m) all below =
    let e : s + 1 + m ≡ s + suc m = omega arith in
    ap test (sym e)
    ∙ all_below test (s + 1) k m (and_parts (test s) (list_all test (range_with_len (s + 1) k)) all).1 (omega (arith, below))

below_all : (test : ℕ → Bool) (s k : ℕ) → ((m : ℕ) → m < k → test (s + m) ≡ true) → list_all test (range_with_len s k) ≡ true
below_all test s zero each = refl
below_all test s (suc k) each =
    let here : s + 0 ≡ s = omega arith in
    and_from (test s) (list_all test (range_with_len (s + 1) k)) (ap test (sym here) ∙ each 0 (omega arith))
    (below_all test (s + 1) k (λ m below.
    let e : s + 1 + m ≡ s + suc m = omega arith in
    ap test e ∙ each (suc m) (omega (arith, below))))

-- ---- two lists of lists

abbrev Alike : List (List Item) → List (List Item) → Type 0
Alike xs ys = (k : ℕ) → same_at xs ys k ≡ true

-- past the end of one they are alike at any place
past_alike : (xs ys : List (List Item)) (k : ℕ) → length xs ≤ k → same_at xs ys k ≡ true
past_alike [] ys k past = refl
past_alike (x ∷ xs) [] zero past = absurd (omega (arith, past))
past_alike (x ∷ xs) (y ∷ ys) zero past = absurd (omega (arith, past))
past_alike (x ∷ xs) [] (suc k) past = at (slice_get xs k)
  where
    at : (o : Option (List Item)) → are_same o None ≡ true
    at None = refl
    at (Some list) = refl
past_alike (x ∷ xs) (y ∷ ys) (suc k) past = past_alike xs ys k (omega (arith, past))

begin_alike : (xs ys : List (List Item)) → Alike xs ys → IsPrefix xs ys ⊎ IsPrefix ys xs
begin_alike [] ys alike = inl (record { rest = ys; is = refl })
begin_alike (x ∷ xs) [] alike = inr (record { rest = x ∷ xs; is = refl })
begin_alike (x ∷ xs) (y ∷ ys) alike =
    let same : x ≡ y = (lists x y).0 (alike 0) in
    elim (begin_alike xs ys (λ k. alike (suc k))) [
      | inl begins ↦ inl (record { rest = begins.rest; is = ap (λ (z : List Item). z ∷ ys) (sym same) ∙ ap (λ (zs : List (List Item)). x ∷ zs) begins.is })
      | inr begins ↦ inr (record { rest = begins.rest; is = ap (λ (z : List Item). z ∷ xs) same ∙ ap (λ (zs : List (List Item)). y ∷ zs) begins.is })
    ]

alike_front : (xs rest : List (List Item)) → Alike xs (xs ++ rest)
alike_front [] rest k = refl
alike_front (x ∷ xs) rest zero = (lists x x).1 refl
alike_front (x ∷ xs) rest (suc k) = alike_front xs rest k

alike_back : (xs rest : List (List Item)) → Alike (xs ++ rest) xs
alike_back [] rest k = at (slice_get rest k)
  where
    at : (o : Option (List Item)) → are_same o None ≡ true
    at None = refl
    at (Some list) = refl
alike_back (x ∷ xs) rest zero = (lists x x).1 refl
alike_back (x ∷ xs) rest (suc k) = alike_back xs rest k

pub alike_begins : (xs ys : List (List Item)) → are_alike xs ys ≡ true → IsPrefix xs ys ⊎ IsPrefix ys xs
alike_begins xs ys all = begin_alike xs ys each
  where
    each : Alike xs ys
    each k = elim (cases_lt k (length xs)) [
      | inl inside ↦
          let e : 0 + k ≡ k = omega arith in
          ap (same_at xs ys) (sym e) ∙ all_below (same_at xs ys) 0 (length xs) k all inside
      | inr outside ↦ past_alike xs ys k (omega (arith, outside))
    ]

pub begins_alike : (xs ys : List (List Item)) → IsPrefix xs ys ⊎ IsPrefix ys xs → are_alike xs ys ≡ true
begins_alike xs ys begins = below_all (same_at xs ys) 0 (length xs) (λ m below. each begins (0 + m))
  where
    each : IsPrefix xs ys ⊎ IsPrefix ys xs → Alike xs ys
    each (inl one) = subst (λ (zs : List (List Item)). Alike xs zs) (sym one.is) (alike_front xs one.rest)
    each (inr one) = subst (λ (zs : List (List Item)). Alike zs ys) (sym one.is) (alike_back ys one.rest)

-- ---- all correct nodes

may_from : (c : Numbers) (posts : List Post) (i k : ℕ) → may_compare c posts i k ≡ true → IsCorrect c i → IsCorrect c k
    → are_alike (ledger c posts i) (ledger c posts k) ≡ true
may_from c posts i k may correct also =
    let first : is_correct c i ≡ true = correct_from c i correct in
    let second : is_correct c k ≡ true = correct_from c k also in
    by (is_correct c i) (is_correct c k) first second may
  where
    by : (b d : Bool) → b ≡ true → d ≡ true → (not b || (not d || are_alike (ledger c posts i) (ledger c posts k))) ≡ true
        → are_alike (ledger c posts i) (ledger c posts k) ≡ true
    by true true h g may = may
    by true false h g may = absurd (cc (g))
    by false d h g may = absurd (cc (h))

may_by : (c : Numbers) (posts : List Post) (i k : ℕ)
    → (IsCorrect c i → IsCorrect c k → are_alike (ledger c posts i) (ledger c posts k) ≡ true) → may_compare c posts i k ≡ true
may_by c posts i k alike = by (is_correct c i) (is_correct c k) refl refl
  where
    by : (b d : Bool) → is_correct c i ≡ b → is_correct c k ≡ d → (not b || (not d || are_alike (ledger c posts i) (ledger c posts k))) ≡ true
    by true true h g = alike (correct_is c i h) (correct_is c k g)
    by true false h g = refl
    by false d h g = refl

pub comparable_from : (c : Numbers) (posts : List Post) → all_alike c posts ≡ true → AreComparable c posts
comparable_from c posts all i k correct also =
    let row : list_all (may_compare c posts (0 + i)) (range_with_len 0 c.n) ≡ true =
    all_below (λ (i : ℕ). list_all (may_compare c posts i) (range_with_len 0 c.n)) 0 c.n i all correct.known in
    let one : may_compare c posts (0 + i) (0 + k) ≡ true = all_below (may_compare c posts (0 + i)) 0 c.n k row also.known in
    let first : 0 + i ≡ i = omega arith in
    let second : 0 + k ≡ k = omega arith in
    let may : may_compare c posts i k ≡ true =
    ap (λ (m : ℕ). may_compare c posts m k) (sym first) ∙ ap (λ (m : ℕ). may_compare c posts (0 + i) m) (sym second) ∙ one in
    alike_begins (ledger c posts i) (ledger c posts k) (may_from c posts i k may correct also)

pub comparable_all : (c : Numbers) (posts : List Post) → AreComparable c posts → all_alike c posts ≡ true
comparable_all c posts comparable =
    below_all (λ (i : ℕ). list_all (may_compare c posts i) (range_with_len 0 c.n)) 0 c.n (λ i below.
    below_all (may_compare c posts (0 + i)) 0 c.n (λ k under.
    may_by c posts (0 + i) (0 + k) (λ correct also.
    begins_alike (ledger c posts (0 + i)) (ledger c posts (0 + k)) (comparable (0 + i) (0 + k) correct also))))

-- ---- what stands behind kind and epoch

rest_is : (rest : List ℕ) (list : List Item) → IsClosedRest rest list → rest ≡ (length list ∷ flat_map item_bytes list) ++ []
rest_is rest list shown = ap (λ (bytes : List ℕ). drop 2 bytes) shown.spells.spelled

same_rest : (rest other : List ℕ) (list others : List Item) → IsClosedRest rest list → IsClosedRest other others
    → bytes_eq rest other ≡ pointwise same_item list others
same_rest rest other list others one two = by (bytes_eq rest other) refl
  where
    by : (b : Bool) → bytes_eq rest other ≡ b → b ≡ pointwise same_item list others
    by true same =
        let bytes : rest ≡ other = (bytes_decides rest other).0 same in
        let one_list : list ≡ others =
        sym (closed_list rest list one).same ∙ ap (λ (bs : List ℕ). listed bs) bytes ∙ (closed_list other others two).same in
        sym ((lists list others).1 one_list)
    by false apart =
        sym (false_from_ne_true (pointwise same_item list others) (λ same.
        let one_list : list ≡ others = (lists list others).0 same in
        let bytes : rest ≡ other =
        rest_is rest list one ∙ ap (λ (l : List Item). (length l ∷ flat_map item_bytes l) ++ []) one_list ∙ sym (rest_is other others two) in
        both_ways (bytes_eq rest other) apart ((bytes_decides rest other).1 bytes)))

pub same_shown : (xs ys : List (List Item)) (place : ℕ) (rest other : List ℕ) → IsListAt xs place rest → IsListAt ys place other
    → bytes_eq rest other ≡ same_at xs ys place
same_shown xs ys place rest other one two =
    same_rest rest other one.list two.list one.shown two.shown
    ∙ ap (λ (o : Option (List Item)). are_same o (Some two.list)) (sym one.there)
    ∙ ap (λ (o : Option (List Item)). are_same (slice_get xs place) o) (sym two.there)
