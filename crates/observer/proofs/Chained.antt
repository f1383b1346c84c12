-- Lists of epochs up to the first epoch without one, and ledgers.
use Rattle.std.proofs.Common.{◌≡◌, ℕ, zero, suc, ◌+◌, ◌<◌, ◌≤◌, true, inl, inr, is_some, List, [], ◌∷◌, ◌++◌, length, slice_get, Contains, Option, None, Some, refl, sym, ap, ◌∙◌, subst, arith}
use Rattle.std.specs.List.{flat_map, range_with_len}
use Rattle.hb_wire.specs.declared.items.Item.{Item}
use Rattle.hb_rules.proofs.Lists.{Contains-cases}
use Rattle.acs_world.proofs.Ledgers.{IsChain, none_behind}
use Rattle.observer.specs.Agreeing.{AreTwoOfOne}
use Rattle.observer.specs.Observed.{with_list, lists_from}

-- a list that may be missing
abbrev Lists : Type 0
Lists = ℕ → Option (List Item)

-- ---- two ledgers

one_more : (x : List Item) (xs ys : List (List Item)) → AreTwoOfOne xs ys → AreTwoOfOne (x ∷ xs) (x ∷ ys)
one_more x xs ys (inl one) = inl (record { rest = one.rest; is = ap (λ (zs : List (List Item)). x ∷ zs) one.is })
one_more x xs ys (inr one) = inr (record { rest = one.rest; is = ap (λ (zs : List (List Item)). x ∷ zs) one.is })

-- where they are alike as far as both go, one of two begins with the other
pub two_observed : (at bt : Lists) (s k : ℕ) → ((e : ℕ) (x y : List Item) → at e ≡ Some x → bt e ≡ Some y → x ≡ y)
    → AreTwoOfOne (lists_from at s k) (lists_from bt s k)
two_observed at bt s zero alike = inl (record { rest = []; is = refl })
two_observed at bt s (suc k) alike = by (at s) (bt s) refl refl (two_observed at bt (s + 1) k alike)
  where
    by : (o p : Option (List Item)) → at s ≡ o → bt s ≡ p → AreTwoOfOne (lists_from at (s + 1) k) (lists_from bt (s + 1) k)
        → AreTwoOfOne (with_list o (lists_from at (s + 1) k)) (with_list p (lists_from bt (s + 1) k))
    by None p none other later = inl (record { rest = with_list p (lists_from bt (s + 1) k); is = refl })
    by (Some x) None some none later = inr (record { rest = x ∷ lists_from at (s + 1) k; is = refl })
    by (Some x) (Some y) one other later =
        let same : x ≡ y = alike s x y one other in
        subst (λ (z : List Item). AreTwoOfOne (x ∷ lists_from at (s + 1) k) (z ∷ lists_from bt (s + 1) k)) same
        (one_more x (lists_from at (s + 1) k) (lists_from bt (s + 1) k) later)

-- the same of such lists and a chain, which may be of another length
pub observed_chain : (at : Lists) (A : ℕ → List (List Item)) (s k m : ℕ) → IsChain A
    → ((e : ℕ) (x y : List Item) → at e ≡ Some x → A e ≡ y ∷ [] → x ≡ y)
    → AreTwoOfOne (lists_from at s k) (flat_map A (range_with_len s m))
observed_chain at A s zero m chain alike = inl (record { rest = flat_map A (range_with_len s m); is = refl })
observed_chain at A s (suc k) zero chain alike = inr (record { rest = lists_from at s (suc k); is = refl })
observed_chain at A s (suc k) (suc m) chain alike = by (at s) refl (observed_chain at A (s + 1) k m chain alike)
  where
    by : (o : Option (List Item)) → at s ≡ o → AreTwoOfOne (lists_from at (s + 1) k) (flat_map A (range_with_len (s + 1) m))
        → AreTwoOfOne (with_list o (lists_from at (s + 1) k)) (A s ++ flat_map A (range_with_len (s + 1) m))
    by None none later = inl (record { rest = A s ++ flat_map A (range_with_len (s + 1) m); is = refl })
    by (Some x) some later = elim (chain.at s) [
      | inl none ↦
          inr (record {
            rest = x ∷ lists_from at (s + 1) k;
            is = ap (λ (zs : List (List Item)). zs ++ x ∷ lists_from at (s + 1) k) (sym (none_behind A s (suc m) chain none));
          })
      | inr one ↦
          let here : A s ≡ x ∷ [] = one.1 ∙ ap (λ (y : List Item). y ∷ []) (sym (alike s x one.0 some one.1)) in
          subst (λ (zs : List (List Item)). AreTwoOfOne (x ∷ lists_from at (s + 1) k) (zs ++ flat_map A (range_with_len (s + 1) m))) (sym here)
          (one_more x (lists_from at (s + 1) k) (flat_map A (range_with_len (s + 1) m)) later)
    ]

-- ---- what stands in one

-- a list of the ledger is that of an epoch
pub list_of_epoch : (at : Lists) (s k : ℕ) (list : List Item) → Contains (lists_from at s k) list
    → (e : ℕ) × (e < s + k) × (at e ≡ Some list)
list_of_epoch at s zero list stands = absurd (omega (arith, stands.1))
list_of_epoch at s (suc k) list stands = by (at s) refl stands (list_of_epoch at (s + 1) k list)
  where
    by : (o : Option (List Item)) → at s ≡ o → Contains (with_list o (lists_from at (s + 1) k)) list
        → (Contains (lists_from at (s + 1) k) list → (e : ℕ) × (e < s + 1 + k) × (at e ≡ Some list))
        → (e : ℕ) × (e < s + suc k) × (at e ≡ Some list)
    by None none stands later = absurd (omega (arith, stands.1))
    by (Some x) some stands later =
        Contains-cases x (lists_from at (s + 1) k) list stands ((e : ℕ) × (e < s + suc k) × (at e ≡ Some list))
        (λ is. (s, omega arith, some ∙ ap Some is))
        (λ behind.
        let found = later behind in
        (found.0, omega (arith, found.1), found.2))

-- where each epoch up to one has a list, the ledger is longer
pub long_enough : (at : Lists) (s k e : ℕ) → e < k → ((d : ℕ) → d ≤ e → is_some (at (s + d)) ≡ true) → e < length (lists_from at s k)
long_enough at s zero e inside some = absurd (omega (arith, inside))
long_enough at s (suc k) e inside some =
    by (at s) (ap (λ (d : ℕ). is_some (at d)) here ∙ some 0 (omega arith)) e inside some (long_enough at (s + 1) k)
  where
    here : s ≡ s + 0
    here = omega arith

    by : (o : Option (List Item)) → is_some o ≡ true → (e : ℕ) → e < suc k → ((d : ℕ) → d ≤ e → is_some (at (s + d)) ≡ true)
        → ((m : ℕ) → m < k → ((d : ℕ) → d ≤ m → is_some (at (s + 1 + d)) ≡ true) → m < length (lists_from at (s + 1) k))
        → e < length (with_list o (lists_from at (s + 1) k))
    by None none e inside some later = absurd (cc (none))
    by (Some x) is zero inside some later = omega arith
    by (Some x) is (suc e) inside some later =
        omega (
          arith,
          later e (omega (arith, inside)) (λ d below.
              let more : s + 1 + d ≡ s + suc d = omega arith in
              ap (λ (m : ℕ). is_some (at m)) more ∙ some (suc d) (omega (arith, below))),
        )

-- the list at a place is that of its epoch
pub list_there : (at : Lists) (s k e : ℕ) → e < length (lists_from at s k) → slice_get (lists_from at s k) e ≡ at (s + e)
list_there at s zero e inside = absurd (omega (arith, inside))
list_there at s (suc k) e inside = by (at s) refl e inside (list_there at (s + 1) k)
  where
    by : (o : Option (List Item)) → at s ≡ o → (e : ℕ) → e < length (with_list o (lists_from at (s + 1) k))
        → ((m : ℕ) → m < length (lists_from at (s + 1) k) → slice_get (lists_from at (s + 1) k) m ≡ at (s + 1 + m))
        → slice_get (with_list o (lists_from at (s + 1) k)) e ≡ at (s + e)
    by None none e inside later = absurd (omega (arith, inside))
    by (Some x) some zero inside later =
        let here : s ≡ s + 0 = omega arith in
        sym some ∙ ap at here
    by (Some x) some (suc e) inside later =
        let more : s + 1 + e ≡ s + suc e = omega arith in
        later e (omega (arith, inside)) ∙ ap at more

-- it ends before the first epoch without a list
pub ends_there : (at : Lists) (s k m : ℕ) → m < k → ((d : ℕ) → d < m → is_some (at (s + d)) ≡ true) → at (s + m) ≡ None
    → length (lists_from at s k) ≡ m
ends_there at s zero m inside some none = absurd (omega (arith, inside))
ends_there at s (suc k) zero inside some none =
    let here : s + 0 ≡ s = omega arith in
    let nothing : at s ≡ None = ap at (sym here) ∙ none in
    ap (λ (o : Option (List Item)). length (with_list o (lists_from at (s + 1) k))) nothing
ends_there at s (suc k) (suc m) inside some none =
    let here : s ≡ s + 0 = omega arith in
    let last : s + 1 + m ≡ s + suc m = omega arith in
    by (at s) (ap (λ (d : ℕ). is_some (at d)) here ∙ some 0 (omega arith))
    (ends_there at (s + 1) k m (omega (arith, inside)) (λ d below.
    let more : s + 1 + d ≡ s + suc d = omega arith in
    ap (λ (j : ℕ). is_some (at j)) more ∙ some (suc d) (omega (arith, below))) (ap at last ∙ none))
  where
    by : (o : Option (List Item)) → is_some o ≡ true → length (lists_from at (s + 1) k) ≡ m → length (with_list o (lists_from at (s + 1) k)) ≡ suc m
    by None nothing later = absurd (cc (nothing))
    by (Some x) is later = omega (arith, later)

pub no_longer : (at : Lists) (s k : ℕ) → length (lists_from at s k) ≤ k
no_longer at s zero = omega arith
no_longer at s (suc k) = by (at s) (no_longer at (s + 1) k)
  where
    by : (o : Option (List Item)) → length (lists_from at (s + 1) k) ≤ k → length (with_list o (lists_from at (s + 1) k)) ≤ suc k
    by None later = omega arith
    by (Some x) later = omega (arith, later)

-- it has a list of each epoch where each has one
pub whole_run : (at : Lists) (s k : ℕ) → ((d : ℕ) → d < k → is_some (at (s + d)) ≡ true) → length (lists_from at s k) ≡ k
whole_run at s zero some = refl
whole_run at s (suc k) some =
    omega (arith, no_longer at s (suc k), long_enough at s (suc k) k (omega arith) (λ d below. some d (omega (arith, below))))

-- the same lists make the same ledger
pub same_lists : (at bt : Lists) (s k : ℕ) → ((e : ℕ) → e < s + k → at e ≡ bt e) → lists_from at s k ≡ lists_from bt s k
same_lists at bt s zero same = refl
same_lists at bt s (suc k) same =
    let here : at s ≡ bt s = same s (omega arith) in
    let later : lists_from at (s + 1) k ≡ lists_from bt (s + 1) k = same_lists at bt (s + 1) k (λ e below. same e (omega (arith, below))) in
    rw (here, later) refl
