-- Sets of nodes and the numbers that stand for them.
use Rattle.std.proofs.Common.{◌≡◌, ℕ, zero, suc, ◌+◌, ◌*◌, ◌/◌, ◌%◌, ◌^◌, ◌<◌, ◌≤◌, ◌==◌, ◌||◌, Bool, true, false, if◌then◌else◌, eqb, List, [], ◌∷◌, length, get_or, refl, sym, ap, ◌∙◌, arith, inl, inr, add-one}
use Rattle.std.proofs.lemmas.Bool.{cases_lt}
use Rattle.std.proofs.lemmas.Bool.Decides.{nat_tests}
use Rattle.std.proofs.lemmas.List.{same_lists}
use Rattle.std.proofs.Math.Nat.{two-pow-succ, mul-add, add-mul, mul-one}
use Rattle.hb_base.specs.Limits.{most_nodes}
use Rattle.hb_base.specs.NodeSet.{is_in}
use Rattle.trace_text.specs.Text.{nodes_number}
use Rattle.trace_text.proofs.Nodes.{nodes_few}

-- ---- one number stands for one set

one_top : (x y power : ℕ) (a b : Bool) → x < power → y < power → x + (if a then power else 0) ≡ y + (if b then power else 0) → (a ≡ b) × (x ≡ y)
one_top x y power true true low high is = (refl, omega (arith, is))
one_top x y power true false low high is = absurd (omega (arith, low, high, is))
one_top x y power false true low high is = absurd (omega (arith, low, high, is))
one_top x y power false false low high is = (refl, omega (arith, is))

same_marks : (n : ℕ) (p q : ℕ → Bool) → nodes_number n p ≡ nodes_number n q → (i : ℕ) → i < n → p i ≡ q i
same_marks zero p q is i below = absurd (omega (arith, below))
same_marks (suc n) p q is i below =
    let top = one_top (nodes_number n p) (nodes_number n q) (2 ^ n) (p n) (q n) (nodes_few n p) (nodes_few n q) is in
    elim (cases_lt i n) [
      | inl less ↦ same_marks n p q top.1 i less
      | inr last ↦
          let e : i ≡ n = omega (arith, below, last) in
          ap p e ∙ top.0 ∙ sym (ap q e)
    ]

in_place : (set : List Bool) (i : ℕ) (d : Bool) → i < length set → get_or set i d ≡ is_in set i
in_place [] i d below = absurd (omega (arith, below))
in_place (x ∷ set) zero d below = refl
in_place (x ∷ set) (suc i) d below = in_place set i d (omega (arith, below))

-- sets of 16 marks for which one number stands are one
pub same_set : (xs ys : List Bool) → length xs ≡ most_nodes → length ys ≡ most_nodes → nodes_number most_nodes (is_in xs) ≡ nodes_number most_nodes (is_in ys) → xs ≡ ys
same_set xs ys of_xs of_ys is =
    same_lists xs ys (of_xs ∙ sym of_ys) (λ k d below.
    in_place xs k d below ∙ same_marks most_nodes (is_in xs) (is_in ys) is k (omega (arith, below, of_xs)) ∙ sym (in_place ys k d (omega (arith, below, of_xs, of_ys))))

-- ---- one node more

below_same : (n : ℕ) (p q : ℕ → Bool) → ((i : ℕ) → i < n → p i ≡ q i) → nodes_number n p ≡ nodes_number n q
below_same zero p q same = refl
below_same (suc n) p q same =
    let rest : nodes_number n p ≡ nodes_number n q = below_same n p q (λ i below. same i (omega (arith, below))) in
    rw (rest, same n (omega arith)) refl

other_node : (i node : ℕ) → i < node → eqb i node ≡ false
other_node i node below = grind (arith, nat_tests)

own_node : (node : ℕ) → eqb node node ≡ true
own_node node = grind (arith, nat_tests)

pub with_node : (node : ℕ) (before after : List Bool) → ((other : ℕ) → is_in after other ≡ ((other == node) || is_in before other))
    → nodes_number (node + 1) (is_in after) ≡ nodes_number node (is_in before) + 2 ^ node
with_node node before after is =
    let rest : nodes_number node (is_in after) ≡ nodes_number node (is_in before) =
    below_same node (is_in after) (is_in before) (λ i below. is i ∙ ap (λ (b : Bool). b || is_in before i) (other_node i node below)) in
    let here : is_in after node ≡ true = is node ∙ ap (λ (b : Bool). b || is_in before node) (own_node node) in
    ap (λ (n : ℕ). nodes_number n (is_in after)) (add-one node) ∙ rw (rest, here) refl

pub without_node : (node : ℕ) (set : List Bool) → is_in set node ≡ false → nodes_number (node + 1) (is_in set) ≡ nodes_number node (is_in set)
without_node node set is = ap (λ (n : ℕ). nodes_number n (is_in set)) (add-one node) ∙ rw is (omega arith)

-- nothing above a node is set, also with this one more
pub none_above : (node : ℕ) (before after : List Bool) → ((other : ℕ) → is_in after other ≡ ((other == node) || is_in before other))
    → ((other : ℕ) → node ≤ other → is_in before other ≡ false) → (other : ℕ) → node + 1 ≤ other → is_in after other ≡ false
none_above node before after is none other above =
    let apart : eqb other node ≡ false = above_node other node above in
    is other ∙ ap (λ (b : Bool). b || is_in before other) apart ∙ none other (omega (arith, above))
  where
    above_node : (i j : ℕ) → j + 1 ≤ i → eqb i j ≡ false
    above_node i j more = grind (arith, nat_tests)

-- ---- halves of what is left

power_twice : (node half : ℕ) → 2 ^ (node + 1) * half ≡ 2 ^ node * (half + half)
power_twice node half =
    ap (λ (n : ℕ). 2 ^ n * half) (add-one node) ∙ ap (λ (p : ℕ). p * half) (two-pow-succ node) ∙ add-mul (2 ^ node) (2 ^ node) half ∙ sym (mul-add (2 ^ node) half half)

-- an odd number is left
pub odd_left : (node rest : ℕ) → rest % 2 ≡ 1 → 2 ^ node * rest ≡ 2 ^ node + 2 ^ (node + 1) * (rest / 2)
odd_left node rest odd =
    let whole : rest ≡ 1 + (rest / 2 + rest / 2) = omega (arith, odd) in
    ap (λ (r : ℕ). 2 ^ node * r) whole ∙ mul-add (2 ^ node) 1 (rest / 2 + rest / 2)
    ∙ ap (λ (p : ℕ). p + 2 ^ node * (rest / 2 + rest / 2)) (mul-one (2 ^ node)) ∙ ap (λ (m : ℕ). 2 ^ node + m) (sym (power_twice node (rest / 2)))

-- an even number is left
pub even_left : (node rest : ℕ) → rest % 2 ≡ 0 → 2 ^ node * rest ≡ 2 ^ (node + 1) * (rest / 2)
even_left node rest even =
    let whole : rest ≡ rest / 2 + rest / 2 = omega (arith, even) in
    ap (λ (r : ℕ). 2 ^ node * r) whole ∙ sym (power_twice node (rest / 2))
