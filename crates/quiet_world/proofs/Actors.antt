-- The ends of a quiet run: one for each actor of each correct node.
use Rattle.std.proofs.Common.{◌≡◌, ℕ, ◌+◌, ◌<◌, ◌≤◌, ◌&&◌, ◌||◌, ◌==◌, not, nat_lt, Bool, true, false, inl, inr, List, [], ◌∷◌, length, map, Contains, if◌then◌else◌, refl, sym, ap, ◌∙◌, subst, arith}
use Rattle.std.specs.List.{list_all, flat_map, range_with_len}
use Rattle.std.proofs.lemmas.Bool.{and_from, eq-eqb, lt-ltb, not_from_false, or_right}
use Rattle.std.proofs.lemmas.List.Elements.{Contains-append_left, Contains-append_right, Contains-append_cases, Contains-get_or}
use Rattle.std.proofs.lemmas.List.FromFn.{length-range_with_len, get_or-range_with_len}
use Rattle.hb_base.specs.NodeSet.{is_in}
use Rattle.hb_base.specs.Numbers.{Numbers}
use Rattle.hb_rules.specs.declared.report.End.{End}
use Rattle.hb_rules.specs.declared.report.Fate.TheVariants.{Running}
use Rattle.hb_rules.specs.declared.report.Report.{Report}
use Rattle.hb_rules.specs.Ledger.{IsCorrect}
use Rattle.hb_rules.specs.Report.{is_running_fate, works, none_ended, is_running, actors, IsQuiet}
use Rattle.hb_rules.proofs.Lists.{list_any-from, Contains-cases, Contains-first, Contains-later}
use Rattle.acs_world.proofs.Exact.{all_pass}

-- ---- elements of lists

pub in_range : (n i : ℕ) → i < n → Contains (range_with_len 0 n) i
in_range n i below =
    let within : i < length (range_with_len 0 n) = omega (arith, below, length-range_with_len 0 n) in
    let same : 0 + i ≡ i = omega arith in
    subst (λ (k : ℕ). Contains (range_with_len 0 n) k) (get_or-range_with_len 0 n i 0 below ∙ same) (Contains-get_or (range_with_len 0 n) i 0 within)

of_range : (n i : ℕ) → Contains (range_with_len 0 n) i → i < n
of_range n i stands =
    let below : stands.0 < n = omega (arith, stands.1, length-range_with_len 0 n) in
    omega (arith, below, get_or-range_with_len 0 n stands.0 i below, stands.2)

-- an element that a function takes to this one
record IsMapped {A B : Type 0} (f : A → B) (xs : List A) (y : B) : Type 0 where
  element : A
  stands : Contains xs element
  is : f element ≡ y

mapped_from : {A B : Type 0} (f : A → B) (xs : List A) (y : B) → Contains (map f xs) y → IsMapped f xs y
mapped_from f [] y stands = absurd (omega (arith, stands.1))
mapped_from f (x ∷ xs) y stands =
    Contains-cases (f x) (map f xs) y stands (IsMapped f (x ∷ xs) y) (λ is. record { element = x; stands = Contains-first x xs; is = is })
    (λ later.
    let rest = mapped_from f xs y later in
    record { element = rest.element; stands = Contains-later x xs rest.element rest.stands; is = rest.is })

mapped : {A B : Type 0} (f : A → B) (xs : List A) (x : A) → Contains xs x → Contains (map f xs) (f x)
mapped f [] x stands = absurd (omega (arith, stands.1))
mapped f (z ∷ zs) x stands =
    Contains-cases z zs x stands (Contains (map f (z ∷ zs)) (f x))
    (λ is. subst (λ w. Contains (f z ∷ map f zs) w) (ap f is) (Contains-first (f z) (map f zs)))
    (λ later. Contains-later (f z) (map f zs) (f x) (mapped f zs x later))

-- an element of which a function gives a list with this one
record IsJoined {A B : Type 0} (f : A → List B) (xs : List A) (y : B) : Type 0 where
  element : A
  stands : Contains xs element
  has : Contains (f element) y

joined_from : {A B : Type 0} (f : A → List B) (xs : List A) (y : B) → Contains (flat_map f xs) y → IsJoined f xs y
joined_from f [] y stands = absurd (omega (arith, stands.1))
joined_from f (x ∷ xs) y stands = elim (Contains-append_cases (f x) (flat_map f xs) y stands) [
  | inl here ↦ record { element = x; stands = Contains-first x xs; has = here }
  | inr later ↦
      let rest = joined_from f xs y later in
      record { element = rest.element; stands = Contains-later x xs rest.element rest.stands; has = rest.has }
]

joined : {A B : Type 0} (f : A → List B) (xs : List A) (x : A) (y : B) → Contains xs x → Contains (f x) y → Contains (flat_map f xs) y
joined f [] x y stands has = absurd (omega (arith, stands.1))
joined f (z ∷ zs) x y stands has =
    Contains-cases z zs x stands (Contains (flat_map f (z ∷ zs)) y)
    (λ is. Contains-append_left (f z) (flat_map f zs) y (subst (λ w. Contains (f w) y) (sym is) has))
    (λ later. Contains-append_right (f z) (flat_map f zs) y (joined f zs x y later has))

-- ---- the actors of correct nodes

abbrev actors_at : Numbers → ℕ → List (ℕ × ℕ)
actors_at c i = if is_in c.liars i then [] else map (λ (x : ℕ). (i, x)) (range_with_len 0 (c.n + 1))

actor_stands : (c : Numbers) (i x : ℕ) → IsCorrect c i → x ≤ c.n → Contains (actors c) (i, x)
actor_stands c i x correct few =
    joined {B = ℕ × ℕ} (actors_at c) (range_with_len 0 c.n) i (i, x) (in_range c.n i correct.known)
    (subst (λ (b : Bool). Contains {X = ℕ × ℕ} (if b then [] else map (λ (y : ℕ). (i, y)) (range_with_len 0 (c.n + 1))) (i, x)) (sym correct.honest)
    (mapped (λ (y : ℕ). (i, y)) (range_with_len 0 (c.n + 1)) x (in_range (c.n + 1) x (omega (arith, few)))))

actor_correct : (c : Numbers) (i x : ℕ) → Contains (actors c) (i, x) → IsCorrect c i
actor_correct c i x stands =
    let at = joined_from {B = ℕ × ℕ} (actors_at c) (range_with_len 0 c.n) (i, x) stands in
    by at.element (of_range c.n at.element at.stands) (is_in c.liars at.element) refl at.has
  where
    by : (a : ℕ) → a < c.n → (b : Bool) → is_in c.liars a ≡ b
        → Contains {X = ℕ × ℕ} (if b then [] else map (λ (y : ℕ). (a, y)) (range_with_len 0 (c.n + 1))) (i, x) → IsCorrect c i
    by a known true lies has = absurd (omega (arith, has.1))
    by a known false honest has =
        let from = mapped_from {B = ℕ × ℕ} (λ (y : ℕ). (a, y)) (range_with_len 0 (c.n + 1)) (i, x) has in
        let same : a ≡ i = ap (λ (p : ℕ × ℕ). p.0) from.is in
        subst (IsCorrect c) same (record { known = known; honest = honest })

-- ---- ends

abbrev name_of : End → ℕ × ℕ
name_of end = (end.node, end.actor)

-- each end is of a correct node
pub end_correct : (report : Report) (end : End) → IsQuiet report → Contains report.ends.items end → IsCorrect report.config end.node
end_correct report end quiet stands =
    actor_correct report.config end.node end.actor
    (subst (λ (names : List (ℕ × ℕ)). Contains names (end.node, end.actor)) quiet.ends (mapped name_of report.ends.items end stands))

-- where all ends have the fate Running each correct node runs
pub correct_runs : (report : Report) (i : ℕ) → IsQuiet report → ((end : End) → Contains report.ends.items end → end.fate ≡ Running)
    → IsCorrect report.config i → is_running report i ≡ true
correct_runs report i quiet fates correct =
    and_from (nat_lt i report.config.n) (not (is_in report.config.liars i) && (list_all (works report.ends.items i) (range_with_len 0 (report.config.n + 1)) && none_ended report.ends.items i))
    (lt-ltb i report.config.n correct.known)
    (and_from (not (is_in report.config.liars i)) (list_all (works report.ends.items i) (range_with_len 0 (report.config.n + 1)) && none_ended report.ends.items i)
    (not_from_false (is_in report.config.liars i) correct.honest)
    (and_from (list_all (works report.ends.items i) (range_with_len 0 (report.config.n + 1))) (none_ended report.ends.items i)
    (all_pass (works report.ends.items i) (range_with_len 0 (report.config.n + 1)) (λ x stands. at_work x (of_range (report.config.n + 1) x stands)))
    (all_pass (λ end. not (end.node == i) || is_running_fate end.fate) report.ends.items
    (λ end stands. or_right (not (end.node == i)) (is_running_fate end.fate) (ap is_running_fate (fates end stands))))))
  where
    at_work : (x : ℕ) → x < report.config.n + 1 → works report.ends.items i x ≡ true
    at_work x few =
        let named = mapped_from name_of report.ends.items (i, x)
        (subst (λ (names : List (ℕ × ℕ)). Contains names (i, x)) (sym quiet.ends) (actor_stands report.config i x correct (omega (arith, few)))) in
        let end : End = named.element in
        let node : end.node ≡ i = ap (λ (p : ℕ × ℕ). p.0) named.is in
        let actor : end.actor ≡ x = ap (λ (p : ℕ × ℕ). p.1) named.is in
        list_any-from (λ (e : End). ((e.node == i) && (e.actor == x)) && is_running_fate e.fate) report.ends.items end named.stands
        (and_from ((end.node == i) && (end.actor == x)) (is_running_fate end.fate)
        (and_from (end.node == i) (end.actor == x) (eq-eqb end.node i node) (eq-eqb end.actor x actor)) (ap is_running_fate (fates end named.stands)))
