-- Whose places there are: those of a team, and no two of one actor.
use Rattle.std.proofs.Common.{◌≡◌, ◌≢◌, ℕ, zero, suc, ◌+◌, ◌*◌, ◌<◌, ◌≤◌, Bool, true, false, List, [], ◌∷◌, ◌++◌, length, map, flat_map, All, AllPairs, Contains, Option, if◌then◌else◌, refl, ap, ◌∙◌, arith}
use Rattle.std.specs.Prelude.{filter_map}
use Rattle.std.specs.List.{range_with_len}
use Rattle.std.proofs.lemmas.List.{length-append}
use Rattle.std.proofs.lemmas.List.Elements.{All-nil, All-cons, All-map, All-weaker, filter_map-append}
use Rattle.std.proofs.lemmas.List.Kept.{AllPairs-cons}
use Rattle.std.proofs.lemmas.List.FromFn.{length-map-range_with_len}
use Rattle.hb_base.specs.Numbers.{Numbers}
use Rattle.hb_base.specs.NodeSet.{is_in}
use Rattle.hb_rules.specs.Report.{actors}
use Rattle.net_script.proofs.ListsOfLists.{pairs_flat_map}
use Rattle.step_driver.specs.Places.{Name}
use Rattle.step_driver.specs.Running.{IsTeam, HasPlace, actor_of}
use Rattle.hb_rules.proofs.Lists.{contains_at}
use Rattle.step_driver.proofs.Endings.{Contains-flat_map, node_stands}
use Rattle.ledger_run.specs.Team.{correct_name, lying_name, names_at, names_below}

-- ---- the actors of the correct nodes

filter_map-flat_map : {A B C : Type 0} (h : B → Option C) (g : A → List B) (xs : List A)
    → filter_map h (flat_map g xs) ≡ flat_map (λ x. filter_map h (g x)) xs
filter_map-flat_map h g [] = refl
filter_map-flat_map h g (x ∷ xs) =
    filter_map-append h (g x) (flat_map g xs) ∙ ap (λ ys. filter_map h (g x) ++ ys) (filter_map-flat_map h g xs)

each_correct : (i : ℕ) (xs : List ℕ) → filter_map actor_of (map (correct_name i) xs) ≡ map (λ x. (i, x)) xs
each_correct i [] = refl
each_correct i (x ∷ xs) = ap (λ pairs. (i, x) ∷ pairs) (each_correct i xs)

at_node : (c : Numbers) (i : ℕ) → filter_map actor_of (names_at c i) ≡ (if is_in c.liars i then [] else map (λ x. (i, x)) (range_with_len 0 (c.n + 1)))
at_node c i = by (is_in c.liars i)
  where
    by : (lies : Bool) → filter_map actor_of (if lies then lying_name i ∷ [] else map (correct_name i) (range_with_len 0 (c.n + 1)))
        ≡ (if lies then [] else map (λ x. (i, x)) (range_with_len 0 (c.n + 1)))
    by true = refl
    by false = each_correct i (range_with_len 0 (c.n + 1))

flat_map-same : {A B : Type 0} (f g : A → List B) (xs : List A) → ((x : A) → f x ≡ g x) → flat_map f xs ≡ flat_map g xs
flat_map-same f g [] same = refl
flat_map-same f g (x ∷ xs) same = ap (λ ys. ys ++ flat_map f xs) (same x) ∙ ap (λ ys. g x ++ ys) (flat_map-same f g xs same)

are_actors : (c : Numbers) → filter_map actor_of (names_below c c.n) ≡ actors c
are_actors c =
    filter_map-flat_map actor_of (names_at c) (range_with_len 0 c.n)
    ∙ flat_map-same (λ i. filter_map actor_of (names_at c i)) (λ i. if is_in c.liars i then [] else map (λ x. (i, x)) (range_with_len 0 (c.n + 1)))
    (range_with_len 0 c.n) (at_node c)

-- ---- the nodes that lie

lies_there : (c : Numbers) (a : ℕ) → is_in c.liars a ≡ true → Contains (names_at c a) (lying_name a)
lies_there c a lies = rw lies (0, omega arith, refl)

has_place : (c : Numbers) (a : ℕ) → a < c.n → is_in c.liars a ≡ true → HasPlace (names_below c c.n) a
has_place c a below lies =
    let at = contains_at (names_below c c.n) (lying_name a)
    (Contains-flat_map (names_at c) (range_with_len 0 c.n) a (lying_name a) (node_stands c.n a below) (lies_there c a lies)) in
    record { place = at.0; name = lying_name a; stands = at.1; lies = refl; node = refl }

pub is_team : (c : Numbers) → ((a : ℕ) → is_in c.liars a ≡ true → a < c.n) → IsTeam c (names_below c c.n)
is_team c known = record { correct = are_actors c; liars = λ a lies. has_place c a (known a lies) lies }

-- ---- how many there are

few_at : (c : Numbers) → c.n ≤ 16 → (i : ℕ) → length (names_at c i) ≤ 17
few_at c few i = by (is_in c.liars i)
  where
    by : (lies : Bool) → length (if lies then lying_name i ∷ [] else map (correct_name i) (range_with_len 0 (c.n + 1))) ≤ 17
    by true = omega arith
    by false = omega (arith, length-map-range_with_len (correct_name i) 0 (c.n + 1), few)

few_from : (c : Numbers) → c.n ≤ 16 → (a k : ℕ) → length (flat_map (names_at c) (range_with_len a k)) ≤ 17 * k
few_from c few a zero = omega arith
few_from c few a (suc k) =
    omega (arith, length-append (names_at c a) (flat_map (names_at c) (range_with_len (a + 1) k)), few_at c few a, few_from c few (a + 1) k)

pub few_names : (c : Numbers) → c.n ≤ 16 → length (names_below c c.n) ≤ 272
few_names c few = omega (arith, few_from c few 0 c.n, few)

-- ---- no two are of one actor

-- names of different nodes, or of two actors of a correct node
abbrev pub AreApart : Numbers → Name → Name → Type 0
AreApart c a b = b.node ≡ a.node → (is_in c.liars a.node ≡ false) × (b.actor ≢ a.actor)

-- the names are of node i
of_node : (c : Numbers) (i : ℕ) → All (λ name. name.node ≡ i) (names_at c i)
of_node c i = by (is_in c.liars i)
  where
    by : (lies : Bool) → All (λ name. name.node ≡ i) (if lies then lying_name i ∷ [] else map (correct_name i) (range_with_len 0 (c.n + 1)))
    by true = All-cons (λ name. name.node ≡ i) (lying_name i) [] refl (All-nil (λ name. name.node ≡ i))
    by false = All-map (λ name. name.node ≡ i) (correct_name i) (range_with_len 0 (c.n + 1)) (λ j d within. refl)

actors_apart : (c : Numbers) (i a k : ℕ) → is_in c.liars i ≡ false → AllPairs (AreApart c) (map (correct_name i) (range_with_len a k))
actors_apart c i a zero honest = λ j m d before within. absurd (omega (arith, before, within))
actors_apart c i a (suc k) honest =
    AllPairs-cons (AreApart c) (correct_name i a) (map (correct_name i) (range_with_len (a + 1) k)) (above (a + 1) k (omega arith)) (actors_apart c i (a + 1) k honest)
  where
    above : (b m : ℕ) → a < b → All (AreApart c (correct_name i a)) (map (correct_name i) (range_with_len b m))
    above b zero low = All-nil (AreApart c (correct_name i a))
    above b (suc m) low =
        All-cons (AreApart c (correct_name i a)) (correct_name i b) (map (correct_name i) (range_with_len (b + 1) m))
        (λ same. (honest, λ is. omega (arith, low, is))) (above (b + 1) m (omega (arith, low)))

apart_at : (c : Numbers) (i : ℕ) → AllPairs (AreApart c) (names_at c i)
apart_at c i = by (is_in c.liars i) refl
  where
    by : (lies : Bool) → is_in c.liars i ≡ lies
        → AllPairs (AreApart c) (if lies then lying_name i ∷ [] else map (correct_name i) (range_with_len 0 (c.n + 1)))
    by true is = λ j m d before within. absurd (omega (arith, before, within))
    by false honest = actors_apart c i 0 (c.n + 1) honest

pub names_apart : (c : Numbers) → AllPairs (AreApart c) (names_below c c.n)
names_apart c =
    pairs_flat_map (names_at c) (AreApart c) 0 c.n (λ i low high. apart_at c i)
    (λ a b before. All-weaker (λ name. name.node ≡ a) (λ x. All (AreApart c x) (names_at c b))
    (λ x here. All-weaker (λ name. name.node ≡ b) (AreApart c x)
    (λ y there same. absurd (omega (arith, here, there, same, before))) (names_at c b) (of_node c b))
    (names_at c a) (of_node c a))
