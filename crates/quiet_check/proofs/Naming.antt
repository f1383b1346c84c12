-- The actors of all correct nodes, and the ends that name them.
use Rattle.std.proofs.Common.{◌≡◌, ℕ, zero, suc, ◌+◌, ◌<◌, ◌≤◌, Bool, true, false, List, [], ◌∷◌, ◌++◌, map, length, take, get_or, Contains, if◌then◌else◌, refl, sym, ap, ◌∙◌, append-nil, append_assoc, arith}
use Rattle.std.specs.List.{flat_map, range_with_len, AllByRecursion}
use Rattle.std.proofs.lemmas.Grind.{flat_map-append}
use Rattle.std.proofs.lemmas.List.{take_more, get_or-map, map-append}
use Rattle.hb_base.specs.Numbers.{Numbers}
use Rattle.hb_base.specs.NodeSet.{is_in}
use Rattle.hb_rules.specs.declared.report.End.{End}
use Rattle.hb_rules.specs.Report.{actors}
use Rattle.hb_rules.proofs.Lists.{AllByRecursion-append, AllByRecursion-map, AllByRecursion-contains}

range_next : (a k : ℕ) → range_with_len a (suc k) ≡ range_with_len a k ++ (a + k) ∷ []
range_next a zero = let same : a ≡ a + 0 = omega arith in ap (λ (b : ℕ). b ∷ []) same
range_next a (suc k) =
    let same : (a + 1) + k ≡ a + suc k = omega arith in
    ap (λ (rest : List ℕ). a ∷ rest) (range_next (a + 1) k ∙ ap (λ (b : ℕ). range_with_len (a + 1) k ++ b ∷ []) same)

range_more : (k : ℕ) → range_with_len 0 (k + 1) ≡ range_with_len 0 k ++ k ∷ []
range_more k =
    let same : k + 1 ≡ suc k = omega arith in
    let last : 0 + k ≡ k = omega arith in
    ap (range_with_len 0) same ∙ range_next 0 k ∙ ap (λ (b : ℕ). range_with_len 0 k ++ b ∷ []) last

-- one actor more
pub named_more : (i k : ℕ) (before items : List (ℕ × ℕ)) → items ≡ before ++ map (λ x. (i, x)) (range_with_len 0 k)
    → items ++ (i, k) ∷ [] ≡ before ++ map (λ x. (i, x)) (range_with_len 0 (k + 1))
named_more i k before items same =
    let name : ℕ → ℕ × ℕ = λ x. (i, x) in
    ap (λ (items : List (ℕ × ℕ)). items ++ (i, k) ∷ []) same
    ∙ append_assoc before (map name (range_with_len 0 k)) ((i, k) ∷ [])
    ∙ ap (λ (names : List (ℕ × ℕ)). before ++ names) (sym (map-append name (range_with_len 0 k) (k ∷ [])) ∙ ap (map name) (sym (range_more k)))

-- the actors of a node, unless it lies
abbrev pub actors_at : Numbers → ℕ → List (ℕ × ℕ)
actors_at c i = if is_in c.liars i then [] else map (λ x. (i, x)) (range_with_len 0 (c.n + 1))

-- one node more
node_more : (c : Numbers) (k : ℕ) → flat_map (actors_at c) (range_with_len 0 (k + 1)) ≡ flat_map (actors_at c) (range_with_len 0 k) ++ actors_at c k
node_more c k =
    ap (flat_map (actors_at c)) (range_more k) ∙ flat_map-append (actors_at c) (range_with_len 0 k) (k ∷ [])
    ∙ ap (λ (names : List (ℕ × ℕ)). flat_map (actors_at c) (range_with_len 0 k) ++ names) (append-nil (actors_at c k))

pub liar_more : (c : Numbers) (k : ℕ) (items : List (ℕ × ℕ)) → items ≡ flat_map (actors_at c) (range_with_len 0 k) → is_in c.liars k ≡ true
    → items ≡ flat_map (actors_at c) (range_with_len 0 (k + 1))
liar_more c k items same lies =
    let none : actors_at c k ≡ [] = rw lies refl in
    same
    ∙ sym (node_more c k
    ∙ ap (λ (names : List (ℕ × ℕ)). flat_map (actors_at c) (range_with_len 0 k) ++ names) none ∙ append-nil (flat_map (actors_at c) (range_with_len 0 k)))

pub correct_more : (c : Numbers) (k : ℕ) (old new : List (ℕ × ℕ)) → old ≡ flat_map (actors_at c) (range_with_len 0 k) → is_in c.liars k ≡ false
    → new ≡ old ++ map (λ x. (k, x)) (range_with_len 0 (c.n + 1)) → new ≡ flat_map (actors_at c) (range_with_len 0 (k + 1))
correct_more c k old new same correct is =
    let all : actors_at c k ≡ map (λ x. (k, x)) (range_with_len 0 (c.n + 1)) = rw correct refl in
    is
    ∙ ap (λ (names : List (ℕ × ℕ)). names ++ map (λ x. (k, x)) (range_with_len 0 (c.n + 1))) same
    ∙ ap (λ (names : List (ℕ × ℕ)). flat_map (actors_at c) (range_with_len 0 k) ++ names) (sym all)
    ∙ sym (node_more c k)

-- ---- ends and names

pub ends_more : (ends : List End) (names : List (ℕ × ℕ)) (p : ℕ) (d : End) (e : ℕ × ℕ) → p < length ends → p < length names
    → map (λ (end : End). (end.node, end.actor)) (take p ends) ≡ take p names
    → ((get_or ends p d).node, (get_or ends p d).actor) ≡ get_or names p e
    → map (λ (end : End). (end.node, end.actor)) (take (p + 1) ends) ≡ take (p + 1) names
ends_more ends names p d e inside below before here =
    let name : End → ℕ × ℕ = λ end. (end.node, end.actor) in
    ap (map name) (take_more ends p d inside)
    ∙ map-append name (take p ends) (get_or ends p d ∷ [])
    ∙ ap (λ (front : List (ℕ × ℕ)). front ++ name (get_or ends p d) ∷ []) before
    ∙ ap (λ (last : ℕ × ℕ). take p names ++ last ∷ []) here
    ∙ sym (take_more names p e below)

pub end_at : (ends : List End) (names : List (ℕ × ℕ)) (p : ℕ) (d : End) (e : ℕ × ℕ) → p < length ends
    → map (λ (end : End). (end.node, end.actor)) ends ≡ names → ((get_or ends p d).node, (get_or ends p d).actor) ≡ get_or names p e
end_at ends names p d e inside same =
    sym (get_or-map (λ (end : End). (end.node, end.actor)) ends p d e inside) ∙ ap (λ (names : List (ℕ × ℕ)). get_or names p e) same

-- ---- actors are of the run

range_all : (P : ℕ → Type 0) (a k : ℕ) → ((x : ℕ) → x < a + k → P x) → AllByRecursion P (range_with_len a k)
range_all P a zero all = tt
range_all P a (suc k) all = (all a (omega arith), range_all P (a + 1) k (λ x below. all x (omega arith)))

abbrev pub IsOfRun : ℕ → ℕ × ℕ → Type 0
IsOfRun n name = (name.0 < n) × (name.1 ≤ n)

node_all : (c : Numbers) (i : ℕ) → i < c.n → AllByRecursion (IsOfRun c.n) (actors_at c i)
node_all c i below = by (is_in c.liars i)
  where
    by : (b : Bool) → AllByRecursion (IsOfRun c.n) (if b then [] else map (λ x. (i, x)) (range_with_len 0 (c.n + 1)))
    by true = tt
    by false =
        AllByRecursion-map (IsOfRun c.n) (λ x. (i, x)) (range_with_len 0 (c.n + 1))
        (range_all (λ x. IsOfRun c.n (i, x)) 0 (c.n + 1) (λ x less. (below, omega arith)))

nodes_all : (c : Numbers) (a k : ℕ) → a + k ≤ c.n → AllByRecursion (IsOfRun c.n) (flat_map (actors_at c) (range_with_len a k))
nodes_all c a zero few = tt
nodes_all c a (suc k) few =
    AllByRecursion-append (IsOfRun c.n) (actors_at c a) (flat_map (actors_at c) (range_with_len (a + 1) k)) (node_all c a (omega arith))
    (nodes_all c (a + 1) k (omega arith))

pub actor_of_run : (c : Numbers) (name : ℕ × ℕ) → Contains (actors c) name → IsOfRun c.n name
actor_of_run c name stands = AllByRecursion-contains (IsOfRun c.n) (actors c) name (nodes_all c 0 c.n (omega arith)) stands
