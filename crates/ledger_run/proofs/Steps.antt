-- The places of a run, added one after another.
use Rattle.std.proofs.Common.{◌≡◌, ℕ, zero, suc, ◌+◌, true, false, List, [], ◌∷◌, ◌++◌, map, refl, sym, ap, ◌∙◌, subst, arith, append_assoc, append-nil}
use Rattle.std.specs.List.{flat_map, range_with_len}
use Rattle.std.proofs.lemmas.List.FromFn.{map-range_with_len_more}
use Rattle.hb_base.specs.Numbers.{Numbers}
use Rattle.hb_base.specs.NodeSet.{is_in}
use Rattle.net_script.specs.declared.script.Script.{Script}
use Rattle.step_driver.specs.Places.{Spot, Name, name_of}
use Rattle.ledger_run.specs.Team.{correct_name, lying_name, names_at, names_below, IsReady, AreReady}
use Rattle.ledger_run.proofs.Ready.{ready_more}

flat_map_more_from : {A : Type 0} (f : ℕ → List A) (a k : ℕ) → flat_map f (range_with_len a (suc k)) ≡ flat_map f (range_with_len a k) ++ f (a + k)
flat_map_more_from f a zero = let here : a ≡ a + 0 = omega arith in append-nil (f a) ∙ ap f here
flat_map_more_from f a (suc k) =
    let here : (a + 1) + k ≡ a + suc k = omega arith in
    ap (λ ys. f a ++ ys) (flat_map_more_from f (a + 1) k ∙ ap (λ (n : ℕ). flat_map f (range_with_len (a + 1) k) ++ f n) here)
    ∙ sym (append_assoc (f a) (flat_map f (range_with_len (a + 1) k)) (f (a + suc k)))

-- the names of one node more
pub below_more : (c : Numbers) (k : ℕ) → names_below c (k + 1) ≡ names_below c k ++ names_at c k
below_more c k =
    let one : k + 1 ≡ suc k = omega arith in
    let none : 0 + k ≡ k = omega arith in
    ap (λ (n : ℕ). names_below c n) one ∙ flat_map_more_from (names_at c) 0 k ∙ ap (λ (n : ℕ). names_below c k ++ names_at c n) none

-- one actor more of a correct node
pub actor_more : (s : Script) (i x : ℕ) (all : List Spot) (spot : Spot) → AreReady s (names_below s.config i ++ map (correct_name i) (range_with_len 0 x)) all
    → IsReady s spot → name_of spot ≡ correct_name i x → AreReady s (names_below s.config i ++ map (correct_name i) (range_with_len 0 (x + 1))) (all ++ spot ∷ [])
actor_more s i x all spot ready here is =
    let none : 0 + x ≡ x = omega arith in
    subst (λ (names : List Name). AreReady s names (all ++ spot ∷ []))
    (append_assoc (names_below s.config i) (map (correct_name i) (range_with_len 0 x)) (correct_name i x ∷ [])
    ∙ ap (λ (names : List Name). names_below s.config i ++ names) (sym (map-range_with_len_more (correct_name i) 0 x x none)))
    (ready_more s (names_below s.config i ++ map (correct_name i) (range_with_len 0 x)) all (correct_name i x) spot ready here is)

-- all actors of a correct node
pub correct_done : (s : Script) (i : ℕ) (all : List Spot) → is_in s.config.liars i ≡ false
    → AreReady s (names_below s.config i ++ map (correct_name i) (range_with_len 0 (s.config.n + 1))) all → AreReady s (names_below s.config (i + 1)) all
correct_done s i all honest ready =
    let at : names_at s.config i ≡ map (correct_name i) (range_with_len 0 (s.config.n + 1)) = rw honest refl in
    subst (λ (names : List Name). AreReady s names all)
    (ap (λ (names : List Name). names_below s.config i ++ names) (sym at) ∙ sym (below_more s.config i)) ready

-- a node that lies
pub lying_done : (s : Script) (i : ℕ) (all : List Spot) (spot : Spot) → is_in s.config.liars i ≡ true → AreReady s (names_below s.config i) all
    → IsReady s spot → name_of spot ≡ lying_name i → AreReady s (names_below s.config (i + 1)) (all ++ spot ∷ [])
lying_done s i all spot lies ready here is =
    let at : names_at s.config i ≡ lying_name i ∷ [] = rw lies refl in
    subst (λ (names : List Name). AreReady s names (all ++ spot ∷ []))
    (ap (λ (names : List Name). names_below s.config i ++ names) (sym at) ∙ sym (below_more s.config i))
    (ready_more s (names_below s.config i) all (lying_name i) spot ready here is)
