-- Lists in the order of a number of their elements.
use Rattle.std.proofs.Common.{◌≡◌, ℕ, ◌+◌, ◌<◌, ◌≤◌, List, ◌∷◌, length, take, drop, get_or, sym, ap, ◌∙◌, subst, arith}
use Rattle.std.specs.Prelude.{All}
use Rattle.std.specs.List.{insert}
use Rattle.std.specs.List.Sorted.{IsNonDecreasingBy}
use Rattle.std.proofs.lemmas.List.{get_or_default}
use Rattle.std.proofs.lemmas.List.Edits.{length-insert}
use Rattle.std.proofs.lemmas.List.Elements.{All-append, All-cons, All-take, All-drop}
use Rattle.std.proofs.lemmas.List.Sorted.{IsNonDecreasingBy-insert}

-- where the number of an element is not above another, those before it are not either
pub none_above : {X : Type 0} (n : X → ℕ) (xs : List X) (p : ℕ) (x : X) (most : ℕ) → IsNonDecreasingBy n xs → p < length xs → x ≡ get_or xs p x → n x ≤ most
    → (k : ℕ) (d : X) → k ≤ p → n (get_or xs k d) ≤ most
none_above {X} n xs p x most order within is low k d before =
    let here : n (get_or xs p x) ≤ most = subst (λ (y : X). n y ≤ most) is low in
    let rises : n (get_or xs k x) ≤ n (get_or xs p x) = order k p x before within in
    let same : n (get_or xs k d) ≡ n (get_or xs k x) = ap n (get_or_default xs k d x (omega (arith, before, within))) in
    omega (arith, here, rises, same)

-- an element that was put behind those that are not after it, and before those that are not before it
pub order_inserted : {X : Type 0} (n : X → ℕ) (xs seen new : List X) (x : X) (place number : ℕ) → seen ≡ xs → number ≡ n x → IsNonDecreasingBy n xs → place ≤ length seen
    → ((k : ℕ) (d : X) → k < place → n (get_or seen k d) ≤ number) → ((k : ℕ) (d : X) → place ≤ k → k < length seen → number ≤ n (get_or seen k d))
    → new ≡ insert xs place x → IsNonDecreasingBy n new
order_inserted {X} n xs seen new x place number same is order within before after made =
    let early : (k : ℕ) (d : X) → k < place → n (get_or xs k d) ≤ n x =
    subst (λ (zs : List X). (k : ℕ) (d : X) → k < place → n (get_or zs k d) ≤ n x) same
    (subst (λ (m : ℕ). (k : ℕ) (d : X) → k < place → n (get_or seen k d) ≤ m) is before) in
    let late : (k : ℕ) (d : X) → place ≤ k → k < length xs → n x ≤ n (get_or xs k d) =
    subst (λ (zs : List X). (k : ℕ) (d : X) → place ≤ k → k < length zs → n x ≤ n (get_or zs k d)) same
    (subst (λ (m : ℕ). (k : ℕ) (d : X) → place ≤ k → k < length seen → m ≤ n (get_or seen k d)) is after) in
    subst (λ (zs : List X). IsNonDecreasingBy n zs) (sym made)
    (IsNonDecreasingBy-insert n xs place x order (subst (λ (zs : List X). place ≤ length zs) same within) early late)

-- an element was put into a list
abbrev pub HasOneMore : {X : Type 0} → List X → X → List X → Type 0
HasOneMore xs x new = (k : ℕ) × (k ≤ length xs) × (new ≡ insert xs k x)

-- what holds of the list and of the element holds of the list with the element
pub All-inserted : {X : Type 0} (P : X → Type 0) (xs : List X) (x : X) (new : List X) → All P xs → P x → HasOneMore xs x new → All P new
All-inserted {X} P xs x new all here more =
    subst (λ (zs : List X). All P zs) (sym more.2)
    (All-append P (take more.0 xs) (x ∷ drop more.0 xs) (All-take P more.0 xs all) (All-cons P x (drop more.0 xs) here (All-drop P more.0 xs all)))

pub length_inserted : {X : Type 0} (xs : List X) (x : X) (new : List X) → HasOneMore xs x new → length new ≡ length xs + 1
length_inserted xs x new more = ap length more.2 ∙ length-insert xs more.0 x more.1
