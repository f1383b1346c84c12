-- Lists that change at one place or grow by one, and a total over a list of views.
use Rattle.std.proofs.Common.{◌≡◌, ◌≢◌, ℕ, zero, suc, ◌+◌, ◌<◌, ◌≤◌, ◌⊎◌, List, [], ◌∷◌, ◌++◌, length, set, get_or, sym, refl, ap, ◌∙◌}
use Rattle.std.proofs.Common.{subst, inl, inr, ⊎_elim, arith}
use mathlib.Core.Option.{some, some-injective, some-ne-none}
use lib.ListN.{get_elem?}
use Rattle.crossbeam_queue.proofs.Lists.{at_set, set_else}
use Rattle.mailbox.specs.declared.rule.View.{View}
use Rattle.mailbox.specs.Ordered.{total}

module _ {A : Type 0} where
  pub within : (l : List A) (j : ℕ) (a : A) → get_elem? l j ≡ some a → j < length l
  within [] j a e = absurd (some-ne-none a (sym e))
  within (x ∷ xs) zero a e = omega arith
  within (x ∷ xs) (suc j) a e = let h = within xs j a e in omega arith

  pub stands : (l : List A) (j : ℕ) → j < length l → (a : A) × (get_elem? l j ≡ some a)
  stands [] j h = absurd (omega arith)
  stands (x ∷ xs) zero h = (x, refl)
  stands (x ∷ xs) (suc j) h = stands xs j (omega arith)

  pub at_end : (l : List A) (a b : A) (j : ℕ) → get_elem? (l ++ a ∷ []) j ≡ some b → (get_elem? l j ≡ some b) ⊎ ((j ≡ length l) × (a ≡ b))
  at_end [] a b zero e = inr (refl, some-injective a b e)
  at_end [] a b (suc j) e = absurd (some-ne-none b (sym e))
  at_end (x ∷ xs) a b zero e = inl e
  at_end (x ∷ xs) a b (suc j) e = ⊎_elim (λ t. inl t) (λ t. inr (ap suc t.0, t.1)) (at_end xs a b j e)

  pub get_or-length : (l : List A) (d : A) → get_or l (length l) d ≡ d
  get_or-length [] d = refl
  get_or-length (x ∷ xs) d = get_or-length xs d

  pub get_or-snoc_here : (l : List A) (a d : A) → get_or (l ++ a ∷ []) (length l) d ≡ a
  get_or-snoc_here [] a d = refl
  get_or-snoc_here (x ∷ xs) a d = get_or-snoc_here xs a d

  pub get_or-snoc_else : (l : List A) (a d : A) (k : ℕ) → k ≢ length l → get_or (l ++ a ∷ []) k d ≡ get_or l k d
  get_or-snoc_else [] a d zero n = absurd (n refl)
  get_or-snoc_else [] a d (suc k) n = refl
  get_or-snoc_else (x ∷ xs) a d zero n = refl
  get_or-snoc_else (x ∷ xs) a d (suc k) n = get_or-snoc_else xs a d k (λ e. n (ap suc e))

-- a fact of each view, beside its number
abbrev pub EachView : (ℕ → View → Type 0) → List View → Type 0
EachView F views = (number : ℕ) (v : View) → get_elem? views number ≡ some v → F number v

pub EachView-set : (F : ℕ → View → Type 0) (views : List View) (number : ℕ) (w : View) → F number w
    → ((j : ℕ) (u : View) → j ≢ number → get_elem? views j ≡ some u → F j u) → EachView F (set views number w)
EachView-set F views number w mine others j u e = ⊎_elim (λ (x : (j ≡ number) × (w ≡ u)). subst (λ (y : ℕ × View). F y.0 y.1) (λ i. (sym x.0 i, x.1 i)) mine)
    (λ (x : (j ≢ number) × (get_elem? views j ≡ some u)). others j u x.0 x.1) (at_set views number j w u e)

pub EachView-snoc : (F : ℕ → View → Type 0) (views : List View) (w : View) → EachView F views → F (length views) w → EachView F (views ++ w ∷ [])
EachView-snoc F views w old new j u e = ⊎_elim (λ (x : get_elem? views j ≡ some u). old j u x)
    (λ (x : (j ≡ length views) × (w ≡ u)). subst (λ (y : ℕ × View). F y.0 y.1) (λ i. (sym x.0 i, x.1 i)) new) (at_end views w u j e)

module _ (f : View → ℕ) where
  pub total-set : (views : List View) (number : ℕ) (v w : View) → get_elem? views number ≡ some v → total f (set views number w) + f v ≡ total f views + f w
  total-set [] number v w e = absurd (some-ne-none v (sym e))
  total-set (x ∷ xs) zero v w e = let s : f x ≡ f v = ap f (some-injective x v e) in omega arith
  total-set (x ∷ xs) (suc number) v w e = let s = total-set xs number v w e in omega arith

  pub total-snoc : (views : List View) (v : View) → total f (views ++ v ∷ []) ≡ total f views + f v
  total-snoc [] v = omega arith
  total-snoc (x ∷ xs) v = let s = total-snoc xs v in omega arith

  part-le-total : (views : List View) (number : ℕ) (v : View) → get_elem? views number ≡ some v → f v ≤ total f views
  part-le-total [] number v e = absurd (some-ne-none v (sym e))
  part-le-total (x ∷ xs) zero v e = let s : f x ≡ f v = ap f (some-injective x v e) in omega arith
  part-le-total (x ∷ xs) (suc number) v e = let s = part-le-total xs number v e in omega arith

  -- where one view has all, the others have nothing
  pub others_none : (views : List View) (number : ℕ) (v none : View) → get_elem? views number ≡ some v → f none ≡ 0 → total f views ≡ f v
      → (j : ℕ) (u : View) → j ≢ number → get_elem? views j ≡ some u → f u ≡ 0
  others_none views number v none at nothing all j u apart e =
      let s = total-set views number v none at in
      let l = part-le-total (set views number none) j u (set_else views number j none apart ∙ e) in
      omega arith
