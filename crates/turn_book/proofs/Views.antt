-- The views of all seats, after one was written or one joined them.
use Rattle.std.proofs.Common.{◌≡◌, ℕ, zero, suc, ◌≢◌, ◌⊎◌, inl, inr, ⊎_elim, List, [], ◌∷◌, ◌++◌, length, set, refl, ap, sym, subst, ◌∙◌}
use mathlib.Core.Option.{some, some-injective, some-ne-none}
use mathlib.Core.Logic.{dite}
use native.Mathlib.Decide.{ℕ_discrete}
use lib.ListN.{get_elem?}
use Rattle.atomic_table.proofs.Lists.{at_set, set_else, at_longer}
use Rattle.turn_book.specs.declared.view.View.{View}
use Rattle.turn_book.specs.Kept.{At}

module _ {A : Type 0} where
  pub same_there : (l : List A) (i j : ℕ) (a b : A) → get_elem? l i ≡ some a → get_elem? l j ≡ some b → i ≡ j → a ≡ b
  same_there l i j a b e f same = some-injective a b (sym e ∙ (ap (λ (k : ℕ). get_elem? l k) same ∙ f))

  pub set_there : (l : List A) (i : ℕ) (a b : A) → get_elem? l i ≡ some a → get_elem? (set l i b) i ≡ some b
  set_there [] i a b e = absurd (some-ne-none a (sym e))
  set_there (x ∷ xs) zero a b e = refl
  set_there (x ∷ xs) (suc i) a b e = set_there xs i a b e

  pub at_push : (l : List A) (a b : A) (j : ℕ) → get_elem? (l ++ a ∷ []) j ≡ some b → (get_elem? l j ≡ some b) ⊎ ((j ≡ length l) × (a ≡ b))
  at_push [] a b zero e = inr (refl, some-injective a b e)
  at_push [] a b (suc j) e = absurd (some-ne-none b (sym e))
  at_push (x ∷ xs) a b zero e = inl e
  at_push (x ∷ xs) a b (suc j) e = ⊎_elim (λ h. inl h) (λ t. inr (ap suc t.0, t.1)) (at_push xs a b j e)

  -- what holds of the written view and of each other one holds of each
  pub each_set : (P : ℕ → A → Type 0) (l : List A) (i : ℕ) (w : A) → P i w → ((j : ℕ) (u : A) → j ≢ i → get_elem? l j ≡ some u → P j u)
      → (j : ℕ) (u : A) → get_elem? (set l i w) j ≡ some u → P j u
  each_set P l i w here there j u e = ⊎_elim
      (λ (t : (j ≡ i) × (w ≡ u)). subst (λ (q : ℕ × A). P q.0 q.1) (λ k. (sym t.0 k, t.1 k)) here)
      (λ (t : (j ≢ i) × (get_elem? l j ≡ some u)). there j u t.0 t.1)
      (at_set l i j w u e)

  pub each_push : (P : ℕ → A → Type 0) (l : List A) (w : A) → P (length l) w → ((j : ℕ) (u : A) → get_elem? l j ≡ some u → P j u)
      → (j : ℕ) (u : A) → get_elem? (l ++ w ∷ []) j ≡ some u → P j u
  each_push P l w new old j u e = ⊎_elim
      (λ (t : get_elem? l j ≡ some u). old j u t)
      (λ (t : (j ≡ length l) × (w ≡ u)). subst (λ (q : ℕ × A). P q.0 q.1) (λ k. (sym t.0 k, t.1 k)) new)
      (at_push l w u j e)

module _ {E : Type 0} where
  pub find_set : (Q : View E → Type 0) (views : List (View E)) (i p : ℕ) (v w : View E) → get_elem? views i ≡ some v → (Q v → Q w) → At Q views p
      → At Q (set views i w) p
  find_set Q views i p v w at keep h = dite (ℕ_discrete p i)
      (λ e. (w, ap (λ (k : ℕ). get_elem? (set views i w) k) e ∙ set_there views i v w at, keep (subst Q (same_there views p i h.0 v h.1 at e) h.2)))
      (λ ne. (h.0, set_else views i p w ne ∙ h.1, h.2))

  pub find_push : (Q : View E → Type 0) (views : List (View E)) (p : ℕ) (w : View E) → At Q views p → At Q (views ++ w ∷ []) p
  find_push Q views p w h = (h.0, at_longer views (w ∷ []) p h.0 h.1, h.2)
