-- A loop over a list from its end.
use Rattle.std.proofs.Common.{◌≡◌, ℕ, List, [], ◌∷◌, ◌++◌, length, drop, refl, sym, ap, ◌∙◌, append_assoc}
use Rattle.std.proofs.lemmas.List.{drop_at, append-nil}

-- the elements left, and behind them those that were taken, are the list
abbrev pub IsLeftOf : List ℕ → List ℕ → Type 0
IsLeftOf left xs = left ++ drop (length left) xs ≡ xs

pub all_left : (xs left : List ℕ) → left ≡ xs → drop (length left) xs ≡ []
all_left xs left e = ap (λ l. drop (length l) xs) e ∙ none xs
  where
    none : (xs : List ℕ) → drop (length xs) xs ≡ []
    none [] = refl
    none (x ∷ xs) = none xs

pub IsLeftOf-all : (xs left : List ℕ) → left ≡ xs → IsLeftOf left xs
IsLeftOf-all xs left e = ap (λ d. left ++ d) (all_left xs left e) ∙ append-nil left ∙ e

pub one_taken : (xs left rest : List ℕ) (x : ℕ) → IsLeftOf left xs → left ≡ rest ++ x ∷ [] → drop (length rest) xs ≡ x ∷ drop (length left) xs
one_taken xs left rest x h e =
    let whole : rest ++ x ∷ drop (length left) xs ≡ xs =
    sym (append_assoc rest (x ∷ []) (drop (length left) xs)) ∙ ap (λ l. l ++ drop (length left) xs) (sym e) ∙ h in
    ap (drop (length rest)) (sym whole) ∙ drop_at rest (x ∷ drop (length left) xs) (length rest) refl

pub IsLeftOf-rest : (xs left rest : List ℕ) (x : ℕ) → IsLeftOf left xs → left ≡ rest ++ x ∷ [] → IsLeftOf rest xs
IsLeftOf-rest xs left rest x h e =
    ap (λ d. rest ++ d) (one_taken xs left rest x h e) ∙ sym (append_assoc rest (x ∷ []) (drop (length left) xs))
    ∙ ap (λ l. l ++ drop (length left) xs) (sym e) ∙ h
