-- Beginnings of one list, the entries of one number, and lists in which no number stands twice.
use Rattle.std.proofs.Common.{
  ◌≡◌,
  ℕ,
  suc,
  ◌≤◌,
  ◌≢◌,
  ◌⊎◌,
  inl,
  inr,
  ⊎_elim,
  eqb,
  eq-eqb,
  ne_eqb,
  cond,
  List,
  [],
  ◌∷◌,
  ◌++◌,
  length,
  refl,
  ap,
  sym,
  subst,
  ◌∙◌,
  arith,
  append_assoc,
}
use Rattle.std.proofs.lemmas.List.{append-nil}
use Rattle.std.proofs.lemmas.List.Elements.{filter-append, Contains-push, Contains-push_cases, Contains-append_cases, All-head, All-tail, All-push}
use Rattle.std.specs.List.{Contains}
use mathlib.Core.List.{IsPrefix}
use Rattle.turn_book.specs.Entries.{entries_of, NamesGiven, AddsAtMostOne}
use Rattle.turn_book.specs.Kept.{IsOnce}

module _ {A : Type 0} where
  pub prefix_self : (xs : List A) → IsPrefix xs xs
  prefix_self xs = ([], append-nil xs)

  pub prefix_more : (xs ys more : List A) → IsPrefix xs ys → IsPrefix xs (ys ++ more)
  prefix_more xs ys more p = (p.0 ++ more, sym (append_assoc xs p.0 more) ∙ ap (λ w. w ++ more) p.1)

  -- of two beginnings of one list the shorter begins the longer
  pub prefix_shorter : (xs ys zs : List A) → IsPrefix xs zs → IsPrefix ys zs → length xs ≤ length ys → IsPrefix xs ys
  prefix_shorter [] ys zs p q le = (ys, refl)
  prefix_shorter (x ∷ xs) [] zs p q le = absurd (omega arith)
  prefix_shorter (x ∷ xs) (y ∷ ys) [] p q le = absurd (cc (p.1))
  prefix_shorter (x ∷ xs) (y ∷ ys) (z ∷ zs) p q le =
      let heads : x ≡ y = cc (p.1, q.1) in
      let rest = prefix_shorter xs ys zs (p.0, cc (p.1)) (q.0, cc (q.1)) (omega arith) in
      (rest.0, cc (heads, rest.1))

  pub prefix_of_none : (xs : List A) → IsPrefix xs [] → xs ≡ []
  prefix_of_none [] p = refl
  prefix_of_none (x ∷ xs) p = absurd (cc (p.1))

  -- a beginning that has nothing before it is all
  pub prefix_of_either : (xs ys : List A) → IsPrefix ys xs → (xs ≡ []) ⊎ (xs ≡ ys) → xs ≡ ys
  prefix_of_either xs ys p (inl e) = e ∙ sym (prefix_of_none ys (subst (λ w. IsPrefix ys w) e p))
  prefix_of_either xs ys p (inr e) = e

  pub nothing_added : (xs ys : List A) → xs ≡ xs ++ ys → ys ≡ []
  nothing_added [] ys e = sym e
  nothing_added (x ∷ xs) ys e = nothing_added xs ys (cc e)

  pub same_added : (xs ys zs : List A) → xs ++ ys ≡ xs ++ zs → ys ≡ zs
  same_added [] ys zs e = e
  same_added (x ∷ xs) ys zs e = same_added xs ys zs (cc e)

module _ {E : Type 0} (names : E → ℕ) where
  pub entries_of-append : (n : ℕ) (xs ys : List E) → entries_of names n (xs ++ ys) ≡ entries_of names n xs ++ entries_of names n ys
  entries_of-append n xs ys = filter-append (λ e. eqb (names e) n) xs ys

  pub entries_of-own : (e : E) (n : ℕ) → names e ≡ n → entries_of names n (e ∷ []) ≡ e ∷ []
  entries_of-own e n is = ap (λ b. cond b (e ∷ []) []) (eq-eqb (names e) n is)

  pub entries_of-other : (e : E) (n : ℕ) → names e ≢ n → entries_of names n (e ∷ []) ≡ []
  entries_of-other e n ne = ap (λ b. cond b (e ∷ []) []) (ne_eqb (names e) n ne)

  pub entries_of-unchanged : (e : E) (n : ℕ) (xs : List E) → names e ≢ n → entries_of names n (xs ++ e ∷ []) ≡ entries_of names n xs
  entries_of-unchanged e n xs ne = entries_of-append n xs (e ∷ [])
      ∙ (ap (λ w. entries_of names n xs ++ w) (entries_of-other e n ne) ∙ append-nil (entries_of names n xs))

  -- a number that was never given has no entry
  pub none_of : (n : ℕ) (given : List ℕ) (xs : List E) → n ≢ 0 → ¬ Contains given n → NamesGiven names given xs → entries_of names n xs ≡ []
  none_of n given [] pos new all = refl
  none_of n given (x ∷ xs) pos new all =
      let P : E → Type 0 = λ e. (names e ≡ 0) ⊎ Contains given (names e) in
      let other : names x ≢ n = λ e. ⊎_elim (λ z. pos (sym e ∙ z)) (λ h. new (subst (λ k. Contains given k) e h)) (All-head P x xs all) in
      entries_of-append n (x ∷ []) xs ∙ (ap (λ w. w ++ entries_of names n xs) (entries_of-other x n other) ∙ none_of n given xs pos new (All-tail P x xs all))

  none_before : (xs ys : List E) → xs ++ ys ≡ [] → xs ≡ []
  none_before [] ys e = refl
  none_before (x ∷ xs) ys e = absurd (cc e)

  -- a list between a beginning and a whole that have the same entries of a number has just these
  pub entries_of-between : (n : ℕ) (xs ys zs : List E) → IsPrefix xs ys → IsPrefix ys zs → entries_of names n zs ≡ entries_of names n xs
      → entries_of names n ys ≡ entries_of names n xs
  entries_of-between n xs ys zs p q same =
      let f : List E → List E = entries_of names n in
      let front : f ys ≡ f xs ++ f p.0 = sym (ap f p.1) ∙ entries_of-append n xs p.0 in
      let whole : f zs ≡ f ys ++ f q.0 = sym (ap f q.1) ∙ entries_of-append n ys q.0 in
      let all : f xs ≡ f xs ++ (f p.0 ++ f q.0) = sym same ∙ (whole ∙ (ap (λ w. w ++ f q.0) front ∙ append_assoc (f xs) (f p.0) (f q.0))) in
      let none : f p.0 ≡ [] = none_before (f p.0) (f q.0) (nothing_added (f xs) (f p.0 ++ f q.0) all) in
      front ∙ (ap (λ w. f xs ++ w) none ∙ append-nil (f xs))

  -- what an entry more of a number leaves as it was
  pub record Grown (n : ℕ) (old new : List E) : Type 0 where
    pub begins : (xs : List E) → IsPrefix xs old → IsPrefix xs new
    pub others : (m : ℕ) → m ≢ n → entries_of names m new ≡ entries_of names m old
    pub named : (given : List ℕ) → (n ≡ 0) ⊎ Contains given n → NamesGiven names given old → NamesGiven names given new

  pub grown : (n : ℕ) (old new : List E) → AddsAtMostOne names n old new → Grown n old new
  grown n old new (inl same) = record {
    begins = λ xs p. subst (λ w. IsPrefix xs w) (sym same) p;
    others = λ m _. ap (entries_of names m) same;
    named = λ given _ all. subst (λ w. NamesGiven names given w) (sym same) all;
  }
  grown n old new (inr (e, names_it, is)) = record {
    begins = λ xs p. subst (λ w. IsPrefix xs w) (sym is) (prefix_more xs old (e ∷ []) p);
    others = λ m other. ap (entries_of names m) is ∙ entries_of-unchanged e m old (λ h. other (sym h ∙ names_it));
    named = λ given known all. subst (λ w. NamesGiven names given w) (sym is)
        (All-push (λ d. (names d ≡ 0) ⊎ Contains given (names d)) old e all
        (⊎_elim (λ h. inl (names_it ∙ h)) (λ h. inr (subst (λ k. Contains given k) (sym names_it) h)) known));
  }

module _ {E : Type 0} where
  pub not_in_none : (x : ℕ × List E) → ¬ Contains [] x
  not_in_none x h = let l = h.1 in absurd (omega arith)

  in_one : (x y : ℕ × List E) → Contains (x ∷ []) y → x ≡ y
  in_one x y h = ⊎_elim (λ a. absurd (not_in_none y a)) (λ e. e) (Contains-push_cases [] x y h)

  in_tail : (x : ℕ × List E) (xs : List (ℕ × List E)) (y : ℕ × List E) → Contains xs y → Contains (x ∷ xs) y
  in_tail x xs y h = (suc h.0, (let l = h.1 in omega arith), h.2)

  pub once_push : (xs : List (ℕ × List E)) (n : ℕ) (k : List E) → IsOnce xs → ((l : List E) → ¬ Contains xs (n, l)) → IsOnce (xs ++ (n, k) ∷ [])
  once_push [] n k h new = ((λ l c. not_in_none (n, l) c), tt)
  once_push (x ∷ xs) n k h new = (
    (λ l c. ⊎_elim (λ (a : Contains xs (x.0, l)). h.0 l a) (λ (e : (n, k) ≡ (x.0, l)). new x.1
        (0, omega arith, λ i. (sym (ap (λ p. p.0) e) i, x.1))) (Contains-push_cases xs (n, k) (x.0, l) c)),
    once_push xs n k h.1 (λ l c. new l (in_tail x xs (n, l) c)),
  )

  pub once_last : (xs : List (ℕ × List E)) (n : ℕ) (k : List E) → IsOnce (xs ++ (n, k) ∷ []) → (l : List E) → ¬ Contains xs (n, l)
  once_last [] n k h l c = not_in_none (n, l) c
  once_last (x ∷ xs) n k h l c = ⊎_elim
      (λ (a : Contains (x ∷ []) (n, l)). let e : x.0 ≡ n = ap (λ p. p.0) (in_one x (n, l) a) in
      h.0 k (subst (λ (m : ℕ). Contains (xs ++ (n, k) ∷ []) (m, k)) (sym e) (Contains-push xs (n, k))))
      (λ (b : Contains xs (n, l)). once_last xs n k h.1 l b)
      (Contains-append_cases (x ∷ []) xs (n, l) c)
