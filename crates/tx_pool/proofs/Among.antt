-- Lists of transactions.
use Rattle.std.proofs.Common.{◌≡◌, ℕ, Bool, true, false, not, ◌&&◌, ◌||◌, List, [], ◌∷◌, ◌++◌, if◌then◌else◌, refl, sym, ap, ◌∙◌, bytes_eq, filter}
use Rattle.std.specs.Cmp.Lexicographic.{nat_list_eq_equiv}
use Rattle.std.proofs.lemmas.List.Elements.{filter-append}
use Rattle.std.proofs.lemmas.List.Folds.{list_any-append}
use Rattle.std.proofs.lemmas.Map.Views.{any-filter_same}
use Rattle.std.proofs.lemmas.Slice.Eq.{bytes_eq-Decides}
use Rattle.std.proofs.Common.{append-nil}
use Rattle.tx_pool.specs.Pool.{is_among, without}
use Rattle.tx_pool.specs.Calls.{first_places}

pub bytes_eq-refl : (tx : List ℕ) → bytes_eq tx tx ≡ true
bytes_eq-refl tx = (bytes_eq-Decides tx tx).1 refl

pub bytes_eq-swap : (tx other : List ℕ) → bytes_eq tx other ≡ bytes_eq other tx
bytes_eq-swap tx other = nat_list_eq_equiv.symm tx other

-- a transaction is among those that a test keeps where it passes and was among them
pub is_among-filter : (test : List ℕ → Bool) (txs : List (List ℕ)) (tx : List ℕ) → is_among (filter test txs) tx ≡ (test tx && is_among txs tx)
is_among-filter test txs tx = any-filter_same (bytes_eq tx) test (test tx) (λ other same. ap test (sym ((bytes_eq-Decides tx other).0 same))) txs

pub is_among-append : (txs more : List (List ℕ)) (tx : List ℕ) → is_among (txs ++ more) tx ≡ (is_among txs tx || is_among more tx)
is_among-append txs more tx = list_any-append (bytes_eq tx) txs more

or_not : (a b : Bool) → (a || (not a && b)) ≡ (a || b)
or_not true b = refl
or_not false b = refl

pub is_among-first_places : (txs : List (List ℕ)) (tx : List ℕ) → is_among (first_places txs) tx ≡ is_among txs tx
is_among-first_places [] tx = refl
is_among-first_places (first ∷ txs) tx =
    ap (λ (b : Bool). bytes_eq tx first || b)
    (is_among-filter (λ other. not (bytes_eq first other)) (first_places txs) tx
    ∙ ap (λ (b : Bool). not b && is_among (first_places txs) tx) (bytes_eq-swap first tx)
    ∙ ap (λ (b : Bool). not (bytes_eq tx first) && b) (is_among-first_places txs tx))
    ∙ or_not (bytes_eq tx first) (is_among txs tx)

-- one more transaction: it has no further place where it has one
pub first_places-push : (txs : List (List ℕ)) (tx : List ℕ)
    → first_places (txs ++ tx ∷ []) ≡ (if is_among txs tx then first_places txs else first_places txs ++ tx ∷ [])
first_places-push [] tx = refl
first_places-push (first ∷ txs) tx =
    ap (λ (rest : List (List ℕ)). first ∷ filter (λ other. not (bytes_eq first other)) rest) (first_places-push txs tx)
    ∙ by (is_among txs tx) (bytes_eq tx first) refl
  where
    push : (same : Bool) → bytes_eq tx first ≡ same
        → filter (λ other. not (bytes_eq first other)) (first_places txs ++ tx ∷ [])
        ≡ filter (λ other. not (bytes_eq first other)) (first_places txs) ++ (if same then [] else tx ∷ [])
    push same e =
        filter-append (λ other. not (bytes_eq first other)) (first_places txs) (tx ∷ [])
        ∙ ap (λ (b : Bool). filter (λ other. not (bytes_eq first other)) (first_places txs) ++ (if not b then tx ∷ [] else [])) (bytes_eq-swap first tx ∙ e)
        ∙ ap (λ (l : List (List ℕ)). filter (λ other. not (bytes_eq first other)) (first_places txs) ++ l) (flip same)
      where
        flip : (b : Bool) → (if not b then tx ∷ [] else []) ≡ (if b then [] else tx ∷ [])
        flip true = refl
        flip false = refl

    by : (b same : Bool) → bytes_eq tx first ≡ same
        → first ∷ filter (λ other. not (bytes_eq first other)) (if b then first_places txs else first_places txs ++ tx ∷ [])
        ≡ (if same || b then first ∷ filter (λ other. not (bytes_eq first other)) (first_places txs) else first ∷ filter
        (λ other. not (bytes_eq first other)) (first_places txs) ++ tx ∷ [])
    by true true e = refl
    by true false e = refl
    by false true e = ap (λ (l : List (List ℕ)). first ∷ l) (push true e ∙ append-nil _)
    by false false e = ap (λ (l : List (List ℕ)). first ∷ l) (push false e)

pub without-push : (gone txs : List (List ℕ)) (tx : List ℕ) → without gone (txs ++ tx ∷ []) ≡ without gone txs ++ (if is_among gone tx then [] else tx ∷ [])
without-push gone txs tx = filter-append (λ other. not (is_among gone other)) txs (tx ∷ [])
    ∙ ap (λ (l : List (List ℕ)). without gone txs ++ l) (by (is_among gone tx))
  where
    by : (b : Bool) → (if not b then tx ∷ [] else []) ≡ (if b then [] else tx ∷ [])
    by true = refl
    by false = refl

-- what has gone at first and what goes then
pub without-without : (gone more txs : List (List ℕ)) → without (gone ++ more) txs ≡ without more (without gone txs)
without-without gone more [] = refl
without-without gone more (tx ∷ txs) =
    ap (λ (b : Bool). if not b then tx ∷ without (gone ++ more) txs else without (gone ++ more) txs) (is_among-append gone more tx)
    ∙ ap (λ (l : List (List ℕ)). if not (is_among gone tx || is_among more tx) then tx ∷ l else l) (without-without gone more txs)
    ∙ by (is_among gone tx) (is_among more tx) refl
  where
    by : (a b : Bool) → is_among more tx ≡ b
        → (if not (a || b) then tx ∷ without more (without gone txs) else without more (without gone txs))
        ≡ without more (if not a then tx ∷ without gone txs else without gone txs)
    by true b e = refl
    by false true e = ap (λ (b : Bool). if not b then tx ∷ without more (without gone txs) else without more (without gone txs)) (sym e)
    by false false e = ap (λ (b : Bool). if not b then tx ∷ without more (without gone txs) else without more (without gone txs)) (sym e)

-- two tests that agree at each of the transactions keep the same
pub filter_agree_among : (p q : List ℕ → Bool) (txs : List (List ℕ)) → ((tx : List ℕ) → is_among txs tx ≡ true → p tx ≡ q tx) → filter p txs ≡ filter q txs
filter_agree_among p q [] agree = refl
filter_agree_among p q (tx ∷ txs) agree =
    let here : p tx ≡ q tx = agree tx (ap (λ (b : Bool). b || is_among txs tx) (bytes_eq-refl tx)) in
    let rest : filter p txs ≡ filter q txs = filter_agree_among p q txs (λ other among. agree other (later (bytes_eq other tx) (is_among txs other) among)) in
    ap (λ (b : Bool). if b then tx ∷ filter p txs else filter p txs) here
    ∙ ap (λ (l : List (List ℕ)). if q tx then tx ∷ l else l) rest
  where
    later : (a b : Bool) → b ≡ true → (a || b) ≡ true
    later true b e = refl
    later false b e = e
