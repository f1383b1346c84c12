-- What a pool has after one call more.
use Rattle.std.proofs.Common.{◌≡◌, ℕ, Bool, true, false, not, ◌&&◌, ◌||◌, List, [], ◌∷◌, ◌++◌, if◌then◌else◌, refl, sym, ap, ◌∙◌, append-nil, append_assoc}
use Rattle.tx_pool.specs.Pool.{PoolView, is_among, is_known, without}
use Rattle.tx_pool.specs.Calls.{Call, Submit, Settle, submitted_in, settled_in, first_places, IsPoolOf}
use Rattle.tx_pool.proofs.Among.{is_among-filter, is_among-append, is_among-first_places, first_places-push, without-push, without-without}

submitted-submit : (calls : List Call) (tx : List ℕ) → submitted_in (calls ++ Submit tx ∷ []) ≡ submitted_in calls ++ tx ∷ []
submitted-submit [] tx = refl
submitted-submit (Submit first ∷ calls) tx = ap (λ (l : List (List ℕ)). first ∷ l) (submitted-submit calls tx)
submitted-submit (Settle txs ∷ calls) tx = submitted-submit calls tx

settled-submit : (calls : List Call) (tx : List ℕ) → settled_in (calls ++ Submit tx ∷ []) ≡ settled_in calls
settled-submit [] tx = refl
settled-submit (Submit first ∷ calls) tx = settled-submit calls tx
settled-submit (Settle txs ∷ calls) tx = ap (λ (l : List (List ℕ)). txs ++ l) (settled-submit calls tx)

submitted-settle : (calls : List Call) (more : List (List ℕ)) → submitted_in (calls ++ Settle more ∷ []) ≡ submitted_in calls
submitted-settle [] more = refl
submitted-settle (Submit first ∷ calls) more = ap (λ (l : List (List ℕ)). first ∷ l) (submitted-settle calls more)
submitted-settle (Settle txs ∷ calls) more = submitted-settle calls more

settled-settle : (calls : List Call) (more : List (List ℕ)) → settled_in (calls ++ Settle more ∷ []) ≡ settled_in calls ++ more
settled-settle [] more = append-nil more
settled-settle (Submit first ∷ calls) more = settled-settle calls more
settled-settle (Settle txs ∷ calls) more = ap (λ (l : List (List ℕ)). txs ++ l) (settled-settle calls more) ∙ sym (append_assoc txs (settled_in calls) more)

-- whether a pool knows a transaction, by the calls
known_is : (calls : List Call) (pool : PoolView) (tx : List ℕ) → IsPoolOf calls pool
    → is_known pool tx ≡ ((not (is_among (settled_in calls) tx) && is_among (submitted_in calls) tx) || is_among (settled_in calls) tx)
known_is calls pool tx is_of =
    ap (λ (b : Bool). is_among pool.pooled tx || b) (is_of.settled tx)
    ∙ ap (λ (b : Bool). b || is_among (settled_in calls) tx)
    (ap (λ (txs : List (List ℕ)). is_among txs tx) is_of.pooled
    ∙ is_among-filter (λ other. not (is_among (settled_in calls) other)) (first_places (submitted_in calls)) tx
    ∙ ap (λ (b : Bool). not (is_among (settled_in calls) tx) && b) (is_among-first_places (submitted_in calls) tx))

-- what one submission more leaves pooled
pooled-submit : (gone txs : List (List ℕ)) (tx : List ℕ)
    → (if (not (is_among gone tx) && is_among txs tx) || is_among gone tx then without gone (first_places txs) else without gone (first_places txs) ++ tx ∷ [])
    ≡ without gone (first_places (txs ++ tx ∷ []))
pooled-submit gone txs tx =
    by (is_among gone tx) (is_among txs tx) refl
    ∙ ap (λ (l : List (List ℕ)). without gone l) (sym (first_places-push txs tx))
  where
    by : (g s : Bool) → is_among gone tx ≡ g
        → (if (not g && s) || g then without gone (first_places txs) else without gone (first_places txs) ++ tx ∷ [])
        ≡ without gone (if s then first_places txs else first_places txs ++ tx ∷ [])
    by true true e = refl
    by true false e = sym (without-push gone (first_places txs) tx
        ∙ ap (λ (b : Bool). without gone (first_places txs) ++ (if b then [] else tx ∷ [])) e ∙ append-nil (without gone (first_places txs)))
    by false true e = refl
    by false false e = sym (without-push gone (first_places txs) tx ∙ ap (λ (b : Bool). without gone (first_places txs) ++ (if b then [] else tx ∷ [])) e)

pub told_submit : (calls : List Call) (tx : List ℕ) (old new : PoolView) → IsPoolOf calls old
    → new.pooled ≡ (if is_known old tx then old.pooled else old.pooled ++ tx ∷ []) → new.settled ≡ old.settled → IsPoolOf (calls ++ Submit tx ∷ []) new
told_submit calls tx old new is_of pooled settled = record {
  pooled = pooled
      ∙ ap (λ (b : Bool). if b then old.pooled else old.pooled ++ tx ∷ []) (known_is calls old tx is_of)
      ∙ ap (λ (l : List (List ℕ)). if (not (is_among (settled_in calls) tx) && is_among (submitted_in calls) tx) || is_among (settled_in calls) tx
      then l else l ++ tx ∷ []) is_of.pooled
      ∙ pooled-submit (settled_in calls) (submitted_in calls) tx
      ∙ ap (λ (l : List (List ℕ)). without (settled_in calls) (first_places l)) (sym (submitted-submit calls tx))
      ∙ ap (λ (l : List (List ℕ)). without l (first_places (submitted_in (calls ++ Submit tx ∷ [])))) (sym (settled-submit calls tx));
  settled = λ other. ap (λ (l : List (List ℕ)). is_among l other) settled ∙ is_of.settled other
      ∙ ap (λ (l : List (List ℕ)). is_among l other) (sym (settled-submit calls tx));
}

pub told_settle : (calls : List Call) (txs : List (List ℕ)) (old new : PoolView) → IsPoolOf calls old → new.pooled ≡ without txs old.pooled
    → ((tx : List ℕ) → is_among new.settled tx ≡ (is_among old.settled tx || is_among txs tx)) → IsPoolOf (calls ++ Settle txs ∷ []) new
told_settle calls txs old new is_of pooled settled = record {
  pooled = pooled
      ∙ ap (λ (l : List (List ℕ)). without txs l) is_of.pooled
      ∙ sym (without-without (settled_in calls) txs (first_places (submitted_in calls)))
      ∙ ap (λ (l : List (List ℕ)). without l (first_places (submitted_in calls))) (sym (settled-settle calls txs))
      ∙ ap (λ (l : List (List ℕ)). without (settled_in (calls ++ Settle txs ∷ [])) (first_places l)) (sym (submitted-settle calls txs));
  settled = λ tx. settled tx
      ∙ ap (λ (b : Bool). b || is_among txs tx) (is_of.settled tx)
      ∙ sym (is_among-append (settled_in calls) txs tx)
      ∙ ap (λ (l : List (List ℕ)). is_among l tx) (sym (settled-settle calls txs));
}
