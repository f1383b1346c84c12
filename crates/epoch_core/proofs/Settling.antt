-- What is not settled, as epochs are closed.
use Rattle.std.proofs.Common.{◌≡◌, ℕ, suc, ◌<◌, Bool, true, false, not, ◌&&◌, ◌||◌, ◌==◌, nat_lt, List, [], ◌∷◌, ◌++◌, None, Some, if◌then◌else◌, refl, sym, ap, ap₂, ◌∙◌, bytes_eq, arith}
use Rattle.std.specs.List.{list_any, flat_map, filter}
use Rattle.std.specs.Option.{is_some}
use Rattle.std.proofs.lemmas.Bool.{eq-eqb}
use Rattle.std.proofs.lemmas.List.Folds.{list_any-append}
use Rattle.hb_wire.specs.declared.items.Item.{Item}
use Rattle.hb_wire.specs.declared.vote.Vote.{Vote}
use Rattle.hb_wire.specs.declared.vote.Vote.TheVariants.{Closed}
use Rattle.tx_pool.specs.Calls.{first_places}
use Rattle.tx_pool.specs.Pool.{is_among, without}
use Rattle.hb_rules.specs.Claims.{is_any_closing}
use Rattle.hb_rules.specs.Pool.{transactions_in, settles_below}
use Rattle.epoch_core.specs.Closing.{closed_transactions}
use Rattle.epoch_core.specs.Epochs.{unsettled}
use Rattle.epoch_core.proofs.VoteKinds.{any_same}

pub filter_agree : {A : Type 0} (p q : A → Bool) → ((x : A) → p x ≡ q x) → (xs : List A) → filter p xs ≡ filter q xs
filter_agree p q agree [] = refl
filter_agree {A} p q agree (x ∷ xs) =
    ap₂ (λ (b : Bool) (rest : List A). if b then x ∷ rest else rest) (agree x) (filter_agree p q agree xs)

filter_both : {A : Type 0} (p q : A → Bool) (xs : List A) → filter p (filter q xs) ≡ filter (λ x. q x && p x) xs
filter_both p q [] = refl
filter_both {A} p q (x ∷ xs) = by (q x) (filter_both p q xs)
  where
    by : (b : Bool) → filter p (filter q xs) ≡ filter (λ x. q x && p x) xs
        → filter p (if b then x ∷ filter q xs else filter q xs)
        ≡ (if (b && p x) then x ∷ filter (λ x. q x && p x) xs else filter (λ x. q x && p x) xs)
    by true later = ap (λ (rest : List A). if p x then x ∷ rest else rest) later
    by false later = later

-- votes that settle the same leave the same
pub unsettled_agree : (d e : ℕ) (submitted : List (List ℕ)) (own other : List Vote)
    → ((tx : List ℕ) → list_any (settles_below d tx) own ≡ list_any (settles_below e tx) other)
    → unsettled d submitted own ≡ unsettled e submitted other
unsettled_agree d e submitted own other agree =
    filter_agree (λ tx. not (list_any (settles_below d tx) own)) (λ tx. not (list_any (settles_below e tx) other))
    (λ tx. ap not (agree tx)) (first_places submitted)

-- votes that settle nothing leave all
pub unsettled_more : (e : ℕ) (submitted : List (List ℕ)) (own more : List Vote) → ((tx : List ℕ) → list_any (settles_below e tx) more ≡ false)
    → unsettled e submitted (own ++ more) ≡ unsettled e submitted own
unsettled_more e submitted own more none =
    unsettled_agree e e submitted (own ++ more) own (λ tx. any_same (settles_below e tx) own more (none tx))

-- ---- one epoch is closed

some_if_same : {A : Type 0} (d m : ℕ) (x : A) → is_some (if d == m then Some x else None) ≡ false → d ≡ m → ⊥
some_if_same {A} d m x none same =
    let is : is_some (if d == m then Some x else None) ≡ true = ap (λ (b : Bool). is_some (if b then Some x else None)) (eq-eqb d m same) in
    absurd (cc (none, is))

lt_next : (d m : ℕ) → (d ≡ m → ⊥) → nat_lt d (suc m) ≡ nat_lt d m
lt_next d m apart = grind arith

-- a vote that does not close the epoch settles no more below the next
vote_below : (m : ℕ) (tx : List ℕ) (v : Vote) → is_any_closing m v ≡ false → settles_below (suc m) tx v ≡ settles_below m tx v
vote_below m tx (Closed d list) none =
    ap (λ (b : Bool). b && is_among (transactions_in list) tx) (lt_next d m (some_if_same d m list none))
vote_below m tx v none = refl

or_none : (a b : Bool) → (a || b) ≡ false → (a ≡ false) × (b ≡ false)
or_none true b h = absurd (cc (h))
or_none false b h = (refl, h)

settles_next : (m : ℕ) (tx : List ℕ) (own : List Vote) → list_any (is_any_closing m) own ≡ false
    → list_any (settles_below (suc m) tx) own ≡ list_any (settles_below m tx) own
settles_next m tx [] none = refl
settles_next m tx (v ∷ own) none =
    let parts = or_none (is_any_closing m v) (list_any (is_any_closing m) own) none in
    ap₂ (λ (a b : Bool). a || b) (vote_below m tx v parts.0) (settles_next m tx own parts.1)

lt_suc : (m : ℕ) → nat_lt m (suc m) ≡ true
lt_suc m = grind arith

settles_closed : (m : ℕ) (tx : List ℕ) (own : List Vote) (list : List Item) → list_any (is_any_closing m) own ≡ false
    → list_any (settles_below (suc m) tx) (own ++ Closed m list ∷ []) ≡ (list_any (settles_below m tx) own || is_among (transactions_in list) tx)
settles_closed m tx own list none =
    list_any-append (settles_below (suc m) tx) own (Closed m list ∷ [])
    ∙ ap₂ (λ (a b : Bool). a || ((b && is_among (transactions_in list) tx) || false)) (settles_next m tx own none) (lt_suc m)
    ∙ ap (λ (b : Bool). list_any (settles_below m tx) own || b) (or_false (is_among (transactions_in list) tx))
  where
    or_false : (b : Bool) → ((true && b) || false) ≡ b
    or_false true = refl
    or_false false = refl

neither : (a b : Bool) → not (a || b) ≡ (not a && not b)
neither true b = refl
neither false b = refl

-- what is not settled once the epoch is closed with this list
pub unsettled_closed : (m : ℕ) (submitted : List (List ℕ)) (own : List Vote) (list : List Item) → list_any (is_any_closing m) own ≡ false
    → unsettled (suc m) submitted (own ++ Closed m list ∷ []) ≡ without (transactions_in list) (unsettled m submitted own)
unsettled_closed m submitted own list none =
    filter_agree (λ tx. not (list_any (settles_below (suc m) tx) (own ++ Closed m list ∷ [])))
    (λ tx. not (list_any (settles_below m tx) own) && not (is_among (transactions_in list) tx))
    (λ tx. ap not (settles_closed m tx own list none) ∙ neither (list_any (settles_below m tx) own) (is_among (transactions_in list) tx))
    (first_places submitted)
    ∙ sym (filter_both (λ tx. not (is_among (transactions_in list) tx)) (λ tx. not (list_any (settles_below m tx) own)) (first_places submitted))

-- ---- all votes of a journal

lt_true : (d m : ℕ) → d < m → nat_lt d m ≡ true
lt_true d m below = grind arith

vote_settles : (m : ℕ) (tx : List ℕ) (v : Vote) → ((e : ℕ) → is_any_closing e v ≡ true → e < m)
    → is_among (closed_transactions v) tx ≡ settles_below m tx v
vote_settles m tx (Closed d list) below =
    ap (λ (b : Bool). b && is_among (transactions_in list) tx)
    (sym (lt_true d m (below d (ap (λ (b : Bool). is_some (if b then Some list else None)) (eq-eqb d d refl)))))
vote_settles m tx v below = refl

-- where all closings are below an epoch, they settle all transactions of their lists
pub settles_all : (m : ℕ) (tx : List ℕ) (own : List Vote) → ((e : ℕ) → list_any (is_any_closing e) own ≡ true → e < m)
    → is_among (flat_map closed_transactions own) tx ≡ list_any (settles_below m tx) own
settles_all m tx [] below = refl
settles_all m tx (v ∷ own) below =
    list_any-append (bytes_eq tx) (closed_transactions v) (flat_map closed_transactions own)
    ∙ ap₂ (λ (a b : Bool). a || b)
    (vote_settles m tx v (λ e closes. below e (ap (λ (b : Bool). b || list_any (is_any_closing e) own) closes)))
    (settles_all m tx own (λ e closes. below e (later (is_any_closing e v) (list_any (is_any_closing e) own) closes)))
  where
    later : (a b : Bool) → b ≡ true → (a || b) ≡ true
    later true b h = refl
    later false b h = h

pub unsettled_all : (m : ℕ) (submitted : List (List ℕ)) (own : List Vote) → ((e : ℕ) → list_any (is_any_closing e) own ≡ true → e < m)
    → without (flat_map closed_transactions own) (first_places submitted) ≡ unsettled m submitted own
unsettled_all m submitted own below =
    filter_agree (λ tx. not (is_among (flat_map closed_transactions own) tx)) (λ tx. not (list_any (settles_below m tx) own))
    (λ tx. ap not (settles_all m tx own below)) (first_places submitted)

-- ---- nothing is settled below the first epoch

lt_zero : (d : ℕ) → nat_lt d 0 ≡ false
lt_zero d = grind arith

vote_zero : (tx : List ℕ) (v : Vote) → settles_below 0 tx v ≡ false
vote_zero tx (Closed d list) = ap (λ (b : Bool). b && is_among (transactions_in list) tx) (lt_zero d)
vote_zero tx v = refl

settles_zero : (tx : List ℕ) (own : List Vote) → list_any (settles_below 0 tx) own ≡ false
settles_zero tx [] = refl
settles_zero tx (v ∷ own) = ap₂ (λ (a b : Bool). a || b) (vote_zero tx v) (settles_zero tx own)

filter_whole : {A : Type 0} (p : A → Bool) → ((x : A) → p x ≡ true) → (xs : List A) → filter p xs ≡ xs
filter_whole p all [] = refl
filter_whole {A} p all (x ∷ xs) = ap₂ (λ (b : Bool) (rest : List A). if b then x ∷ rest else rest) (all x) (filter_whole p all xs)

pub unsettled_zero : (submitted : List (List ℕ)) (own : List Vote) → unsettled 0 submitted own ≡ first_places submitted
unsettled_zero submitted own =
    filter_whole (λ tx. not (list_any (settles_below 0 tx) own)) (λ tx. ap not (settles_zero tx own)) (first_places submitted)
