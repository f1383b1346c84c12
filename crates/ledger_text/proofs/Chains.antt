-- Chains of transactions.
use Rattle.std.proofs.Common.{◌≡◌, ℕ, zero, suc, ◌-◌, ◌<◌, ◌≤◌, ◌==◌, ◌||◌, ◌⊎◌, Bool, true, false, ◌↔◌, inl, inr, Result, Ok, Err, replicate, bytes_eq, List, [], ◌∷◌, ◌++◌, length, get_or, map, set, Bor, if◌then◌else◌, refl, sym, ap, ◌∙◌, arith, get_or-set_other}
use Rattle.std.specs.Prelude.{IsTrue, IfOk}
use Rattle.std.specs.Cmp.Lexicographic.{bytes_decides}
use Rattle.std.proofs.lemmas.Bool.{cases_lt, both_ways, false_from_ne_true, eqb-true, eq-eqb}
use Rattle.std.proofs.lemmas.Grind.{get_or-set_at}
use Rattle.std.proofs.lemmas.List.{length_push, get_or_push, get_or-map, get_or-replicate, length-map, map-append}
use Rattle.std.proofs.lemmas.List.Folds.{list_any-append, list_any_at}
use Rattle.hb_rules.proofs.Among.{any_stands}
use Rattle.tx_pool.specs.Pool.{is_among}
use Rattle.ledger_text.specs.Chains.{chains, chain_of, last_of, IsChained, HasSeen}

-- ---- the last of a chain

front_at : {X : Type 0} (xs ys : List X) (k : ℕ) (d : X) → k < length xs → get_or (xs ++ ys) k d ≡ get_or xs k d
front_at [] ys k d inside = absurd (omega arith)
front_at (x ∷ xs) ys zero d inside = refl
front_at (x ∷ xs) ys (suc k) d inside = front_at xs ys k d (omega (arith, inside))

pub last_low : (chain : ℕ) (txs : List (List ℕ)) (k : ℕ) → last_of chain txs k ≤ k
last_low chain txs zero = omega arith
last_low chain txs (suc k) = by (chain_of (get_or txs k []) == chain) (last_low chain txs k)
  where
    by : (b : Bool) → last_of chain txs k ≤ k → (if b then suc k else last_of chain txs k) ≤ suc k
    by true below = omega arith
    by false below = omega (arith, below)

-- the one to which a number leads is of the chain
pub last_is : (chain : ℕ) (txs : List (List ℕ)) (k j : ℕ) → last_of chain txs k ≡ suc j → chain_of (get_or txs j []) ≡ chain
last_is chain txs zero j leads = absurd (omega (arith, leads))
last_is chain txs (suc k) j leads = by (chain_of (get_or txs k []) == chain) refl leads (last_is chain txs k j)
  where
    by : (b : Bool) → (chain_of (get_or txs k []) == chain) ≡ b → (if b then suc k else last_of chain txs k) ≡ suc j
        → (last_of chain txs k ≡ suc j → chain_of (get_or txs j []) ≡ chain) → chain_of (get_or txs j []) ≡ chain
    by true is here before =
        let same : k ≡ j = omega (arith, here) in
        ap (λ (m : ℕ). chain_of (get_or txs m [])) (sym same) ∙ eqb-true (chain_of (get_or txs k [])) chain is
    by false is below before = before below

-- those behind it are of others
pub last_above : (chain : ℕ) (txs : List (List ℕ)) (k j : ℕ) → last_of chain txs k ≤ j → j < k → chain_of (get_or txs j []) ≡ chain → ⊥
last_above chain txs zero j low high same = omega (arith, high)
last_above chain txs (suc k) j low high same = by (chain_of (get_or txs k []) == chain) refl low (λ below under. last_above chain txs k j below under same)
  where
    by : (b : Bool) → (chain_of (get_or txs k []) == chain) ≡ b → (if b then suc k else last_of chain txs k) ≤ j
        → (last_of chain txs k ≤ j → j < k → ⊥) → ⊥
    by true is here before = omega (arith, here, high)
    by false is below before = elim (cases_lt j k) [
      | inl under ↦ before below under
      | inr over ↦
          let last : j ≡ k = omega (arith, high, over) in
          both_ways (chain_of (get_or txs k []) == chain) is
          (eq-eqb (chain_of (get_or txs k [])) chain (ap (λ (m : ℕ). chain_of (get_or txs m [])) (sym last) ∙ same))
    ]

pub last_again : (chain : ℕ) (txs : List (List ℕ)) (k : ℕ) → last_of chain txs (last_of chain txs k) ≡ last_of chain txs k
last_again chain txs zero = refl
last_again chain txs (suc k) = by (chain_of (get_or txs k []) == chain) refl (last_again chain txs k)
  where
    by : (b : Bool) → (chain_of (get_or txs k []) == chain) ≡ b → last_of chain txs (last_of chain txs k) ≡ last_of chain txs k
        → last_of chain txs (if b then suc k else last_of chain txs k) ≡ (if b then suc k else last_of chain txs k)
    by true is before = rw is refl
    by false is before = before

-- the first ones do not look at those behind them
pub last_front : (chain : ℕ) (txs more : List (List ℕ)) (k : ℕ) → k ≤ length txs → last_of chain (txs ++ more) k ≡ last_of chain txs k
last_front chain txs more zero low = refl
last_front chain txs more (suc k) low =
    let here : get_or (txs ++ more) k [] ≡ get_or txs k [] = front_at txs more k [] (omega (arith, low)) in
    let below : last_of chain (txs ++ more) k ≡ last_of chain txs k = last_front chain txs more k (omega (arith, low)) in
    ap (λ (tx : List ℕ). if chain_of tx == chain then suc k else last_of chain (txs ++ more) k) here
    ∙ ap (λ (m : ℕ). if chain_of (get_or txs k []) == chain then suc k else m) below

-- ---- whether a transaction is among those of its chain

-- a chain was walked down to a number: it leads on from there, and those behind it are others
pub record IsWalked (txs : List (List ℕ)) (tx : List ℕ) (number : ℕ) : Type 0 where
  pub low : number ≤ length txs
  pub here : last_of (chain_of tx) txs number ≡ number
  pub none : (k : ℕ) → number ≤ k → k < length txs → bytes_eq tx (get_or txs k []) ≡ false

other_bytes : (tx other : List ℕ) → (chain_of other ≡ chain_of tx → ⊥) → bytes_eq tx other ≡ false
other_bytes tx other apart =
    false_from_ne_true (bytes_eq tx other) (λ same. apart (ap chain_of (sym ((bytes_decides tx other).0 same))))

pub walk_starts : (txs : List (List ℕ)) (tx : List ℕ) (number : ℕ) → number ≡ last_of (chain_of tx) txs (length txs) → IsWalked txs tx number
walk_starts txs tx number is = rw is (record {
  low = last_low (chain_of tx) txs (length txs);
  here = last_again (chain_of tx) txs (length txs);
  none = λ k low high. other_bytes tx (get_or txs k []) (last_above (chain_of tx) txs (length txs) k low high);
})

pub walk_goes : (txs : List (List ℕ)) (tx : List ℕ) (number next : ℕ) → IsWalked txs tx number → 0 < number
    → bytes_eq tx (get_or txs (number - 1) []) ≡ false → next ≡ last_of (chain_of (get_or txs (number - 1) [])) txs (number - 1)
    → IsWalked txs tx next × (next < number)
walk_goes txs tx zero next walked some other leads = absurd (omega (arith, some))
walk_goes txs tx (suc j) next walked some other leads = (
  rw down (record {
    low = omega (arith, walked.low, last_low chain txs j);
    here = last_again chain txs j;
    none = none;
  }),
  omega (arith, down, last_low chain txs j),
)
  where
    chain : ℕ
    chain = chain_of tx

    less : suc j - 1 ≡ j
    less = omega arith

    mine : chain_of (get_or txs j []) ≡ chain
    mine = last_is chain txs (suc j) j walked.here

    down : next ≡ last_of chain txs j
    down = leads ∙ ap (λ (m : ℕ). last_of (chain_of (get_or txs m [])) txs m) less ∙ ap (λ (h : ℕ). last_of h txs j) mine

    none : (k : ℕ) → last_of chain txs j ≤ k → k < length txs → bytes_eq tx (get_or txs k []) ≡ false
    none k low high = elim (cases_lt k j) [
      | inl under ↦ other_bytes tx (get_or txs k []) (last_above chain txs j k low under)
      | inr over ↦ elim (cases_lt j k) [
        | inl above ↦ walked.none k (omega (arith, above)) high
        | inr at ↦
            let same : j ≡ k = omega (arith, over, at) in
            ap (λ (m : ℕ). bytes_eq tx (get_or txs m [])) (sym same) ∙ ap (λ (m : ℕ). bytes_eq tx (get_or txs m [])) (sym less) ∙ other
      ]
    ]

pub walk_finds : (txs : List (List ℕ)) (tx : List ℕ) (number : ℕ) → IsWalked txs tx number → 0 < number
    → bytes_eq tx (get_or txs (number - 1) []) ≡ true → is_among txs tx ≡ true
walk_finds txs tx number walked some same = list_any_at (bytes_eq tx) txs (number - 1) [] (omega (arith, some, walked.low)) same

pub walk_ends : (txs : List (List ℕ)) (tx : List ℕ) (number : ℕ) → IsWalked txs tx number → number ≡ 0 → is_among txs tx ≡ false
walk_ends txs tx number walked end = false_from_ne_true (is_among txs tx) (λ among.
    let found = any_stands (bytes_eq tx) txs among in
    both_ways (bytes_eq tx found.0)
    (ap (bytes_eq tx) (sym found.1.2 ∙ default txs found.1.0 found.0 found.1.1) ∙ walked.none found.1.0 (omega (arith, end)) found.1.1)
    found.2)
  where
    default : (xs : List (List ℕ)) (k : ℕ) (d : List ℕ) → k < length xs → get_or xs k d ≡ get_or xs k []
    default [] k d inside = absurd (omega arith)
    default (x ∷ xs) zero d inside = refl
    default (x ∷ xs) (suc k) d inside = default xs k d (omega (arith, inside))

-- what is read at a place
pub at_place : (xs items : List (Bor (List ℕ))) (k : ℕ) (d : Bor (List ℕ)) → xs ≡ items → k < length (map (λ (x : Bor (List ℕ)). x.now) items)
    → get_or (map (λ (x : Bor (List ℕ)). x.now) items) k [] ≡ (get_or xs k d).now
at_place xs items k d same inside =
    get_or-map (λ (x : Bor (List ℕ)). x.now) items k d [] (omega (arith, inside, length-map items (λ (x : Bor (List ℕ)). x.now)))
    ∙ ap (λ (ys : List (Bor (List ℕ))). (get_or ys k d).now) (sym same)

-- ---- one transaction more

pub chained_none : (txs : List (List ℕ)) (earlier latest : List ℕ) → txs ≡ [] → earlier ≡ [] → ((chain : ℕ) → chain < chains → get_or latest chain 0 ≡ 0)
    → IsChained txs earlier latest
chained_none txs earlier latest none no_links no_starts = rw none (rw no_links (record {
  same = refl;
  starts = no_starts;
  leads = λ k inside. absurd (omega (arith, inside));
}))

pub txs_added : (xs items : List (Bor (List ℕ))) (tx : Bor (List ℕ)) → xs ≡ items ++ tx ∷ []
    → map (λ (x : Bor (List ℕ)). x.now) xs ≡ map (λ (x : Bor (List ℕ)). x.now) items ++ tx.now ∷ []
txs_added xs items tx added =
    ap (map (λ (x : Bor (List ℕ)). x.now)) added ∙ map-append (λ (x : Bor (List ℕ)). x.now) items (tx ∷ [])

pub chains_add : (txs : List (List ℕ)) (tx : List ℕ) (earlier latest : List ℕ) (before now : ℕ) → IsChained txs earlier latest
    → length latest ≡ chains → chain_of tx < chains
    → before ≡ get_or latest (chain_of tx) 0 → now ≡ suc (length txs)
    → IsChained (txs ++ tx ∷ []) (earlier ++ before ∷ []) (set latest (chain_of tx) now)
chains_add txs tx earlier latest before now chained wide low is last = record {
  same = omega (arith, length_push txs tx, length_push earlier before, chained.same);
  starts = λ chain inside. lately chain inside (chain_of tx == chain) refl;
  leads = λ k inside. earlier_at k (omega (arith, inside, length_push txs tx));
}
  where
    all : List (List ℕ)
    all = txs ++ tx ∷ []

    here : get_or all (length txs) [] ≡ tx
    here = get_or_push txs tx [] (length txs) refl

    more : length all ≡ suc (length txs)
    more = omega (arith, length_push txs tx)

    before_is : before ≡ last_of (chain_of tx) txs (length txs)
    before_is = is ∙ chained.starts (chain_of tx) low

    lately : (chain : ℕ) → chain < chains → (b : Bool) → (chain_of tx == chain) ≡ b
        → get_or (set latest (chain_of tx) now) chain 0 ≡ last_of chain all (length all)
    lately chain inside true same =
        let at : chain ≡ chain_of tx = sym (eqb-true (chain_of tx) chain same) in
        get_or-set_at latest (chain_of tx) chain now 0 at (omega (arith, low, wide)) ∙ last
        ∙ sym (ap (λ (m : ℕ). last_of chain all m) more
        ∙ ap (λ (x : List ℕ). if chain_of x == chain then suc (length txs) else last_of chain all (length txs)) here
        ∙ ap (λ (b : Bool). if b then suc (length txs) else last_of chain all (length txs)) same)
    lately chain inside false other =
        get_or-set_other latest (chain_of tx) chain now 0 (λ at. both_ways (chain_of tx == chain) other (eq-eqb (chain_of tx) chain (sym at)))
        ∙ chained.starts chain inside
        ∙ sym (ap (λ (m : ℕ). last_of chain all m) more
        ∙ ap (λ (x : List ℕ). if chain_of x == chain then suc (length txs) else last_of chain all (length txs)) here
        ∙ ap (λ (b : Bool). if b then suc (length txs) else last_of chain all (length txs)) other
        ∙ last_front chain txs (tx ∷ []) (length txs) (omega arith))

    earlier_at : (k : ℕ) → k < suc (length txs) → get_or (earlier ++ before ∷ []) k 0 ≡ last_of (chain_of (get_or all k [])) all k
    earlier_at k inside = elim (cases_lt k (length txs)) [
      | inl under ↦
          front_at earlier (before ∷ []) k 0 (omega (arith, under, chained.same)) ∙ chained.leads k under
          ∙ sym (ap (λ (x : List ℕ). last_of (chain_of x) all k) (front_at txs (tx ∷ []) k [] under)
          ∙ last_front (chain_of (get_or txs k [])) txs (tx ∷ []) k (omega (arith, under)))
      | inr over ↦
          let last : k ≡ length txs = omega (arith, inside, over) in
          get_or_push earlier before 0 k (omega (arith, chained.same, last)) ∙ before_is
          ∙ sym (ap (λ (m : ℕ). last_of (chain_of (get_or all m [])) all m) last
          ∙ ap (λ (x : List ℕ). last_of (chain_of x) all (length txs)) here
          ∙ last_front (chain_of tx) txs (tx ∷ []) (length txs) (omega arith))
    ]

-- ---- what was seen, and what stands before

among_front : (txs : List (List ℕ)) (tx other : List ℕ) → is_among txs other ≡ true → is_among (txs ++ tx ∷ []) other ≡ true
among_front txs tx other among =
    list_any-append (bytes_eq other) txs (tx ∷ []) ∙ ap (λ (b : Bool). b || is_among (tx ∷ []) other) among

among_last : (txs : List (List ℕ)) (tx other : List ℕ) → other ≡ tx → is_among (txs ++ tx ∷ []) other ≡ true
among_last txs tx other same =
    list_any_at (bytes_eq other) (txs ++ tx ∷ []) (length txs) [] (omega (arith, length_push txs tx))
    (ap (bytes_eq other) (get_or_push txs tx [] (length txs) refl) ∙ (bytes_decides other tx).1 same)

among_cases : (txs : List (List ℕ)) (tx other : List ℕ) → is_among (txs ++ tx ∷ []) other ≡ true → (is_among txs other ≡ true) ⊎ (other ≡ tx)
among_cases txs tx other among = by (is_among txs other) refl (bytes_eq other tx) refl
  where
    parts : (is_among txs other || (bytes_eq other tx || false)) ≡ true
    parts = sym (list_any-append (bytes_eq other) txs (tx ∷ [])) ∙ among

    by : (b : Bool) → is_among txs other ≡ b → (d : Bool) → bytes_eq other tx ≡ d → (is_among txs other ≡ true) ⊎ (other ≡ tx)
    by true stands d is = inl stands
    by false none true is = inr ((bytes_decides other tx).0 is)
    by false none false is =
        absurd (both_ways (is_among txs other || (bytes_eq other tx || false))
        (ap (λ (b : Bool). b || (bytes_eq other tx || false)) none ∙ ap (λ (b : Bool). b || false) is) parts)

pub seen_known : (room : ℕ) (seen before : List (List ℕ)) (tx : List ℕ) → HasSeen room seen before → is_among before tx ≡ true
    → HasSeen room seen (before ++ tx ∷ [])
seen_known room seen before tx has known = record {
  stands = λ other among. among_front before tx other (has.stands other among);
  all = λ more other among. elim (among_cases before tx other among) [
    | inl stands ↦ has.all more other stands
    | inr same ↦ has.all more other (ap (is_among before) same ∙ known)
  ];
}

-- one that was added
pub seen_more : (room : ℕ) (seen before : List (List ℕ)) (tx : List ℕ) → HasSeen room seen before → HasSeen room (seen ++ tx ∷ []) (before ++ tx ∷ [])
seen_more room seen before tx has = record {
  stands = λ other among. elim (among_cases seen tx other among) [
    | inl stands ↦ among_front before tx other (has.stands other stands)
    | inr same ↦ among_last before tx other same
  ];
  all = λ more other among. elim (among_cases before tx other among) [
    | inl stands ↦ among_front seen tx other (has.all (omega (arith, more, length_push seen tx)) other stands)
    | inr same ↦ among_last seen tx other same
  ];
}

-- one that no longer fits
pub seen_full : (room now : ℕ) (seen before : List (List ℕ)) (tx : List ℕ) → HasSeen room seen before → length seen ≡ now
    → HasSeen now seen (before ++ tx ∷ [])
seen_full room now seen before tx has full = record {
  stands = λ other among. among_front before tx other (has.stands other among);
  all = λ more other among. absurd (omega (arith, more, full));
}

pub seen_none : (room : ℕ) → HasSeen room [] []
seen_none room = record { stands = λ tx among. among; all = λ more tx among. among }

-- what is read at a place that is there
pub read_at : {X : Type 0} (xs : List X) (k : ℕ) (d x : X) → k < length xs → x ≡ get_or xs k x → get_or xs k d ≡ x
read_at [] k d x inside is = absurd (omega (arith, inside))
read_at (y ∷ ys) zero d x inside is = sym is
read_at (y ∷ ys) (suc k) d x inside is = read_at ys k d x (omega (arith, inside)) is

-- there is room where a test of it answers no
pub room_left : (seen room : ℕ) (full : Bool) → (IsTrue full ↔ (room ≤ seen)) → full ≡ false → seen < room
room_left seen room full exact none = elim (cases_lt seen room) [
  | inl less ↦ less
  | inr over ↦ absurd (both_ways full none (exact.1 over))
]

-- no chain has begun where all starts are 0
pub starts_none : {V E : Type 0} (items : V → List ℕ) (made : Result V E) (P : Type 0) → P
    → IfOk made (λ starts. P → items starts ≡ replicate chains 0)
    → IfOk made (λ starts. (chain : ℕ) → chain < chains → get_or (items starts) chain 0 ≡ 0)
starts_none items (Ok starts) P p is = λ chain low. ap (λ (xs : List ℕ). get_or xs chain 0) (is p) ∙ get_or-replicate chains chain 0 0 low
starts_none items (Err e) P p is = tt
