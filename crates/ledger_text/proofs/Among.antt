-- Whether a transaction is among those of some things.
use Rattle.std.proofs.Common.{◌≡◌, ℕ, ◌+◌, ◌<◌, ◌≤◌, ◌||◌, Bool, true, false, bytes_eq, List, [], ◌∷◌, ◌++◌, length, get_or, take, refl, sym, ap, ◌∙◌, arith}
use Rattle.std.specs.List.{list_any, flat_map}
use Rattle.std.proofs.Math.Seq.{take-length}
use Rattle.std.proofs.lemmas.List.{get_or-take, length-take-le}
use Rattle.std.proofs.lemmas.List.Folds.{list_any-append, list_any_more, list_any_at}
use Rattle.tx_pool.specs.Pool.{is_among}

-- one of the things has it
among_any : {X : Type 0} (transactions : X → List (List ℕ)) (xs : List X) (tx : List ℕ)
    → is_among (flat_map transactions xs) tx ≡ list_any (λ (x : X). is_among (transactions x) tx) xs
among_any transactions [] tx = refl
among_any {X} transactions (x ∷ xs) tx =
    list_any-append (bytes_eq tx) (transactions x) (flat_map transactions xs)
    ∙ ap (λ (b : Bool). is_among (transactions x) tx || b) (among_any transactions xs tx)

-- none so far, and not the next
pub among_none : {X : Type 0} (transactions : X → List (List ℕ)) (xs : List X) (tx : List ℕ) (k : ℕ) (x d : X) → k < length xs → x ≡ get_or xs k d
    → is_among (flat_map transactions (take k xs)) tx ≡ false → is_among (transactions x) tx ≡ false
    → is_among (flat_map transactions (take (k + 1) xs)) tx ≡ false
among_none {X} transactions xs tx k x d below is none next =
    let test : X → Bool = λ (y : X). is_among (transactions y) tx in
    let here : test (get_or xs k d) ≡ false = ap test (sym is) ∙ next in
    let so_far : list_any test (take k xs) ≡ false = sym (among_any transactions (take k xs) tx) ∙ none in
    among_any transactions (take (k + 1) xs) tx ∙ list_any_more test xs k d below
    ∙ ap (λ (b : Bool). b || test (get_or xs k d)) so_far ∙ here

-- the next
pub among_one : {X : Type 0} (transactions : X → List (List ℕ)) (xs : List X) (tx : List ℕ) (k count : ℕ) (x d : X) → k < count → count ≤ length xs
    → x ≡ get_or xs k d → is_among (transactions x) tx ≡ true → is_among (flat_map transactions (take count xs)) tx ≡ true
among_one {X} transactions xs tx k count x d low high is next =
    let test : X → Bool = λ (y : X). is_among (transactions y) tx in
    let here : test (get_or (take count xs) k d) ≡ true = ap test (get_or-take count xs k d low ∙ sym is) ∙ next in
    let within : k < length (take count xs) = omega (arith, low, length-take-le count xs high) in
    among_any transactions (take count xs) tx ∙ list_any_at test (take count xs) k d within here

-- ---- transactions by their places

pub none_more : (txs : List (List ℕ)) (tx other : List ℕ) (k : ℕ) → k < length txs → get_or txs k [] ≡ other
    → is_among (take k txs) tx ≡ false → bytes_eq tx other ≡ false → is_among (take (k + 1) txs) tx ≡ false
none_more txs tx other k below is none next =
    list_any_more (bytes_eq tx) txs k [] below ∙ ap (λ (b : Bool). b || bytes_eq tx (get_or txs k [])) none ∙ ap (bytes_eq tx) is ∙ next

pub one_found : (txs : List (List ℕ)) (tx other : List ℕ) (k count : ℕ) → k < count → count ≤ length txs → get_or txs k [] ≡ other
    → bytes_eq tx other ≡ true → is_among (take count txs) tx ≡ true
one_found txs tx other k count low high is same =
    let here : bytes_eq tx (get_or (take count txs) k []) ≡ true = ap (bytes_eq tx) (get_or-take count txs k [] low ∙ is) ∙ same in
    list_any_at (bytes_eq tx) (take count txs) k [] (omega (arith, low, length-take-le count txs high)) here

-- ---- before a transaction

either : (a b d : Bool) → ((a || b) || d) ≡ (a || (b || d))
either true b d = refl
either false b d = refl

pub among_parts : (lists batches txs : List (List ℕ)) (tx : List ℕ)
    → is_among ((lists ++ batches) ++ txs) tx ≡ (is_among lists tx || (is_among batches tx || is_among txs tx))
among_parts lists batches txs tx =
    list_any-append (bytes_eq tx) (lists ++ batches) txs
    ∙ ap (λ (b : Bool). b || is_among txs tx) (list_any-append (bytes_eq tx) lists batches)
    ∙ either (is_among lists tx) (is_among batches tx) (is_among txs tx)

pub take_all : {X : Type 0} (xs : List X) (count : ℕ) → count ≡ length xs → take count xs ≡ xs
take_all xs count all = ap (λ (k : ℕ). take k xs) all ∙ take-length xs
