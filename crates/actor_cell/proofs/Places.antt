-- Where mailboxes stand.
use Rattle.std.proofs.Common.{◌≡◌, ℕ, zero, suc, ◌+◌, ◌-◌, ◌<◌, ◌≤◌, Bool, true, false, List, [], ◌∷◌, ◌++◌, length, map, Some, refl, sym, ap, ◌∙◌, arith, get_or, slice_get, length-append, cond}
use Rattle.std.specs.List.{flat_map, range_with_len}
use Rattle.std.proofs.lemmas.List.{append-nil, get_or-append-add, get_or_append_left}
use Rattle.std.proofs.lemmas.List.FromFn.{length-map-range_with_len, get_or-map-range_with_len, map-range_with_len_more}
use Rattle.std.proofs.lemmas.Grind.{flat_map-append}
use Rattle.std.proofs.lemmas.Option.{slice_get-get_or}
use Rattle.hb_base.specs.Numbers.{Numbers}
use Rattle.hb_base.specs.NodeSet.{is_in}
use Rattle.actor_cell.specs.Boxes.{owners, owners_at, owners_below, owner_of, place_of, firsts_below}

range_split : (a m k : ℕ) → range_with_len a (m + k) ≡ range_with_len a m ++ range_with_len (a + m) k
range_split a zero k =
    let all : zero + k ≡ k = omega arith in
    let here : a + zero ≡ a = omega arith in
    ap (λ (j : ℕ). range_with_len a j) all ∙ ap (λ (s : ℕ). range_with_len s k) (sym here)
range_split a (suc m) k =
    let all : suc m + k ≡ suc (m + k) = omega arith in
    let here : a + 1 + m ≡ a + suc m = omega arith in
    ap (λ (j : ℕ). range_with_len a j) all ∙ ap (λ (xs : List ℕ). a ∷ xs) (range_split (a + 1) m k)
    ∙ ap (λ (s : ℕ). range_with_len a (suc m) ++ range_with_len s k) here

pub range_more : (k : ℕ) → range_with_len 0 (k + 1) ≡ range_with_len 0 k ++ k ∷ []
range_more k = let here : 0 + k ≡ k = omega arith in range_split 0 k 1 ∙ ap (λ (s : ℕ). range_with_len 0 k ++ s ∷ []) here

-- the mailboxes of the nodes up to one of them, and of those behind it
owners_split : (c : Numbers) (n i k : ℕ) → n ≡ i + suc k → owners_below c n ≡ owners_below c i ++ (owners_at c i ++ flat_map (owners_at c) (range_with_len (i + 1) k))
owners_split c n i k is =
    let here : 0 + i ≡ i = omega arith in
    ap (λ (m : ℕ). owners_below c m) is ∙ ap (λ (is : List ℕ). flat_map (owners_at c) is) (range_split 0 i (suc k))
    ∙ flat_map-append (owners_at c) (range_with_len 0 i) (range_with_len (0 + i) (suc k))
    ∙ ap (λ (j : ℕ). owners_below c i ++ flat_map (owners_at c) (range_with_len j (suc k))) here

-- one node more
pub owners_more : (c : Numbers) (i : ℕ) → owners_below c (i + 1) ≡ owners_below c i ++ owners_at c i
owners_more c i = owners_split c (i + 1) i 0 (omega arith) ∙ ap (λ (rest : List (ℕ × ℕ)). owners_below c i ++ rest) (append-nil (owners_at c i))

pub firsts_more : (c : Numbers) (i : ℕ) → firsts_below c (i + 1) ≡ firsts_below c i ++ length (owners_below c i) ∷ []
firsts_more c i = map-range_with_len_more (λ a. length (owners_below c a)) 0 i i (omega arith)

-- ---- one node's mailboxes

-- those of node i, among n nodes, where it lies or not
abbrev pub row : Bool → ℕ → ℕ → List (ℕ × ℕ)
row lies n i = cond lies ((i, 0) ∷ []) (map (λ x. (i, x)) (range_with_len 0 (n + 1)))

abbrev pair : ℕ → ℕ → ℕ × ℕ
pair i x = (i, x)

pairs_length : (i n : ℕ) → length (map (λ (x : ℕ). pair i x) (range_with_len 0 (n + 1))) ≡ n + 1
pairs_length i n = length-map-range_with_len (pair i) 0 (n + 1)

row_within : (lies : Bool) (n i x : ℕ) → x ≤ n → cond lies 0 x < length (row lies n i)
row_within true n i x known = omega arith
row_within false n i x known = omega (arith, known, pairs_length i n)

row_at : (lies : Bool) (n i x : ℕ) (d : ℕ × ℕ) → x ≤ n → get_or (row lies n i) (cond lies 0 x) d ≡ (i, cond lies 0 x)
row_at true n i x d known = refl
row_at false n i x d known = get_or-map-range_with_len (pair i) 0 (n + 1) x x d (omega (arith, known)) (omega arith)

pub row_length : (lies : Bool) (n i : ℕ) → length (row lies n i) ≡ cond lies 1 (n + 1)
row_length true n i = refl
row_length false n i = pairs_length i n

-- ---- one actor's mailbox

pub place_within : (c : Numbers) (i x : ℕ) → i < c.n → x ≤ c.n → place_of c i x < length (owners c)
place_within c i x node actor =
    let rest : List (ℕ × ℕ) = flat_map (owners_at c) (range_with_len (i + 1) (c.n - i - 1)) in
    omega (
      arith,
      ap length (owners_split c c.n i (c.n - i - 1) (omega (arith, node))),
      length-append (owners_below c i) (owners_at c i ++ rest),
      length-append (owners_at c i) rest,
      row_within (is_in c.liars i) c.n i x actor,
    )

pub place_stands : (c : Numbers) (i x : ℕ) → i < c.n → x ≤ c.n → slice_get (owners c) (place_of c i x) ≡ Some (owner_of c i x)
place_stands c i x node actor =
    let rest : List (ℕ × ℕ) = flat_map (owners_at c) (range_with_len (i + 1) (c.n - i - 1)) in
    let d : ℕ × ℕ = (0, 0) in
    slice_get-get_or (owners c) (place_of c i x) d (place_within c i x node actor) ∙ ap (λ (owner : ℕ × ℕ). Some owner)
    (ap (λ (all : List (ℕ × ℕ)). get_or all (place_of c i x) d) (owners_split c c.n i (c.n - i - 1) (omega (arith, node)))
    ∙ get_or-append-add (owners_below c i) (owners_at c i ++ rest) (cond (is_in c.liars i) 0 x) d
    ∙ get_or_append_left (owners_at c i) rest d (cond (is_in c.liars i) 0 x) (row_within (is_in c.liars i) c.n i x actor)
    ∙ row_at (is_in c.liars i) c.n i x d actor)

-- where the first mailbox of a node stands
pub first_at : (c : Numbers) (n i d : ℕ) → i < n → get_or (firsts_below c n) i d ≡ length (owners_below c i)
first_at c n i d known = get_or-map-range_with_len (λ a. length (owners_below c a)) 0 n i i d known (omega arith)

pub firsts_length : (c : Numbers) (n : ℕ) → length (firsts_below c n) ≡ n
firsts_length c n = length-map-range_with_len (λ a. length (owners_below c a)) 0 n

-- as it is computed, at a node that lies and at another
pub place_lies : (c : Numbers) (firsts : List ℕ) (i x first : ℕ) → firsts ≡ firsts_below c c.n → first ≡ get_or firsts i first → i < c.n → true ≡ is_in c.liars i
    → first ≡ place_of c i x
place_lies c firsts i x first are is known lies =
    let here : first ≡ length (owners_below c i) = is ∙ ap (λ (all : List ℕ). get_or all i first) are ∙ first_at c c.n i first known in
    omega (arith, here, ap (λ (b : Bool). cond b 0 x) lies)

pub place_honest : (c : Numbers) (firsts : List ℕ) (i x first : ℕ) → firsts ≡ firsts_below c c.n → first ≡ get_or firsts i first → i < c.n → false ≡ is_in c.liars i
    → first + x ≡ place_of c i x
place_honest c firsts i x first are is known honest =
    let here : first ≡ length (owners_below c i) = is ∙ ap (λ (all : List ℕ). get_or all i first) are ∙ first_at c c.n i first known in
    omega (arith, here, ap (λ (b : Bool). cond b 0 x) honest)
