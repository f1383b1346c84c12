-- The coins by their numbers.
use Rattle.std.proofs.Common.{◌≡◌, ℕ, ◌+◌, ◌*◌, ◌<◌, ◌≤◌, List, [], ◌∷◌, ◌++◌, length, get_or, take, drop, map, ap, ap₂, ◌∙◌, subst, arith, below_more, length-append}
use Rattle.std.specs.List.{range_with_len}
use Rattle.std.proofs.lemmas.List.FromFn.{fill_by_all, length-map-range_with_len, get_or-map-range_with_len}
use Rattle.rand_chacha.specs.ChaCha.{ChaCha}
use Rattle.gf_field.specs.Polynomial.{polynomial_at}
use Rattle.hb_base.specs.Numbers.{Numbers}
use Rattle.coin_deal.specs.Deal.{coefficients, salt, coin_leaf, coin_leaves, coin_words}
use Rattle.seed_words.specs.Words.{words_from, moved_by}
use Rattle.coin_deal.specs.Drawing.{next_bytes, next_fours}
use Rattle.coin_deal.specs.Holding.{coin_number, coin_count, coin_salts, leaves_with, HoldsAllCoins}
use Rattle.coin_deal.proofs.Blocks.{block_within, block_kept, block_last}

-- the generator where the words of coin k begin, and what is drawn there
abbrev pub start : Numbers → ℕ → ChaCha
start c k = words_from c.seed 0 (k * coin_words c)

abbrev pub coefficients_by : Numbers → ℕ → List ℕ
coefficients_by c k = next_bytes (start c k) (c.f + 1)

abbrev pub salts_by : Numbers → ℕ → List (List ℕ)
salts_by c k = next_fours (moved_by (start c k) (c.f + 1)) c.n

-- the lists hold the coins below count
pub record HoldsCoins (c : Numbers) (count : ℕ) (cs : List ℕ) (salts : List (List ℕ)) : Type 0 where
  pub coefficients_fill : length cs ≡ count * (c.f + 1)
  pub salts_fill : length salts ≡ count * c.n
  pub are_coefficients : (k : ℕ) → k < count → take (c.f + 1) (drop (k * (c.f + 1)) cs) ≡ coefficients_by c k
  pub are_salts : (k : ℕ) → k < count → take c.n (drop (k * c.n) salts) ≡ salts_by c k

module _ (c : Numbers) (count : ℕ) (cs : List ℕ) (salts : List (List ℕ)) (held : HoldsCoins c count cs salts) where
  next_coefficients : length (coefficients_by c count) ≡ c.f + 1
  next_coefficients = length-map-range_with_len _ 0 (c.f + 1)

  next_salts : length (salts_by c count) ≡ c.n
  next_salts = length-map-range_with_len _ 0 c.n

  -- one coin more
  pub holds_more : HoldsCoins c (count + 1) (cs ++ coefficients_by c count) (salts ++ salts_by c count)
  holds_more = record {
    coefficients_fill = omega (arith, length-append cs (coefficients_by c count), next_coefficients, held.coefficients_fill);
    salts_fill = omega (arith, length-append salts (salts_by c count), next_salts, held.salts_fill);
    are_coefficients = below_more _ _
        (λ k h. block_kept cs (coefficients_by c count) k count (c.f + 1) held.coefficients_fill h ∙ held.are_coefficients k h)
        (block_last cs (coefficients_by c count) count (c.f + 1) held.coefficients_fill next_coefficients);
    are_salts = below_more _ _
        (λ k h. block_kept salts (salts_by c count) k count c.n held.salts_fill h ∙ held.are_salts k h)
        (block_last salts (salts_by c count) count c.n held.salts_fill next_salts);
  }

-- the leaves over salts that are given node by node
leaves_are : (cs : List ℕ) (s : ℕ → List ℕ) (n : ℕ) → leaves_with cs (map s (range_with_len 0 n)) ≡ map (λ m. polynomial_at cs (m + 1) ∷ s m) (range_with_len 0 n)
leaves_are cs s n =
    let salts = map s (range_with_len 0 n) in
    let count : length salts ≡ n = length-map-range_with_len s 0 n in
    let leaf = λ (m : ℕ). polynomial_at cs (m + 1) ∷ get_or salts m [] in
    fill_by_all (λ m. polynomial_at cs (m + 1) ∷ s m) (leaves_with cs salts) n [] (length-map-range_with_len leaf 0 (length salts) ∙ count)
    (λ k h. get_or-map-range_with_len leaf 0 (length salts) k k [] (omega arith) (omega arith)
    ∙ ap (◌∷◌ (polynomial_at cs (k + 1))) (get_or-map-range_with_len s 0 n k k [] h (omega arith)))

pub coin_leaves_are : (c : Numbers) (e j r : ℕ) → leaves_with (coefficients c e j r) (coin_salts c e j r) ≡ coin_leaves c e j r
coin_leaves_are c e j r = leaves_are (coefficients c e j r) (salt c e j r) c.n

pub number_within : (c : Numbers) (e j r : ℕ) → e < c.epochs → j < c.n → r < c.rounds → coin_number c e j r < coin_count c
number_within c e j r he hj hr =
    let lanes : e * c.n + c.n ≤ c.epochs * c.n = block_within e c.epochs c.n he in
    let rounds : (e * c.n + j) * c.rounds + c.rounds ≤ c.epochs * c.n * c.rounds = block_within (e * c.n + j) (c.epochs * c.n) c.rounds (omega arith) in
    omega arith

pub holds_all : (c : Numbers) (cs : List ℕ) (salts : List (List ℕ)) (cells : ℕ) → cells ≡ coin_count c → HoldsCoins c (coin_count c) cs salts → HoldsAllCoins c cs salts cells
holds_all c cs salts cells fill held = record {
  coefficients_fill = held.coefficients_fill;
  salts_fill = held.salts_fill;
  cells_fill = fill;
  are_coefficients = λ e j r h. held.are_coefficients (coin_number c e j r) (number_within c e j r h.epoch h.lane h.round);
  are_salts = λ e j r h. held.are_salts (coin_number c e j r) (number_within c e j r h.epoch h.lane h.round);
}

-- what is held of equal numbers
pub held : (c now : Numbers) (cs : List ℕ) (salts : List (List ℕ)) (cells : ℕ) → c ≡ now → HoldsAllCoins c cs salts cells → HoldsAllCoins now cs salts cells
held c now cs salts cells e h = subst (λ c. HoldsAllCoins c cs salts cells) e h

-- the words of one coin end where those of the next one begin
pub start_next : (c : Numbers) (k : ℕ) → moved_by (moved_by (start c k) (c.f + 1)) (4 * c.n) ≡ start c (k + 1)
start_next c k = let next : k * coin_words c + (c.f + 1) + 4 * c.n ≡ (k + 1) * coin_words c = omega arith in ap (words_from c.seed 0) next

-- what is drawn there
pub drawn_coefficients : (c : Numbers) (k width : ℕ) (words : ChaCha) (old new : List ℕ) → words ≡ start c k → width ≡ c.f + 1
    → new ≡ old ++ next_bytes words width → new ≡ old ++ coefficients_by c k
drawn_coefficients c k width words old new at same is = is ∙ ap₂ (λ (g : ChaCha) n. old ++ next_bytes g n) at same

pub drawn_salts : (c : Numbers) (k width n : ℕ) (words between : ChaCha) (old new : List (List ℕ)) → words ≡ start c k → width ≡ c.f + 1
    → between ≡ moved_by words width → n ≡ c.n → new ≡ old ++ next_fours between n → new ≡ old ++ salts_by c k
drawn_salts c k width n words between old new at same moved count is =
    is ∙ ap₂ (λ (g : ChaCha) n. old ++ next_fours g n) (moved ∙ ap₂ moved_by at same) count

pub drawn_all : (c : Numbers) (k width n : ℕ) (words between after : ChaCha) → words ≡ start c k → width ≡ c.f + 1
    → between ≡ moved_by words width → n ≡ c.n → after ≡ moved_by between (4 * n) → after ≡ start c (k + 1)
drawn_all c k width n words between after at same moved count is =
    is ∙ ap₂ (λ (g : ChaCha) n. moved_by g (4 * n)) (moved ∙ ap₂ moved_by at same) count ∙ start_next c k

-- as many leaves as nodes
pub length-coin_leaves : (c : Numbers) (e j r : ℕ) → length (coin_leaves c e j r) ≡ c.n
length-coin_leaves c e j r = length-map-range_with_len (coin_leaf c e j r) 0 c.n

-- a node's leaf, and its salt
pub leaf_at : (c : Numbers) (e j r m : ℕ) → m < c.n → get_or (coin_leaves c e j r) m [] ≡ coin_leaf c e j r m
leaf_at c e j r m h = get_or-map-range_with_len (coin_leaf c e j r) 0 c.n m m [] h (omega arith)

pub salt_at : (c : Numbers) (e j r m : ℕ) (salts : List (List ℕ)) → salts ≡ coin_salts c e j r → m < c.n → get_or salts m [] ≡ salt c e j r m
salt_at c e j r m salts are h = ap (λ ss. get_or ss m []) are ∙ get_or-map-range_with_len (salt c e j r) 0 c.n m m [] h (omega arith)

-- the leaves depend on some numbers of the run alone
pub same_leaves : (c d : Numbers) (e j r e' j' r' : ℕ) → c.n ≡ d.n → c.f ≡ d.f → c.rounds ≡ d.rounds → c.seed ≡ d.seed → e ≡ e' → j ≡ j' → r ≡ r'
    → coin_leaves c e j r ≡ coin_leaves d e' j' r'
same_leaves c d e j r e' j' r' n f rounds seed epoch lane round = rw (n, f, rounds, seed, epoch, lane, round)
