-- The deal of the common coins: what a trusted dealer draws for a run. A coin is a secret shared among the nodes
-- (Shamir, How to Share a Secret, CACM 1979), and its share of each node is a leaf of a Merkle tree whose root is
-- published. All that is drawn are words of the key stream of ChaCha20 (RFC 8439).
-- Letters: c is the numbers of a run, e an epoch, j a lane, r a round, m a node.
use Rattle.std.specs.Prelude.{ℕ, ◌<◌, ◌+◌, ◌*◌, ◌%◌, ◌==◌, Bool, List, ◌∷◌, ◌++◌, map}
use Rattle.std.specs.Int.{w32, to_le_bytes}
use Rattle.std.specs.List.{range_with_len}
use Rattle.seed_words.specs.Words.{word}
use Rattle.gf_field.specs.Polynomial.{polynomial_at}
use Rattle.merkle_branch.specs.Digests.{tree_root}
use Rattle.hb_base.specs.Numbers.{Numbers}

-- a coin of the run
pub record IsCoin (c : Numbers) (e j r : ℕ) : Type 0 where
  pub epoch : e < c.epochs
  pub lane : j < c.n
  pub round : r < c.rounds

-- the word of the seed at a place; zero bytes fill the key
abbrev pub dealt_word : ℕ → ℕ → ℕ
dealt_word seed place = word seed 0 place

-- how many words a coin takes: one for each coefficient, and four for the salt of each node
abbrev pub coin_words : Numbers → ℕ
coin_words c = c.f + 1 + 4 * c.n

-- where the words of a coin begin: the coins lie one behind the other, by epoch, then lane, then round
abbrev pub coin_place : Numbers → ℕ → ℕ → ℕ → ℕ
coin_place c e j r = ((e * c.n + j) * c.rounds + r) * coin_words c

-- the low bytes of the first f + 1 words are the coefficients of the coin's polynomial, the lowest first
abbrev pub coefficients : Numbers → ℕ → ℕ → ℕ → List ℕ
coefficients c e j r = map (λ i. dealt_word c.seed (coin_place c e j r + i) % 256) (range_with_len 0 (c.f + 1))

-- the salt of a node: the next four words for each node, each with its least byte first
abbrev pub salt : Numbers → ℕ → ℕ → ℕ → ℕ → List ℕ
salt c e j r m = salt_at (coin_place c e j r + (c.f + 1) + 4 * m)
  where
    salt_at : ℕ → List ℕ
    salt_at place =
        to_le_bytes w32 (dealt_word c.seed place) ++ to_le_bytes w32 (dealt_word c.seed (place + 1))
        ++ to_le_bytes w32 (dealt_word c.seed (place + 2)) ++ to_le_bytes w32 (dealt_word c.seed (place + 3))

-- node m stands at the point m + 1, and its share is the polynomial's value there
abbrev pub share : Numbers → ℕ → ℕ → ℕ → ℕ → ℕ
share c e j r m = polynomial_at (coefficients c e j r) (m + 1)

-- the leaf of a node: its share, and the salt that hides it
abbrev pub coin_leaf : Numbers → ℕ → ℕ → ℕ → ℕ → List ℕ
coin_leaf c e j r m = share c e j r m ∷ salt c e j r m

abbrev pub coin_leaves : Numbers → ℕ → ℕ → ℕ → List (List ℕ)
coin_leaves c e j r = map (coin_leaf c e j r) (range_with_len 0 c.n)

-- the published root
abbrev pub coin_root : Numbers → ℕ → ℕ → ℕ → List ℕ
coin_root c e j r = tree_root (coin_leaves c e j r)

-- the low bit of a secret
abbrev pub coin_of : ℕ → Bool
coin_of secret = secret % 2 == 1

-- the secret is the polynomial's value at 0, and the coin is its low bit
abbrev pub dealt_coin : Numbers → ℕ → ℕ → ℕ → Bool
dealt_coin c e j r = coin_of (polynomial_at (coefficients c e j r) 0)
