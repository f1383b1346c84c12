-- What a deal keeps: lists in which the coins lie one behind the other.
use Rattle.std.specs.Prelude.{◌≡◌, ℕ, ◌+◌, ◌*◌, List, [], ◌∷◌, length, take, drop, map, slice_index_or}
use Rattle.std.specs.List.{range_with_len}
use Rattle.gf_field.specs.Polynomial.{polynomial_at}
use Rattle.hb_base.specs.Numbers.{Numbers}
use Rattle.coin_deal.specs.Deal.{IsCoin, coefficients, salt}

-- how many coins stand before it, and how many there are
abbrev pub coin_number : Numbers → ℕ → ℕ → ℕ → ℕ
coin_number c e j r = (e * c.n + j) * c.rounds + r

abbrev pub coin_count : Numbers → ℕ
coin_count c = c.epochs * c.n * c.rounds

-- the salts of a coin, node by node
abbrev pub coin_salts : Numbers → ℕ → ℕ → ℕ → List (List ℕ)
coin_salts c e j r = map (salt c e j r) (range_with_len 0 c.n)

-- the leaves that coefficients and salts give
abbrev pub leaves_with : List ℕ → List (List ℕ) → List (List ℕ)
leaves_with cs salts = map (λ m. polynomial_at cs (m + 1) ∷ slice_index_or salts m []) (range_with_len 0 (length salts))

-- the coefficients and the salts are those of all coins of the run, coin by coin, and there are as many cells for trees
pub record HoldsAllCoins (c : Numbers) (all_coefficients : List ℕ) (all_salts : List (List ℕ)) (cells : ℕ) : Type 0 where
  pub coefficients_fill : length all_coefficients ≡ coin_count c * (c.f + 1)
  pub salts_fill : length all_salts ≡ coin_count c * c.n
  pub cells_fill : cells ≡ coin_count c
  pub are_coefficients : (e j r : ℕ) → IsCoin c e j r → take (c.f + 1) (drop (coin_number c e j r * (c.f + 1)) all_coefficients) ≡ coefficients c e j r
  pub are_salts : (e j r : ℕ) → IsCoin c e j r → take c.n (drop (coin_number c e j r * c.n) all_salts) ≡ coin_salts c e j r
