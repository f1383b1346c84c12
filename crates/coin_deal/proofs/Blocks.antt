-- Blocks of one size that lie one behind the other.
use Rattle.std.proofs.Common.{◌≡◌, ℕ, ◌+◌, ◌*◌, ◌-◌, ◌<◌, ◌≤◌, List, ◌++◌, length, take, drop, ap, ◌∙◌, arith}
use Rattle.std.proofs.lemmas.List.{length-drop, drop_at, drop-append-le, take-append-le, take_all, take_rest}
use Rattle.std.proofs.Math.Nat.{mul-le-mul_right}

-- a block ends before the next one begins
pub block_within : (k count w : ℕ) → k < count → k * w + w ≤ count * w
block_within k count w h = let le : (k + 1) * w ≤ count * w = mul-le-mul_right w (omega arith) in omega arith

-- the blocks stay where others are put behind them
pub block_kept : {X : Type 0} (xs ys : List X) (k count w : ℕ) → length xs ≡ count * w → k < count → take w (drop (k * w) (xs ++ ys)) ≡ take w (drop (k * w) xs)
block_kept xs ys k count w size h =
    let fits : k * w + w ≤ count * w = block_within k count w h in
    ap (take w) (drop-append-le (k * w) xs ys (omega arith))
    ∙ take-append-le w (drop (k * w) xs) ys (omega (arith, length-drop (k * w) xs))

-- and the one behind them is the last
pub block_last : {X : Type 0} (xs ys : List X) (k w : ℕ) → length xs ≡ k * w → length ys ≡ w → take w (drop (k * w) (xs ++ ys)) ≡ ys
block_last xs ys k w size one = ap (take w) (drop_at xs ys (k * w) size) ∙ take_all w ys (omega arith)

-- a block's end in a list that is filled
pub block_inside : {X : Type 0} (now xs : List X) (k count w width : ℕ) → length xs ≡ count * w → now ≡ xs → width ≡ w → k < count → k * width + width ≤ length now
block_inside now xs k count w width size is same h =
    let all : length now ≡ count * w = ap length is ∙ size in
    rw (same, all) (block_within k count w h)

-- what is read where a block lies
pub block_read : {X : Type 0} (now xs block : List X) (number k w width : ℕ) → now ≡ xs → width ≡ w → number ≡ k → take w (drop (k * w) xs) ≡ block
    → take (number * width + width - number * width) (drop (number * width) now) ≡ block
block_read now xs block number k w width is same at e =
    let long : number * width + width - number * width ≡ width = omega arith in
    rw (long, same, at, is) e

-- what is read from where a block lies to the end
pub tail_read : {X : Type 0} (now xs ys : List X) (k w width : ℕ) → now ≡ xs ++ ys → length xs ≡ k * w → width ≡ w
    → take (length now - k * width) (drop (k * width) now) ≡ ys
tail_read now xs ys k w width is size same =
    take_rest now (k * width) ∙ ap (λ n. drop (k * n) now) same ∙ ap (drop (k * w)) is ∙ drop_at xs ys (k * w) size
