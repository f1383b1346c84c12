-- Sums of polynomials over bits, and what follows for every byte from the eight powers of two.
use Rattle.std.proofs.Common.{◌≡◌, ℕ, zero, suc, ◌+◌, ◌-◌, ◌*◌, ◌^◌, ◌%◌, ◌<◌, Bool, true, false, ◌&&◌, refl, sym, ap, ap₂, ◌∙◌, subst, arith, bit_xor, not-suc-le-zero, le_of_suc-le-suc}
use Rattle.std.proofs.lemmas.Bool.{cases_lt, false≢true}
use Rattle.std.proofs.Math.Nat.{zero-mul, one-mul, add-zero, pow-suc}
use Rattle.std.specs.Int.{bit_at}
use Rattle.std.proofs.lemmas.Nat.Bits.{bit_at_xor, bit_at-lt}
use Rattle.std.proofs.lemmas.Nat.{pow_pos}
use Rattle.std.proofs.Common.{⊎_elim}
use lib.Bits.{xor_comm, xor_assoc, xor_zero_r, xor_self, xor_shifted, xor_block}

pub xor_swap : (a b c d : ℕ) → bit_xor (bit_xor a b) (bit_xor c d) ≡ bit_xor (bit_xor a c) (bit_xor b d)
xor_swap a b c d =
    xor_assoc a b (bit_xor c d)
    ∙ ap (bit_xor a) (sym (xor_assoc b c d) ∙ ap (λ x. bit_xor x d) (xor_comm b c) ∙ xor_assoc c b d)
    ∙ sym (xor_assoc a c (bit_xor b d))

-- a fact of the two bits follows from its two cases
pub bit_cases : (P : ℕ → Type 0) → P 0 → P 1 → (x : ℕ) → x < 2 → P x
bit_cases P p q zero h = p
bit_cases P p q (suc zero) h = q
bit_cases P p q (suc (suc r)) h = absurd (not-suc-le-zero (le_of_suc-le-suc (le_of_suc-le-suc h)))

-- a bit times a sum
pub bit-mul-xor : (x u v : ℕ) → x < 2 → x * bit_xor u v ≡ bit_xor (x * u) (x * v)
bit-mul-xor x u v h =
    bit_cases (λ x. x * bit_xor u v ≡ bit_xor (x * u) (x * v))
    (zero-mul (bit_xor u v) ∙ sym (ap₂ bit_xor (zero-mul u) (zero-mul v)))
    (one-mul (bit_xor u v) ∙ sym (ap₂ bit_xor (one-mul u) (one-mul v)))
    x h

-- the sum of two bits, times a polynomial
bits-mul : (x y c : ℕ) → x < 2 → y < 2 → ((x + y) % 2) * c ≡ bit_xor (x * c) (y * c)
bits-mul x y c hx hy =
    bit_cases (λ x. ((x + y) % 2) * c ≡ bit_xor (x * c) (y * c))
    (bit_cases (λ y. ((0 + y) % 2) * c ≡ bit_xor (0 * c) (y * c))
    (zero-mul c ∙ sym (ap₂ bit_xor (zero-mul c) (zero-mul c)))
    (sym (ap (λ z. bit_xor z (1 * c)) (zero-mul c))) y hy)
    (bit_cases (λ y. ((1 + y) % 2) * c ≡ bit_xor (1 * c) (y * c))
    (sym (ap (bit_xor (1 * c)) (zero-mul c) ∙ xor_zero_r (1 * c)))
    (zero-mul c ∙ sym (xor_self (1 * c))) y hy)
    x hx

-- one place of a sum, times a polynomial
pub place-mul-xor : (a b i c : ℕ) → bit_at (bit_xor a b) i * c ≡ bit_xor (bit_at a i * c) (bit_at b i * c)
place-mul-xor a b i c =
    ap (λ x. x * c) (bit_at_xor a b i) ∙ bits-mul (bit_at a i) (bit_at b i) c (bit_at-lt a i) (bit_at-lt b i)

-- a sum, moved up by i places
pub xor-shift : (a b i : ℕ) → bit_xor a b * 2 ^ i ≡ bit_xor (a * 2 ^ i) (b * 2 ^ i)
xor-shift a b i =
    let some : 0 < 2 ^ i = pow_pos i in
    sym (add-zero (bit_xor a b * 2 ^ i)) ∙ sym (xor_block i a b 0 0 some some)
    ∙ ap₂ bit_xor (add-zero (a * 2 ^ i)) (add-zero (b * 2 ^ i))

-- What holds of 0 and of each power of two below 2 ^ k, and of a sum where it holds of both parts, holds below 2 ^ k.
pub from_places : (P : ℕ → Type 0) → P 0 → ((x y : ℕ) → P x → P y → P (bit_xor x y)) → (k : ℕ) → ((i : ℕ) → i < k → P (2 ^ i)) → (a : ℕ) → a < 2 ^ k → P a
from_places P none sums zero places a h = let e : 0 ≡ a = omega arith in subst P e none
from_places P none sums (suc k) places a h =
    let lower : (b : ℕ) → b < 2 ^ k → P b = from_places P none sums k (λ i l. places i (omega arith)) in
    ⊎_elim (λ l. lower a l)
    (λ l.
    let rest : a - 2 ^ k < 2 ^ k = omega (arith, pow-suc 2 k) in
    let whole : bit_xor (1 * 2 ^ k) (a - 2 ^ k) ≡ a = xor_shifted 1 k (a - 2 ^ k) rest ∙ omega arith in
    subst P whole (sums (1 * 2 ^ k) (a - 2 ^ k) (subst P (sym (one-mul (2 ^ k))) (places k (omega arith))) (lower (a - 2 ^ k) rest)))
    (cases_lt a (2 ^ k))

-- a test of each number below n, which the checker computes
abbrev pub passes_below : (ℕ → Bool) → ℕ → Bool
passes_below p zero = true
passes_below p (suc n) = p n && passes_below p n

pub both : (a b : Bool) → (a && b) ≡ true → (a ≡ true) × (b ≡ true)
both true b h = (refl, h)
both false b h = (h, absurd (false≢true h))

pub passes : (p : ℕ → Bool) (n : ℕ) → passes_below p n ≡ true → (i : ℕ) → i < n → p i ≡ true
passes p zero h i lt = absurd (not-suc-le-zero lt)
passes p (suc n) h i lt =
    let parts : (p n ≡ true) × (passes_below p n ≡ true) = both (p n) (passes_below p n) h in
    ⊎_elim (λ l. passes p n parts.1 i l)
    (λ l. let e : n ≡ i = omega arith in subst (λ x. p x ≡ true) e parts.0)
    (cases_lt i n)
