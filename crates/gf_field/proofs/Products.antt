-- The product is additive in each factor, so a law of products needs to be seen only at the powers of two.
use Rattle.std.proofs.Common.{◌≡◌, ℕ, zero, suc, ◌+◌, ◌*◌, ◌^◌, ◌<◌, Bool, true, ◌==◌, nat_lt, refl, sym, ap, ap₂, ◌∙◌, subst, arith, bit_xor}
use Rattle.std.specs.Int.{bit_at}
use Rattle.std.proofs.lemmas.Nat.Bits.{bit_at-lt}
use lib.Bits.{xor_self, xor_lt}
use Rattle.std.proofs.lemmas.Bool.{eqb-true, ltb-true}
use Rattle.gf_field.specs.Field.{field_product, unreduced_product, remainder}
use Rattle.gf_field.proofs.Sums.{xor_swap, bit-mul-xor, place-mul-xor, xor-shift, from_places, passes_below, passes}

unreduced_product-sum_left : (n a b c : ℕ) → unreduced_product n (bit_xor a b) c ≡ bit_xor (unreduced_product n a c) (unreduced_product n b c)
unfolding unreduced_product
unreduced_product-sum_left zero a b c = refl
unreduced_product-sum_left (suc i) a b c =
    ap₂ bit_xor (unreduced_product-sum_left i a b c) (place-mul-xor a b i (c * 2 ^ i))
    ∙ xor_swap (unreduced_product i a c) (unreduced_product i b c) (bit_at a i * (c * 2 ^ i)) (bit_at b i * (c * 2 ^ i))

unreduced_product-sum_right : (n a b c : ℕ) → unreduced_product n a (bit_xor b c) ≡ bit_xor (unreduced_product n a b) (unreduced_product n a c)
unfolding unreduced_product
unreduced_product-sum_right zero a b c = refl
unreduced_product-sum_right (suc i) a b c =
    ap₂ bit_xor (unreduced_product-sum_right i a b c)
    (ap (λ x. bit_at a i * x) (xor-shift b c i) ∙ bit-mul-xor (bit_at a i) (b * 2 ^ i) (c * 2 ^ i) (bit_at-lt a i))
    ∙ xor_swap (unreduced_product i a b) (unreduced_product i a c) (bit_at a i * (b * 2 ^ i)) (bit_at a i * (c * 2 ^ i))

remainder-sum : (n a b : ℕ) → remainder n (bit_xor a b) ≡ bit_xor (remainder n a) (remainder n b)
unfolding remainder
remainder-sum zero a b = refl
remainder-sum (suc i) a b =
    let m = 0x11D * 2 ^ i in
    ap (remainder i)
    (ap (bit_xor (bit_xor a b)) (place-mul-xor a b (8 + i) m)
    ∙ xor_swap a b (bit_at a (8 + i) * m) (bit_at b (8 + i) * m))
    ∙ remainder-sum i (bit_xor a (bit_at a (8 + i) * m)) (bit_xor b (bit_at b (8 + i) * m))

pub product-sum_left : (a b c : ℕ) → field_product (bit_xor a b) c ≡ bit_xor (field_product a c) (field_product b c)
unfolding field_product
product-sum_left a b c =
    ap (remainder 7) (unreduced_product-sum_left 8 a b c) ∙ remainder-sum 7 (unreduced_product 8 a c) (unreduced_product 8 b c)

pub product-sum_right : (a b c : ℕ) → field_product a (bit_xor b c) ≡ bit_xor (field_product a b) (field_product a c)
unfolding field_product
product-sum_right a b c =
    ap (remainder 7) (unreduced_product-sum_right 8 a b c) ∙ remainder-sum 7 (unreduced_product 8 a b) (unreduced_product 8 a c)

pub zero_product : (a : ℕ) → field_product 0 a ≡ 0
zero_product a = product-sum_left 0 0 a ∙ xor_self (field_product 0 a)

pub product_zero : (a : ℕ) → field_product a 0 ≡ 0
product_zero a = product-sum_right a 0 0 ∙ xor_self (field_product a 0)

-- what holds of the eight powers of two holds of every byte, where it is additive
bytes : (P : ℕ → Type 0) → P 0 → ((x y : ℕ) → P x → P y → P (bit_xor x y)) → ((i : ℕ) → i < 8 → P (2 ^ i)) → (a : ℕ) → a < 256 → P a
bytes P none sums places = from_places P none sums 8 places

-- a law of two factors that each power of two keeps
bytes_pair : (P : ℕ → ℕ → Type 0) → ((b : ℕ) → P 0 b) → ((x y b : ℕ) → P x b → P y b → P (bit_xor x y) b)
    → ((a : ℕ) → P a 0) → ((a x y : ℕ) → P a x → P a y → P a (bit_xor x y))
    → ((i : ℕ) → i < 8 → (j : ℕ) → j < 8 → P (2 ^ i) (2 ^ j)) → (a b : ℕ) → a < 256 → b < 256 → P a b
bytes_pair P none_left sums_left none_right sums_right places a b ha hb =
    bytes (λ x. P x b) (none_left b) (λ x y. sums_left x y b)
    (λ i hi. bytes (P (2 ^ i)) (none_right (2 ^ i)) (sums_right (2 ^ i)) (places i hi) b hb) a ha

abbrev pairs_pass : (ℕ → ℕ → Bool) → Bool
pairs_pass p = passes_below (λ i. passes_below (λ j. p (2 ^ i) (2 ^ j)) 8) 8

of_pairs : (p : ℕ → ℕ → Bool) → pairs_pass p ≡ true → (i : ℕ) → i < 8 → (j : ℕ) → j < 8 → p (2 ^ i) (2 ^ j) ≡ true
of_pairs p h i hi = passes (λ j. p (2 ^ i) (2 ^ j)) 8 (passes (λ i. passes_below (λ j. p (2 ^ i) (2 ^ j)) 8) 8 h i hi)

bounds_computed : pairs_pass (λ a b. nat_lt (field_product a b) 256) ≡ true
unfolding field_product unreduced_product remainder
bounds_computed = refl

pub product-bound : (a b : ℕ) → a < 256 → b < 256 → field_product a b < 256
product-bound =
    bytes_pair (λ a b. field_product a b < 256)
    (λ b. subst (λ z. z < 256) (sym (zero_product b)) (omega arith))
    (λ x y b p q. subst (λ z. z < 256) (sym (product-sum_left x y b)) (xor_lt 8 _ _ p q))
    (λ a. subst (λ z. z < 256) (sym (product_zero a)) (omega arith))
    (λ a x y p q. subst (λ z. z < 256) (sym (product-sum_right a x y)) (xor_lt 8 _ _ p q))
    (λ i hi j hj. ltb-true _ _ (of_pairs (λ a b. nat_lt (field_product a b) 256) bounds_computed i hi j hj))

commutes_computed : pairs_pass (λ a b. field_product a b == field_product b a) ≡ true
unfolding field_product unreduced_product remainder
commutes_computed = refl

pub product_comm : (a b : ℕ) → a < 256 → b < 256 → field_product a b ≡ field_product b a
product_comm =
    bytes_pair (λ a b. field_product a b ≡ field_product b a)
    (λ b. zero_product b ∙ sym (product_zero b))
    (λ x y b p q. product-sum_left x y b ∙ ap₂ bit_xor p q ∙ sym (product-sum_right b x y))
    (λ a. product_zero a ∙ sym (zero_product a))
    (λ a x y p q. product-sum_right a x y ∙ ap₂ bit_xor p q ∙ sym (product-sum_left x y a))
    (λ i hi j hj. eqb-true _ _ (of_pairs (λ a b. field_product a b == field_product b a) commutes_computed i hi j hj))

associates_computed : passes_below (λ k. pairs_pass (λ a b. field_product (field_product a b) (2 ^ k) == field_product a (field_product b (2 ^ k)))) 8 ≡ true
unfolding field_product unreduced_product remainder
associates_computed = refl

pub product_assoc : (a b c : ℕ) → a < 256 → b < 256 → c < 256 → field_product (field_product a b) c ≡ field_product a (field_product b c)
product_assoc a b c ha hb hc =
    bytes (λ c. field_product (field_product a b) c ≡ field_product a (field_product b c))
    (product_zero (field_product a b) ∙ sym (ap (field_product a) (product_zero b) ∙ product_zero a))
    (λ x y p q. product-sum_right (field_product a b) x y ∙ ap₂ bit_xor p q
    ∙ sym (ap (field_product a) (product-sum_right b x y) ∙ product-sum_right a (field_product b x) (field_product b y)))
    (λ k hk. bytes_pair (λ a b. field_product (field_product a b) (2 ^ k) ≡ field_product a (field_product b (2 ^ k)))
    (λ b. ap (λ z. field_product z (2 ^ k)) (zero_product b) ∙ zero_product (2 ^ k) ∙ sym (zero_product (field_product b (2 ^ k))))
    (λ x y b p q. ap (λ z. field_product z (2 ^ k)) (product-sum_left x y b) ∙ product-sum_left (field_product x b) (field_product y b) (2 ^ k)
    ∙ ap₂ bit_xor p q ∙ sym (product-sum_left x y (field_product b (2 ^ k))))
    (λ a. ap (λ z. field_product z (2 ^ k)) (product_zero a) ∙ zero_product (2 ^ k)
    ∙ sym (ap (field_product a) (zero_product (2 ^ k)) ∙ product_zero a))
    (λ a x y p q. ap (λ z. field_product z (2 ^ k)) (product-sum_right a x y) ∙ product-sum_left (field_product a x) (field_product a y) (2 ^ k)
    ∙ ap₂ bit_xor p q
    ∙ sym (ap (field_product a) (product-sum_left x y (2 ^ k)) ∙ product-sum_right a (field_product x (2 ^ k)) (field_product y (2 ^ k))))
    (λ i hi j hj. eqb-true _ _ (of_pairs (λ a b. field_product (field_product a b) (2 ^ k) == field_product a (field_product b (2 ^ k)))
    (passes (λ k. pairs_pass (λ a b. field_product (field_product a b) (2 ^ k) == field_product a (field_product b (2 ^ k)))) 8 associates_computed k hk)
    i hi j hj))
    a b ha hb)
    c hc

ones_computed : passes_below (λ i. field_product 1 (2 ^ i) == 2 ^ i) 8 ≡ true
unfolding field_product unreduced_product remainder
ones_computed = refl

pub one_product : (a : ℕ) → a < 256 → field_product 1 a ≡ a
one_product =
    bytes (λ a. field_product 1 a ≡ a) (product_zero 1)
    (λ x y p q. product-sum_right 1 x y ∙ ap₂ bit_xor p q)
    (λ i hi. eqb-true _ _ (passes (λ i. field_product 1 (2 ^ i) == 2 ^ i) 8 ones_computed i hi))

pub product_one : (a : ℕ) → a < 256 → field_product a 1 ≡ a
product_one a h = product_comm a 1 h (omega arith) ∙ one_product a h
