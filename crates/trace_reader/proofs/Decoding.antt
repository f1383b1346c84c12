-- What is decoded from lower-case hex is spelled so.
use Rattle.std.proofs.Common.{◌≡◌, ℕ, zero, suc, ◌+◌, ◌*◌, ◌/◌, ◌%◌, ◌<◌, Bool, true, false, ◌&&◌, ◌||◌, not, List, [], ◌∷◌, get_or, slice_index, Option, Some, None, Result, Ok, Err, refl, sym, ap, ◌∙◌, arith}
use Rattle.std.specs.List.{list_any, list_all}
use Rattle.std.specs.Char.{is_ascii_uppercase}
use Rattle.std.proofs.lemmas.Bool.Decides.{nat_tests}
use Rattle.hex.specs.declared.error.FromHexError.{FromHexError}
use Rattle.hex.specs.Hex.{◌>>=◌, hex_digit_value, digit_or_error, value_at, pair_value, decode_pairs, encode_with, lower_digits}
use Rattle.hex.proofs.HexLemmas.{IsDigits-lower_digits}

-- ---- digits

value_small : (c v : ℕ) → hex_digit_value c ≡ Some v → v < 16
value_small c v is = grind (arith)

-- digits of one value, neither of them in upper case, are one
same_digit : (c d v : ℕ) → hex_digit_value c ≡ Some v → hex_digit_value d ≡ Some v → is_ascii_uppercase c ≡ false → is_ascii_uppercase d ≡ false → c ≡ d
same_digit c d v of_c of_d low_c low_d = grind (arith, nat_tests)

pub and_true : (a b : Bool) → (a && b) ≡ true → (a ≡ true) × (b ≡ true)
and_true true b e = (refl, e)
and_true false b e = absurd cc

-- what holds of each of a list, and of 0, holds at each place
pub at_each : (test : ℕ → Bool) (xs : List ℕ) → list_all test xs ≡ true → test 0 ≡ true → (k : ℕ) → test (get_or xs k 0) ≡ true
at_each test [] all none k = none
at_each test (x ∷ xs) all none zero = (and_true (test x) (list_all test xs) all).0
at_each test (x ∷ xs) all none (suc k) = at_each test xs (and_true (test x) (list_all test xs) all).1 none k

pub not_true : (b : Bool) → not b ≡ true → b ≡ false
not_true true e = absurd cc
not_true false e = refl

lower_back : (c v : ℕ) → hex_digit_value c ≡ Some v → is_ascii_uppercase c ≡ false → slice_index lower_digits v ≡ c
lower_back c v is low =
    let lower : not (is_ascii_uppercase (slice_index lower_digits v)) ≡ true = at_each (λ x. not (is_ascii_uppercase x)) lower_digits refl refl v in
    same_digit (slice_index lower_digits v) c v (IsDigits-lower_digits v (value_small c v is)) is (not_true (is_ascii_uppercase (slice_index lower_digits v)) lower) low

-- ---- pairs of digits

then_ok : {A B : Type 0} (r : Result A FromHexError) (f : A → Result B FromHexError) (y : B) → (r >>= f) ≡ Ok y → (x : A) × (r ≡ Ok x) × (f x ≡ Ok y)
then_ok (Ok x) f y is = (x, refl, is)
then_ok (Err e) f y is = absurd cc

ok : {A : Type 0} → A → Result A FromHexError
ok x = Ok x

ok_is : {A : Type 0} (x y : A) → ok x ≡ ok y → x ≡ y
unfolding ok
ok_is x y e = cc

digit_read : (c i : ℕ) (o : Option ℕ) (v : ℕ) → digit_or_error c i o ≡ Ok v → o ≡ Some v
digit_read c i (Some w) v is = cc
digit_read c i None v is = absurd cc

or_false : (a b : Bool) → (a || b) ≡ false → (a ≡ false) × (b ≡ false)
or_false true b e = absurd cc
or_false false b e = (refl, e)

-- what lower-case hex stands for is spelled so
pub spelled_lower : (i : ℕ) (text bytes : List ℕ) → decode_pairs i text ≡ Ok bytes → list_any is_ascii_uppercase text ≡ false → encode_with lower_digits bytes ≡ text
unfolding decode_pairs encode_with ok
spelled_lower i [] bytes is low = ap (encode_with lower_digits) (sym (ok_is [] bytes is))
spelled_lower i (a ∷ []) bytes is low = absurd cc
spelled_lower i (a ∷ b ∷ rest) bytes is low =
    let p0 = then_ok (pair_value a b i) (λ byte. decode_pairs (i + 2) rest >>= λ more. Ok (byte ∷ more)) bytes is in
    let p1 = then_ok (value_at a i) (λ h. value_at b (i + 1) >>= λ l. Ok (h * 16 + l)) p0.0 p0.1 in
    let p2 = then_ok (value_at b (i + 1)) (λ l. Ok (p1.0 * 16 + l)) p0.0 p1.2 in
    let p3 = then_ok (decode_pairs (i + 2) rest) (λ more. Ok (p0.0 ∷ more)) bytes p0.2 in
    let first = or_false (is_ascii_uppercase a) (list_any is_ascii_uppercase (b ∷ rest)) low in
    let second = or_false (is_ascii_uppercase b) (list_any is_ascii_uppercase rest) first.1 in
    let of_a : hex_digit_value a ≡ Some p1.0 = digit_read a i (hex_digit_value a) p1.0 p1.1 in
    let of_b : hex_digit_value b ≡ Some p2.0 = digit_read b (i + 1) (hex_digit_value b) p2.0 p2.1 in
    let byte : p1.0 * 16 + p2.0 ≡ p0.0 = ok_is (p1.0 * 16 + p2.0) p0.0 p2.2 in
    let small = value_small b p2.0 of_b in
    let high : p0.0 / 16 ≡ p1.0 = omega (arith, byte, small) in
    let low_four : p0.0 % 16 ≡ p2.0 = omega (arith, byte, small) in
    let whole : p0.0 ∷ p3.0 ≡ bytes = ok_is (p0.0 ∷ p3.0) bytes p3.2 in
    let more : encode_with lower_digits p3.0 ≡ rest = spelled_lower (i + 2) rest p3.0 p3.1 second.1 in
    ap (encode_with lower_digits) (sym whole) ∙ rw (high, low_four, lower_back a p1.0 of_a first.0, lower_back b p2.0 of_b second.0, more) refl

-- a test that each digit passes, all of a text passes
pub all_encoded : (test : ℕ → Bool) → list_all test lower_digits ≡ true → test 0 ≡ true → (bytes : List ℕ) → list_all test (encode_with lower_digits bytes) ≡ true
unfolding encode_with
all_encoded test all none [] = refl
all_encoded test all none (byte ∷ bytes) =
    rw (at_each test lower_digits all none (byte / 16), at_each test lower_digits all none (byte % 16)) (all_encoded test all none bytes)
