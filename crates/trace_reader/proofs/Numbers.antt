-- Numbers in decimal, without needless zeros.
use Rattle.std.proofs.Common.{◌≡◌, ℕ, zero, suc, ◌^◌, ◌<◌, ◌≤◌, Bool, true, false, cond, eqb, ltb, leb, ◌&&◌, ◌||◌, List, [], ◌∷◌, ◌++◌, length, take, drop, get_or, Option, Some, None, decimal, refl, sym, ap, subst, ◌∙◌, append_assoc, arith}
use Rattle.std.specs.List.{prefix_len, take_while}
use Rattle.std.specs.Char.{is_ascii_digit, digit_value}
use Rattle.std.specs.Str.Parse.{digits_value, AllDigits}
use Rattle.std.proofs.lemmas.Bool.{and_parts, lt-ltb, leb-true}
use Rattle.std.proofs.lemmas.Bool.Decides.{nat_tests}
use Rattle.std.proofs.lemmas.Fmt.{decimal_digit, first_decimal, digits_decimal, digits_value-decimal, decimal-digits_value}
use Rattle.std.proofs.lemmas.List.{take_at, drop_at, take-append-drop}
use Rattle.std.proofs.lemmas.List.Sums.{take_while-cons}
use Rattle.std.proofs.lemmas.Str.Parse.{IsNumeralModel, numerals_by_value, tells_digits, digit_at}
use Rattle.hb_wire.specs.Reading.{◌>>=◌}
use Rattle.hb_wire.proofs.FieldLemmas.{IsBytes, Reads, bind_some, test_some, some_is}
use Rattle.trace_reader.specs.Reading.{after, is_plain, number_at, number_before}
use Rattle.trace_reader.proofs.Fields.{bytes_behind, after_takes, after_again, prefix_len-front}

numerals : IsNumeralModel (AllDigits 10) (digits_value 10)
numerals = numerals_by_value (AllDigits 10) tells_digits

-- the digits at the front
abbrev pub front_digits : List ℕ → List ℕ
front_digits bytes = take_while is_ascii_digit bytes

is_digit : (c : ℕ) → is_ascii_digit c ≡ true → digit_value c < 10
is_digit c is = grind (arith, nat_tests)

digits_then : (c : ℕ) (cs : List ℕ) (b : Bool) → is_ascii_digit c ≡ b → AllDigits 10 (front_digits cs) → AllDigits 10 (cond b (c ∷ front_digits cs) [])
digits_then c cs true is more = (is_digit c is, more)
digits_then c cs false is more = tt

pub are_digits : (bytes : List ℕ) → AllDigits 10 (front_digits bytes)
are_digits [] = tt
are_digits (c ∷ cs) = subst (AllDigits 10) (sym (take_while-cons is_ascii_digit c cs)) (digits_then c cs (is_ascii_digit c) refl (are_digits cs))

-- ---- what is read is spelled so

plain_some : (digits : List ℕ) → is_plain digits ≡ true → 0 < length digits
plain_some [] is = absurd cc
plain_some (c ∷ cs) is = omega arith

plain_zero : (digits : List ℕ) → is_plain digits ≡ true → get_or digits 0 0 ≡ 48 → length digits ≡ 1
plain_zero digits is first = grind (arith, nat_tests)

pub number_takes : (most : ℕ) (bytes : List ℕ) (n : ℕ) (rest : List ℕ) → most < 2 ^ 64 → number_at most bytes ≡ Some (n, rest) → (n ≤ most) × (bytes ≡ decimal n ++ rest)
unfolding number_at
number_takes most bytes n rest small is =
    let digits = front_digits bytes in
    let behind_digits = drop (prefix_len is_ascii_digit bytes) bytes in
    let t = test_some (is_plain digits && leb (digits_value 10 digits) most) (Some (digits_value 10 digits, behind_digits)) (n, rest) is in
    let both = and_parts (is_plain digits) (leb (digits_value 10 digits) most) t.0 in
    let low : digits_value 10 digits ≤ most = leb-true (digits_value 10 digits) most both.1 in
    let same : (digits_value 10 digits, behind_digits) ≡ (n, rest) = some_is (digits_value 10 digits, behind_digits) (n, rest) t.1 in
    let number : digits_value 10 digits ≡ n = ap (λ (p : ℕ × List ℕ). p.0) same in
    let behind : behind_digits ≡ rest = ap (λ (p : ℕ × List ℕ). p.1) same in
    let spelled : decimal (digits_value 10 digits) ≡ digits =
    decimal-digits_value numerals digits (are_digits bytes) (plain_some digits both.0) (plain_zero digits both.0) (omega (arith, low, small)) in
    let parts : bytes ≡ digits ++ behind_digits = sym (take-append-drop (prefix_len is_ascii_digit bytes) bytes) in
    (subst (λ (m : ℕ). m ≤ most) number low, parts ∙ ap (λ (xs : List ℕ). digits ++ xs) behind ∙ ap (λ (xs : List ℕ). xs ++ rest) (sym spelled ∙ ap decimal number))

-- ---- what is spelled so is read

in_range : (c : ℕ) → 48 ≤ c → c ≤ 57 → is_ascii_digit c ≡ true
in_range c low high = grind (arith, nat_tests)

decimal_passes : (n : ℕ) → n < 2 ^ 64 → (i : ℕ) → i < length (decimal n) → is_ascii_digit (get_or (decimal n) i 0) ≡ true
decimal_passes n small i below =
    let in_digits = digit_at (decimal n) i (digits_decimal numerals n small) below in
    in_range (get_or (decimal n) i 0) in_digits.0 in_digits.1

plain_decimal : (n : ℕ) → n < 2 ^ 64 → is_plain (decimal n) ≡ true
plain_decimal zero small = ap is_plain (decimal_digit 0 (omega arith))
plain_decimal (suc n) small = or_true (eqb (length (decimal (suc n))) 1) (ltb 48 (get_or (decimal (suc n)) 0 0)) (lt-ltb 48 (get_or (decimal (suc n)) 0 0) (first_decimal (suc n) (omega arith) small))
  where
    or_true : (a b : Bool) → b ≡ true → (a || b) ≡ true
    or_true true b is = refl
    or_true false b is = is

pub number_again : (most n x : ℕ) (rest : List ℕ) → most < 2 ^ 64 → n ≤ most → is_ascii_digit x ≡ false → number_at most (decimal n ++ x ∷ rest) ≡ Some (n, x ∷ rest)
unfolding number_at
number_again most n x rest small low stop =
    let below : n < 2 ^ 64 = omega (arith, low, small) in
    let count : prefix_len is_ascii_digit (decimal n ++ x ∷ rest) ≡ length (decimal n) = prefix_len-front is_ascii_digit (decimal n) x rest (decimal_passes n below) stop in
    let value : digits_value 10 (decimal n) ≡ n = digits_value-decimal numerals n below in
    let fits : leb n most ≡ true = le-leb n most low in
    let bytes : List ℕ = decimal n ++ x ∷ rest in
    ap (λ (k : ℕ). cond (is_plain (take k bytes) && leb (digits_value 10 (take k bytes)) most) (Some (digits_value 10 (take k bytes), drop k bytes)) None) count
    ∙ rw (take_at (decimal n) (x ∷ rest) (length (decimal n)) refl, value, plain_decimal n below, fits) (ap (λ (xs : List ℕ). some_pair n xs) (drop_at (decimal n) (x ∷ rest) (length (decimal n)) refl))
  where
    some_pair : ℕ → List ℕ → Option (ℕ × List ℕ)
    some_pair m xs = Some (m, xs)

    le-leb : (a b : ℕ) → a ≤ b → leb a b ≡ true
    le-leb a b h = grind (arith, nat_tests)

-- ---- a number and a word behind it

-- a number, and a word that doesn't begin with a digit
pub reads_number : (x : ℕ) (word : List ℕ) (most : ℕ) → most < 2 ^ 64 → is_ascii_digit x ≡ false
    → Reads (number_before (x ∷ word) most) (λ n. decimal n ++ x ∷ word) (λ n. n ≤ most)
unfolding number_before
reads_number x word most small stop = record {
  takes = λ bytes n rest are is.
      let a = bind_some (number_at most bytes) (λ m. after (x ∷ word) m.1 >>= λ behind. Some (m.0, behind)) (n, rest) is in
      let b = bind_some (after (x ∷ word) a.0.1) (λ behind. Some (a.0.0, behind)) (n, rest) a.2 in
      let t = number_takes most bytes a.0.0 a.0.1 small a.1 in
      let front : a.0.1 ≡ (x ∷ word) ++ b.0 = after_takes (x ∷ word) a.0.1 b.0 b.1 in
      let same : (a.0.0, b.0) ≡ (n, rest) = some_is (a.0.0, b.0) (n, rest) b.2 in
      let parts : bytes ≡ (decimal a.0.0 ++ x ∷ word) ++ b.0 =
      t.1 ∙ ap (λ (xs : List ℕ). decimal a.0.0 ++ xs) front ∙ sym (append_assoc (decimal a.0.0) (x ∷ word) b.0) in
      subst (λ (p : ℕ × List ℕ). (p.0 ≤ most) × (bytes ≡ (decimal p.0 ++ x ∷ word) ++ p.1) × IsBytes p.1) same
      (t.0, parts, bytes_behind bytes (decimal a.0.0 ++ x ∷ word) b.0 parts are);
  again = λ n rest fits.
      ap (λ (bytes : List ℕ). number_at most bytes >>= λ m. after (x ∷ word) m.1 >>= λ behind. Some (m.0, behind)) (append_assoc (decimal n) (x ∷ word) rest)
      ∙ ap (λ (r : Option (ℕ × List ℕ)). r >>= λ m. after (x ∷ word) m.1 >>= λ behind. Some (m.0, behind)) (number_again most n x (word ++ rest) small fits stop)
      ∙ ap (λ (r : Option (List ℕ)). r >>= λ behind. Some (n, behind)) (after_again (x ∷ word) rest);
}
