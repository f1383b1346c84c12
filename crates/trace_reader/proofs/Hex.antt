-- The bytes of a post, and the end of its line.
use Rattle.std.proofs.Common.{◌≡◌, ℕ, zero, suc, ◌+◌, ◌*◌, ◌<◌, ◌≤◌, Bool, true, false, cond, eqb, ltb, ◌&&◌, ◌||◌, not, List, [], ◌∷◌, ◌++◌, length, take, drop, get_or, codes, Option, Some, None, Result, Ok, Err, refl, sym, ap, subst, ◌∙◌, append_assoc, arith}
use Rattle.std.specs.List.{list_any, list_all, prefix_len, position}
use Rattle.std.specs.Char.{is_ascii_uppercase}
use Rattle.std.specs.Result.{result_ok}
use Rattle.std.specs.Str.{bytes_eq}
use Rattle.std.proofs.lemmas.Bool.{eqb-true, false≢true, lt-ltb}
use Rattle.std.proofs.lemmas.Bool.Decides.{nat_tests}
use Rattle.std.proofs.lemmas.Slice.Eq.{bytes_eq-Decides}
use Rattle.std.proofs.lemmas.List.{take_at, drop_at, take-append-drop, drop_more, length-append}
use Rattle.std.proofs.lemmas.List.Quantifiers.{position-Some}
use Rattle.hex.specs.declared.error.FromHexError.{FromHexError}
use Rattle.hex.specs.Hex.{decode_of, encode_lower, lower_digits}
use Rattle.hex.proofs.HexLemmas.{decode_of-ok, decode_of-even, decode_of-encode_lower, length-encode_with}
use Rattle.hb_base.specs.ByteLists.{AreBytes}
use Rattle.hb_wire.specs.Reading.{◌>>=◌}
use Rattle.hb_wire.proofs.FieldLemmas.{IsBytes, Reads, bind_some, guard_some, either_false, some_is, bytes_from, bytes_at as bytes_below}
use Rattle.trace_text.specs.Text.{bytes_text}
use Rattle.trace_reader.specs.Reading.{line_at, bytes_of, bytes_at}
use Rattle.trace_reader.proofs.Fields.{bytes_behind, prefix_len-front}
use Rattle.trace_reader.proofs.Decoding.{and_true, not_true, spelled_lower, all_encoded}

-- ---- the end of a line

pub line_takes : (bytes line rest : List ℕ) → line_at bytes ≡ Some (line, rest) → bytes ≡ line ++ 10 ∷ rest
unfolding line_at
line_takes bytes line rest is =
    let a = bind_some (position (λ byte. eqb byte 10) bytes) (λ count. Some (take count bytes, drop (count + 1) bytes)) (line, rest) is in
    let found = position-Some (λ byte. eqb byte 10) bytes a.0 0 a.1 in
    let here : get_or bytes a.0 0 ≡ 10 = eqb-true (get_or bytes a.0 0) 10 found.1 in
    let same : (take a.0 bytes, drop (a.0 + 1) bytes) ≡ (line, rest) = some_is (take a.0 bytes, drop (a.0 + 1) bytes) (line, rest) a.2 in
    let parts : bytes ≡ take a.0 bytes ++ 10 ∷ drop (a.0 + 1) bytes =
    sym (take-append-drop a.0 bytes) ∙ ap (λ (xs : List ℕ). take a.0 bytes ++ xs) (drop_more bytes a.0 0 found.0 ∙ ap (λ (x : ℕ). x ∷ drop (a.0 + 1) bytes) here) in
    subst (λ (p : List ℕ × List ℕ). bytes ≡ p.0 ++ 10 ∷ p.1) same parts

some_line : List ℕ → List ℕ → Option (List ℕ × List ℕ)
some_line line rest = Some (line, rest)

pub line_again : (line rest : List ℕ) → ((i : ℕ) → i < length line → not (eqb (get_or line i 0) 10) ≡ true) → line_at (line ++ 10 ∷ rest) ≡ Some (line, rest)
unfolding line_at some_line
line_again line rest pass =
    let bytes : List ℕ = line ++ 10 ∷ rest in
    let count : prefix_len (λ byte. not (eqb byte 10)) bytes ≡ length line = prefix_len-front (λ byte. not (eqb byte 10)) line 10 rest pass refl in
    let inside : ltb (length line) (length bytes) ≡ true = lt-ltb (length line) (length bytes) (omega (arith, length-append line (10 ∷ rest))) in
    let found : position (λ byte. eqb byte 10) bytes ≡ Some (length line) =
    ap (λ (k : ℕ). cond (ltb k (length bytes)) (Some k) None) count ∙ ap (λ (b : Bool). cond b (Some (length line)) None) inside in
    let one : length (line ++ 10 ∷ []) ≡ length line + 1 = length-append line (10 ∷ []) in
    let behind : drop (length line + 1) bytes ≡ rest =
    ap (drop (length line + 1)) (sym (append_assoc line (10 ∷ []) rest)) ∙ drop_at (line ++ 10 ∷ []) rest (length line + 1) one in
    ap (λ (r : Option ℕ). r >>= λ k. some_line (take k bytes) (drop (k + 1) bytes)) found
    ∙ ap (λ (xs : List ℕ). some_line xs (drop (length line + 1) bytes)) (take_at line (10 ∷ rest) (length line) refl)
    ∙ ap (some_line line) behind

-- ---- the bytes of a text

some_result : (r : Result (List ℕ) FromHexError) (bytes : List ℕ) → result_ok r ≡ Some bytes → r ≡ Ok bytes
some_result (Ok x) bytes is = cc
some_result (Err e) bytes is = absurd cc

none_of_none : (bytes : List ℕ) → length bytes ≡ 0 → bytes ≡ []
none_of_none [] is = refl
none_of_none (x ∷ xs) is = absurd (omega (arith, is))

-- bytes, of which there are some, in hex
text_of_some : (bytes : List ℕ) → 0 < length bytes → bytes_text bytes ≡ encode_lower bytes
unfolding bytes_text
text_of_some [] some = absurd (omega (arith, some))
text_of_some (byte ∷ bytes) some = refl

of_hex : (text bytes : List ℕ) → (eqb (length text) 0 || list_any is_ascii_uppercase text) ≡ false → decode_of text ≡ Ok bytes → (bytes_text bytes ≡ text) × AreBytes bytes
of_hex text bytes low is =
    let read = decode_of-ok text bytes is in
    let parts = either_false (eqb (length text) 0) (list_any is_ascii_uppercase text) low in
    let some : 0 < length bytes = some_bytes (length bytes) refl in
    (text_of_some bytes some ∙ spelled_lower 0 text bytes (sym (decode_of-even text read.0) ∙ is) parts.1, bytes_from bytes read.3)
  where
    some_bytes : (n : ℕ) → length bytes ≡ n → 0 < n
    some_bytes zero none =
        let no_text : length text ≡ 0 = omega (arith, none, (decode_of-ok text bytes is).2) in
        absurd (false≢true (sym (sym (ap (λ (k : ℕ). eqb k 0) no_text) ∙ (either_false (eqb (length text) 0) (list_any is_ascii_uppercase text) low).0)))
    some_bytes (suc n) some = omega arith

bytes_take : (text bytes : List ℕ) → bytes_of text ≡ Some bytes → (bytes_text bytes ≡ text) × AreBytes bytes
unfolding bytes_of bytes_text
bytes_take text bytes is = by (bytes_eq text (codes "-")) refl is
  where
    by : (b : Bool) → bytes_eq text (codes "-") ≡ b
        → cond b (Some []) (cond (eqb (length text) 0 || list_any is_ascii_uppercase text) None (result_ok (decode_of text))) ≡ Some bytes → (bytes_text bytes ≡ text) × AreBytes bytes
    by true dash found =
        let none : [] ≡ bytes = some_is [] bytes found in
        let same : text ≡ codes "-" = (bytes_eq-Decides text (codes "-")).0 dash in
        subst (λ (bs : List ℕ). (bytes_text bs ≡ text) × AreBytes bs) none (sym same, bytes_from [] (λ i. omega arith))
    by false other found =
        let g = guard_some (eqb (length text) 0 || list_any is_ascii_uppercase text) (result_ok (decode_of text)) bytes found in
        of_hex text bytes g.0 (some_result (decode_of text) bytes g.1)

-- ---- in hex, and back

none_upper : (xs : List ℕ) → list_all (λ x. not (is_ascii_uppercase x)) xs ≡ true → list_any is_ascii_uppercase xs ≡ false
none_upper [] all = refl
none_upper (x ∷ xs) all =
    let both = and_true (not (is_ascii_uppercase x)) (list_all (λ y. not (is_ascii_uppercase y)) xs) all in
    rw (not_true (is_ascii_uppercase x) both.0) (none_upper xs both.1)

-- more than one byte is no dash
no_dash : (text : List ℕ) → 2 ≤ length text → bytes_eq text (codes "-") ≡ false
no_dash [] long = absurd (omega (arith, long))
no_dash (x ∷ []) long = absurd (omega (arith, long))
no_dash (x ∷ y ∷ text) long = and_false (eqb x 45)
  where
    and_false : (b : Bool) → (b && false) ≡ false
    and_false true = refl
    and_false false = refl

hex_again : (bytes : List ℕ) → 0 < length bytes → AreBytes bytes → bytes_of (encode_lower bytes) ≡ Some bytes
unfolding bytes_of
hex_again bytes some are =
    let text = encode_lower bytes in
    let size : length text ≡ 2 * length bytes = length-encode_with lower_digits bytes in
    let long : eqb (length text) 0 ≡ false = positive (length text) (omega (arith, size, some)) in
    let low : list_any is_ascii_uppercase text ≡ false = none_upper text (all_encoded (λ x. not (is_ascii_uppercase x)) refl refl bytes) in
    ap (λ (b : Bool). cond b (Some []) (cond (eqb (length text) 0 || list_any is_ascii_uppercase text) None (result_ok (decode_of text)))) (no_dash text (omega (arith, size, some)))
    ∙ ap (λ (b : Bool). cond (b || list_any is_ascii_uppercase text) None (result_ok (decode_of text))) long
    ∙ ap (λ (b : Bool). cond b None (result_ok (decode_of text))) low
    ∙ ap (λ (r : Result (List ℕ) FromHexError). result_ok r) (decode_of-encode_lower bytes (bytes_below bytes are))
  where
    positive : (n : ℕ) → 0 < n → eqb n 0 ≡ false
    positive n h = grind (arith, nat_tests)

bytes_again : (bytes : List ℕ) → AreBytes bytes → bytes_of (bytes_text bytes) ≡ Some bytes
unfolding bytes_of bytes_text
bytes_again [] are = refl
bytes_again (byte ∷ bytes) are = hex_again (byte ∷ bytes) (omega arith) are

-- no text of bytes has the end of a line
no_end : (bytes : List ℕ) → list_all (λ x. not (eqb x 10)) (bytes_text bytes) ≡ true
unfolding bytes_text
no_end [] = refl
no_end (byte ∷ bytes) = all_encoded (λ x. not (eqb x 10)) refl refl (byte ∷ bytes)

at_places : (test : ℕ → Bool) (xs : List ℕ) → list_all test xs ≡ true → (i : ℕ) → i < length xs → test (get_or xs i 0) ≡ true
at_places test [] all i below = absurd (omega (arith, below))
at_places test (x ∷ xs) all zero below = (and_true (test x) (list_all test xs) all).0
at_places test (x ∷ xs) all (suc i) below = at_places test xs (and_true (test x) (list_all test xs) all).1 i (omega (arith, below))

-- ---- the bytes of a post, and the end of its line

pub reads_bytes : Reads bytes_at (λ bytes. bytes_text bytes ++ 10 ∷ []) AreBytes
unfolding bytes_at
reads_bytes = record {
  takes = λ bytes x rest are is.
      let a = bind_some (line_at bytes) (λ line. bytes_of line.0 >>= λ read. Some (read, line.1)) (x, rest) is in
      let b = bind_some (bytes_of a.0.0) (λ read. Some (read, a.0.1)) (x, rest) a.2 in
      let front = line_takes bytes a.0.0 a.0.1 a.1 in
      let t = bytes_take a.0.0 b.0 b.1 in
      let same : (b.0, a.0.1) ≡ (x, rest) = some_is (b.0, a.0.1) (x, rest) b.2 in
      let parts : bytes ≡ (bytes_text b.0 ++ 10 ∷ []) ++ a.0.1 =
      front ∙ ap (λ (xs : List ℕ). xs ++ 10 ∷ a.0.1) (sym t.0) ∙ sym (append_assoc (bytes_text b.0) (10 ∷ []) a.0.1) in
      subst (λ (p : List ℕ × List ℕ). AreBytes p.0 × (bytes ≡ (bytes_text p.0 ++ 10 ∷ []) ++ p.1) × IsBytes p.1) same
      (t.1, parts, bytes_behind bytes (bytes_text b.0 ++ 10 ∷ []) a.0.1 parts are);
  again = λ x rest fits.
      ap (λ (bytes : List ℕ). line_at bytes >>= λ line. bytes_of line.0 >>= λ read. Some (read, line.1)) (append_assoc (bytes_text x) (10 ∷ []) rest)
      ∙ ap (λ (r : Option (List ℕ × List ℕ)). r >>= λ line. bytes_of line.0 >>= λ read. Some (read, line.1))
      (line_again (bytes_text x) rest (at_places (λ y. not (eqb y 10)) (bytes_text x) (no_end x)))
      ∙ ap (λ (r : Option (List ℕ)). r >>= λ read. Some (read, rest)) (bytes_again x fits);
}
