-- What is a true frame, of whole pieces, is the frame of what it holds.
use Rattle.std.proofs.Common.{◌≡◌, ◌≢◌, ℕ, zero, suc, ◌+◌, ◌-◌, ◌*◌, ◌/◌, ◌%◌, ◌<◌, ◌≤◌, Bool, true, false, List, [], ◌++◌, length, get_or, take, drop, replicate, refl, sym, ap, ap₂, ◌∙◌, subst, arith, add-one, ⊎_elim, ◌⊎◌, inl, inr}
use Rattle.std.proofs.Math.Nat.{mod_self, mod-eq_of_lt, mul-add-mod_self_left, mul-mod_right, zero-mul}
use Rattle.std.proofs.lemmas.Nat.{be_bytes_4}
use Rattle.std.proofs.lemmas.Bool.{cases_lt}
use Rattle.std.proofs.lemmas.List.{length-append, length-take-le, length-drop, take-append-drop, drop-drop, get_or_default, get_or_past, append_assoc}
use Rattle.std.proofs.lemmas.List.Elements.{All-from_recursion, recursion_from_All}
use Rattle.std.specs.List.{concat}
use Rattle.std.specs.Int.{w32, to_be_bytes}
use Rattle.hb_base.specs.ByteLists.{AreBytes}
use Rattle.gf_field.proofs.Polynomials.{Bytes, Bytes-take}
use Rattle.hb_base.specs.Limits.{longest_value}
use Rattle.rs_shards.specs.Codeword.{IsCodeword, data_of, width_of}
use Rattle.rs_shards.specs.Frame.{frame, with_length, padding, is_frame, stated_length, framed_value}
use Rattle.rs_shards.proofs.Frames.{IsTrueFrame, IsTrueFrame-from_test, value_in-false, concat-take_more}
use Rattle.rs_shards.proofs.Pieces.{Bytes-append}
use Rattle.rs_shards.proofs.Values.{zeros-are}
use Rattle.rs_shards.proofs.Unique.{codeword-bytes}

-- the padding is the only number below k that makes a length a multiple
padding-only : (k n p : ℕ) → p < k → (n + p) % k ≡ 0 → p ≡ padding k n
padding-only k n p below whole =
    let some : 0 < k = omega arith in
    let split : n + p ≡ k * (n / k) + (n % k + p) = omega arith in
    let left : (n % k + p) % k ≡ 0 = sym (mul-add-mod_self_left k (n / k) (n % k + p)) ∙ ap (λ m. m % k) (sym split) ∙ whole in
    ⊎_elim
    (λ lt.
    let none : n % k + p ≡ 0 = sym (mod-eq_of_lt lt) ∙ left in
    let exact : n % k ≡ 0 = omega arith in
    let rest : k - 0 ≡ k = omega arith in
    let zero_pad : padding k n ≡ 0 = ap (λ r. (k - r) % k) exact ∙ ap (λ r. r % k) rest ∙ mod_self k in
    omega arith)
    (λ le.
    let over : n % k + p - k < k = omega arith in
    let again : n % k + p ≡ k * 1 + (n % k + p - k) = omega arith in
    let none : n % k + p - k ≡ 0 =
    sym (mod-eq_of_lt over) ∙ sym (mul-add-mod_self_left k 1 (n % k + p - k)) ∙ ap (λ m. m % k) (sym again) ∙ left in
    let short : k - n % k < k = omega arith in
    let pad : padding k n ≡ k - n % k = mod-eq_of_lt short in
    omega arith)
    (cases_lt (n % k + p) k)

module _ (k : ℕ) (bytes : List ℕ) (some : 0 < k) (are_bytes : AreBytes bytes) (whole : length bytes % k ≡ 0) (t : IsTrueFrame k bytes) where
  pub held : List ℕ
  held = take (stated_length bytes) (drop 4 bytes)

  length-held : length held ≡ stated_length bytes
  unfolding held
  length-held = length-take-le (stated_length bytes) (drop 4 bytes) (omega (arith, t.inside, length-drop 4 bytes))

  header-is : to_be_bytes w32 (stated_length bytes) ≡ take 4 bytes
  header-is =
      be_bytes_4 (take 4 bytes) (stated_length bytes) (length-take-le 4 bytes t.header)
      (λ i. first i (cases_lt i 4)) refl
    where
      heads : AreBytes (take 4 bytes)
      heads = All-from_recursion (λ x. x < 256) (take 4 bytes) (Bytes-take 4 bytes (recursion_from_All (λ x. x < 256) bytes are_bytes))

      first : (i : ℕ) → (i < 4) ⊎ (4 ≤ i) → get_or (take 4 bytes) i 0 < 256
      first i (inl lt) = heads i 0 (omega (arith, length-take-le 4 bytes t.header))
      first i (inr le) = subst (λ x. x < 256) (sym (get_or_past (take 4 bytes) i 0 (omega (arith, length-take-le 4 bytes t.header)))) (omega arith)

  rest-is : drop (4 + stated_length bytes) bytes ≡ replicate (padding k (length (with_length held))) 0
  rest-is =
      let s = stated_length bytes in
      let rest = drop (4 + s) bytes in
      let long : length rest ≡ length bytes - (4 + s) = length-drop (4 + s) bytes in
      let sum : 4 + s + length rest ≡ length bytes = omega (arith, t.inside) in
      let pad : length rest ≡ padding k (4 + s) = padding-only k (4 + s) (length rest) (omega (arith, t.few)) (ap (λ n. n % k) sum ∙ whole) in
      let same : 4 + s ≡ length (with_length held) = omega (arith, length-held) in
      zeros-are rest t.zeros ∙ ap (λ n. replicate n 0) (pad ∙ ap (padding k) same)

  pub frame-held : bytes ≡ frame k held
  unfolding held frame
  frame-held =
      let s = stated_length bytes in
      let rest = drop (4 + s) bytes in
      sym (take-append-drop 4 bytes)
      ∙ ap₂ (λ a b. a ++ b) (sym header-is ∙ ap (to_be_bytes w32) (sym length-held))
      (sym (take-append-drop s (drop 4 bytes)) ∙ ap (λ r. held ++ r) (drop-drop s 4 bytes ∙ rest-is))
      ∙ sym (append_assoc (to_be_bytes w32 (length held)) held (replicate (padding k (length (with_length held))) 0))

  pub held-short : length held ≤ longest_value
  held-short = omega (arith, length-held, t.short)

-- ---- the data shards of a codeword

module _ (n k : ℕ) (shards : List (List ℕ)) (within : k ≤ n) (few : n ≤ 256) (h : IsCodeword n k shards) where
  pub length-data : (t : ℕ) → t ≤ k → length (concat (take t shards)) ≡ t * width_of shards
  length-data zero l = sym (zero-mul (width_of shards))
  length-data (suc t) l =
      let x = get_or shards t [] in
      let lt : t < length shards = omega (arith, h.count) in
      let wide : length x ≡ width_of shards = h.width t (omega arith) in
      let before : length (concat (take t shards)) ≡ t * width_of shards = length-data t (omega arith) in
      ap (λ i. length (concat (take i shards))) (sym (add-one t))
      ∙ ap length (concat-take_more shards t x lt (get_or_default shards t [] x lt)) ∙ length-append (concat (take t shards)) x
      ∙ omega arith

  data-bytes : (t : ℕ) → t ≤ k → Bytes (concat (take t shards))
  data-bytes zero l = tt
  data-bytes (suc t) l =
      let x = get_or shards t [] in
      let lt : t < length shards = omega (arith, h.count) in
      subst Bytes (sym (ap (λ i. concat (take i shards)) (sym (add-one t)) ∙ concat-take_more shards t x lt (get_or_default shards t [] x lt)))
      (Bytes-append (concat (take t shards)) x (data-bytes t (omega arith)) (recursion_from_All (λ x. x < 256) x (codeword-bytes n k shards few h t (omega arith))))

  pub no-value : 0 < k → ((value : List ℕ) → length value ≤ longest_value → data_of k shards ≢ frame k value) → framed_value k shards ≡ []
  no-value some none = go (is_frame k (data_of k shards)) refl
    where
      go : (b : Bool) → b ≡ is_frame k (data_of k shards) → framed_value k shards ≡ []
      go true e =
          let bytes = data_of k shards in
          let are : AreBytes bytes = All-from_recursion (λ x. x < 256) bytes (data-bytes k (omega arith)) in
          let exact : length bytes % k ≡ 0 = ap (λ m. m % k) (length-data k (omega arith)) ∙ mul-mod_right k (width_of shards) in
          let t = IsTrueFrame-from_test k bytes (sym e) in
          absurd (none (held k bytes some are exact t) (held-short k bytes some are exact t) (frame-held k bytes some are exact t))
      go false e = value_in-false k (data_of k shards) (sym e)
