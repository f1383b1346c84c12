-- Codewords that agree at k places.
use Rattle.std.proofs.Common.{◌≡◌, ℕ, ◌<◌, ◌≤◌, List, [], length, get_or, sym, ap, ◌∙◌, subst, arith}
use Rattle.std.specs.List.{All, slice_get}
use Rattle.std.proofs.lemmas.List.{same_lists, get_or_default}
use Rattle.std.proofs.lemmas.List.Elements.{recursion_from_All}
use Rattle.std.proofs.lemmas.Option.{slice_get-get_or, get_or_from_slice_get}
use Rattle.hb_base.specs.ByteLists.{AreBytes}
use Rattle.gf_field.specs.Polynomial.{polynomial_at, AreDistinct}
use Rattle.gf_field.proofs.Polynomials.{polynomial_at-bound}
use Rattle.gf_field.proofs.Roots.{values_agree}
use Rattle.rs_shards.specs.Codeword.{IsCodeword, byte_at, width_of}

-- the shards of a codeword consist of bytes
pub codeword-bytes : (n k : ℕ) (shards : List (List ℕ)) → n ≤ 256 → IsCodeword n k shards → (m : ℕ) → m < n → AreBytes (get_or shards m [])
codeword-bytes n k shards few h m lm column d l =
    let p = h.column column (omega (arith, h.width m lm)) in
    let byte : m < 256 = omega arith in
    subst (λ x. x < 256) (p.2 m lm ∙ get_or_default (get_or shards m []) column 0 d l)
    (polynomial_at-bound p.0 m (recursion_from_All (λ x. x < 256) p.0 p.1.bytes) byte)

pub codeword-all_bytes : (n k : ℕ) (shards : List (List ℕ)) → n ≤ 256 → IsCodeword n k shards → All AreBytes shards
codeword-all_bytes n k shards few h m d l =
    subst AreBytes (get_or_default shards m [] d l) (codeword-bytes n k shards few h m (omega (arith, h.count)))

module _ (n k : ℕ) (a b : List (List ℕ)) (places : List ℕ) (some : 1 ≤ k) (few : n ≤ 256) (ha : IsCodeword n k a) (hb : IsCodeword n k b)
    (count : length places ≡ k) (apart : AreDistinct places) (within : All (λ m. m < n) places) (agree : All (λ m. slice_get a m ≡ slice_get b m) places) where
  -- the shards at a place
  same-at : (i : ℕ) → i < k → get_or a (get_or places i 0) [] ≡ get_or b (get_or places i 0) []
  same-at i l =
      let m = get_or places i 0 in
      let li : i < length places = omega arith in
      let lm : m < n = within i 0 li in
      let lb : m < length b = omega (arith, hb.count) in
      get_or_from_slice_get a m (get_or b m []) [] (agree i 0 li ∙ slice_get-get_or b m [] lb)

  same-width : width_of a ≡ width_of b
  same-width =
      let m = get_or places 0 0 in
      let lm : m < n = within 0 0 (omega arith) in
      sym (ha.width m lm) ∙ ap length (same-at 0 (omega arith)) ∙ hb.width m lm

  same-byte : (m column : ℕ) → m < n → column < width_of a → byte_at a m column ≡ byte_at b m column
  same-byte m column lm lc =
      let pa = ha.column column lc in
      let pb = hb.column column (omega (arith, same-width)) in
      let points_bytes : AreBytes places = λ i d l. let lp : get_or places i d < n = within i d l in omega arith in
      let same : polynomial_at pa.0 m ≡ polynomial_at pb.0 m =
      values_agree places pa.0 pb.0 (omega (arith, pa.1.short)) (omega (arith, pb.1.short))
      (recursion_from_All (λ x. x < 256) places points_bytes) (recursion_from_All (λ x. x < 256) pa.0 pa.1.bytes)
      (recursion_from_All (λ x. x < 256) pb.0 pb.1.bytes) apart
      (λ i l.
      let lp : get_or places i 0 < n = within i 0 l in
      pa.2 (get_or places i 0) lp ∙ ap (λ s. get_or s column 0) (same-at i (omega arith)) ∙ sym (pb.2 (get_or places i 0) lp)) m in
      sym (pa.2 m lm) ∙ same ∙ pb.2 m lm

  pub codewords-agree : a ≡ b
  codewords-agree = same_lists a b (ha.count ∙ sym hb.count) (λ m d l.
      let lm : m < n = omega (arith, ha.count) in
      let lb : m < length b = omega (arith, hb.count) in
      get_or_default a m d [] l
      ∙ same_lists (get_or a m []) (get_or b m []) (ha.width m lm ∙ same-width ∙ sym (hb.width m lm)) (λ column e lc.
      let inside : column < width_of a = omega (arith, ha.width m lm) in
      let lbc : column < length (get_or b m []) = omega (arith, hb.width m lm, same-width) in
      get_or_default (get_or a m []) column e 0 lc ∙ same-byte m column lm inside ∙ get_or_default (get_or b m []) column 0 e lbc)
      ∙ get_or_default b m [] d lb)
