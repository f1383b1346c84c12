-- Sums, multiples and products of polynomials, as lists of coefficients, and their values.
use Rattle.std.proofs.Common.{◌≡◌, ◌≢◌, ℕ, zero, suc, ◌<◌, ◌≤◌, List, [], ◌∷◌, ◌++◌, length, get_or, take, drop, refl, sym, ap, ◌∙◌, arith, bit_xor}
use Rattle.std.specs.List.{AllByRecursion}
use lib.Bits.{xor_comm, xor_assoc, xor_zero_r, xor_self, xor_lt}
use Rattle.gf_field.specs.Field.{field_product}
use Rattle.gf_field.specs.Polynomial.{polynomial_at, product_of_differences}
use Rattle.gf_field.specs.Interpolation.{polynomial_sum, polynomial_multiple, with_roots}
use Rattle.gf_field.proofs.Sums.{xor_swap}
use Rattle.gf_field.proofs.Products.{product-sum_left, product-sum_right, product_zero, zero_product, product-bound, product_comm, product_assoc, one_product}
use Rattle.gf_field.proofs.Inverses.{no_zero_divisor}

-- each is an element of the field, by recursion on the list
abbrev pub Bytes : List ℕ → Type 0
Bytes xs = AllByRecursion (λ x. x < 256) xs

pub Bytes-take : (n : ℕ) (xs : List ℕ) → Bytes xs → Bytes (take n xs)
Bytes-take zero xs h = tt
Bytes-take (suc n) [] h = h
Bytes-take (suc n) (x ∷ xs) h = (h.0, Bytes-take n xs h.1)

pub Bytes-drop : (n : ℕ) (xs : List ℕ) → Bytes xs → Bytes (drop n xs)
Bytes-drop zero xs h = h
Bytes-drop (suc n) [] h = h
Bytes-drop (suc n) (x ∷ xs) h = Bytes-drop n xs h.1

pub polynomial_at-bound : (cs : List ℕ) (x : ℕ) → Bytes cs → x < 256 → polynomial_at cs x < 256
unfolding polynomial_at
polynomial_at-bound [] x h hx = omega arith
polynomial_at-bound (c ∷ cs) x h hx = xor_lt 8 _ _ h.0 (product-bound x _ hx (polynomial_at-bound cs x h.1 hx))

pub polynomial_at-sum : (fs gs : List ℕ) (x : ℕ) → polynomial_at (polynomial_sum fs gs) x ≡ bit_xor (polynomial_at fs x) (polynomial_at gs x)
unfolding polynomial_at polynomial_sum
polynomial_at-sum [] gs x = refl
polynomial_at-sum (f ∷ fs) [] x = sym (xor_zero_r (polynomial_at (f ∷ fs) x))
polynomial_at-sum (f ∷ fs) (g ∷ gs) x =
    ap (λ z. bit_xor (bit_xor f g) z) (ap (field_product x) (polynomial_at-sum fs gs x) ∙ product-sum_right x (polynomial_at fs x) (polynomial_at gs x))
    ∙ xor_swap f g (field_product x (polynomial_at fs x)) (field_product x (polynomial_at gs x))

pub polynomial_sum-bytes : (fs gs : List ℕ) → Bytes fs → Bytes gs → Bytes (polynomial_sum fs gs)
unfolding polynomial_sum
polynomial_sum-bytes [] gs hf hg = hg
polynomial_sum-bytes (f ∷ fs) [] hf hg = hf
polynomial_sum-bytes (f ∷ fs) (g ∷ gs) hf hg = (xor_lt 8 f g hf.0 hg.0, polynomial_sum-bytes fs gs hf.1 hg.1)

pub length-polynomial_sum : (fs gs : List ℕ) (n : ℕ) → length fs ≤ n → length gs ≤ n → length (polynomial_sum fs gs) ≤ n
unfolding polynomial_sum
length-polynomial_sum [] gs n hf hg = hg
length-polynomial_sum (f ∷ fs) [] n hf hg = hf
length-polynomial_sum (f ∷ fs) (g ∷ gs) zero hf hg = absurd (omega arith)
length-polynomial_sum (f ∷ fs) (g ∷ gs) (suc n) hf hg = let h : length (polynomial_sum fs gs) ≤ n = length-polynomial_sum fs gs n (omega arith) (omega arith) in omega arith

-- two factors change places round a third
pub product_swap : (x w c : ℕ) → x < 256 → w < 256 → c < 256 → field_product x (field_product w c) ≡ field_product w (field_product x c)
product_swap x w c hx hw hc =
    sym (product_assoc x w c hx hw hc) ∙ ap (λ z. field_product z c) (product_comm x w hx hw) ∙ product_assoc w x c hw hx hc

pub polynomial_at-multiple : (w : ℕ) (cs : List ℕ) (x : ℕ) → w < 256 → Bytes cs → x < 256 → polynomial_at (polynomial_multiple w cs) x ≡ field_product w (polynomial_at cs x)
unfolding polynomial_at polynomial_multiple
polynomial_at-multiple w [] x hw h hx = sym (product_zero w)
polynomial_at-multiple w (c ∷ cs) x hw h hx =
    let v = polynomial_at cs x in
    ap (bit_xor (field_product w c)) (ap (field_product x) (polynomial_at-multiple w cs x hw h.1 hx) ∙ product_swap x w v hx hw (polynomial_at-bound cs x h.1 hx))
    ∙ sym (product-sum_right w c (field_product x v))

pub polynomial_multiple-bytes : (w : ℕ) (cs : List ℕ) → w < 256 → Bytes cs → Bytes (polynomial_multiple w cs)
unfolding polynomial_multiple
polynomial_multiple-bytes w [] hw h = h
polynomial_multiple-bytes w (c ∷ cs) hw h = (product-bound w c hw h.0, polynomial_multiple-bytes w cs hw h.1)

pub length-polynomial_multiple : (w : ℕ) (cs : List ℕ) → length (polynomial_multiple w cs) ≡ length cs
unfolding polynomial_multiple
length-polynomial_multiple w [] = refl
length-polynomial_multiple w (c ∷ cs) = ap suc (length-polynomial_multiple w cs)

-- x + p times a polynomial
abbrev factor_times : ℕ → List ℕ → List ℕ
factor_times p cs = polynomial_sum (polynomial_multiple p cs) (0 ∷ cs)

pub polynomial_at-factor_times : (p : ℕ) (cs : List ℕ) (x : ℕ) → p < 256 → Bytes cs → x < 256 → polynomial_at (factor_times p cs) x ≡ field_product (bit_xor x p) (polynomial_at cs x)
unfolding polynomial_at
polynomial_at-factor_times p cs x hp h hx =
    let v = polynomial_at cs x in
    polynomial_at-sum (polynomial_multiple p cs) (0 ∷ cs) x
    ∙ ap (λ z. bit_xor z (field_product x v)) (polynomial_at-multiple p cs x hp h hx)
    ∙ sym (product-sum_left p x v) ∙ ap (λ z. field_product z v) (xor_comm p x)

pub with_roots-bytes : (ps : List ℕ) → Bytes ps → Bytes (with_roots ps)
unfolding with_roots
with_roots-bytes [] h = (omega arith, tt)
with_roots-bytes (p ∷ ps) h =
    let b : Bytes (with_roots ps) = with_roots-bytes ps h.1 in
    polynomial_sum-bytes (polynomial_multiple p (with_roots ps)) (0 ∷ with_roots ps) (polynomial_multiple-bytes p (with_roots ps) h.0 b) (omega arith, b)

pub length-with_roots : (ps : List ℕ) → length (with_roots ps) ≤ suc (length ps)
unfolding with_roots
length-with_roots [] = omega arith
length-with_roots (p ∷ ps) =
    let h : length (with_roots ps) ≤ suc (length ps) = length-with_roots ps in
    length-polynomial_sum (polynomial_multiple p (with_roots ps)) (0 ∷ with_roots ps) (suc (suc (length ps))) (omega (arith, length-polynomial_multiple p (with_roots ps))) (omega arith)

pub polynomial_at-with_roots : (ps : List ℕ) (x : ℕ) → Bytes ps → x < 256 → polynomial_at (with_roots ps) x ≡ product_of_differences ps x
unfolding with_roots product_of_differences polynomial_at
polynomial_at-with_roots [] x h hx = one x
  where
    one : (x : ℕ) → polynomial_at (1 ∷ []) x ≡ 1
    one x = ap (bit_xor 1) (product_zero x)
polynomial_at-with_roots (p ∷ ps) x h hx =
    polynomial_at-factor_times p (with_roots ps) x h.0 (with_roots-bytes ps h.1) hx
    ∙ ap (field_product (bit_xor x p)) (polynomial_at-with_roots ps x h.1 hx)

pub product_of_differences-bound : (ps : List ℕ) (x : ℕ) → Bytes ps → x < 256 → product_of_differences ps x < 256
unfolding product_of_differences
product_of_differences-bound [] x h hx = omega arith
product_of_differences-bound (p ∷ ps) x h hx = product-bound _ _ (xor_lt 8 x p hx h.0) (product_of_differences-bound ps x h.1 hx)

pub product_of_differences-append : (ps qs : List ℕ) (x : ℕ) → Bytes ps → Bytes qs → x < 256 → product_of_differences (ps ++ qs) x ≡ field_product (product_of_differences ps x) (product_of_differences qs x)
unfolding product_of_differences
product_of_differences-append [] qs x hp hq hx = sym (one_product _ (product_of_differences-bound qs x hq hx))
product_of_differences-append (p ∷ ps) qs x hp hq hx =
    ap (field_product (bit_xor x p)) (product_of_differences-append ps qs x hp.1 hq hx)
    ∙ sym (product_assoc (bit_xor x p) _ _ (xor_lt 8 x p hx hp.0) (product_of_differences-bound ps x hp.1 hx) (product_of_differences-bound qs x hq hx))

-- it is 0 at a root
pub product_of_differences-root : (ps : List ℕ) (x i : ℕ) → i < length ps → get_or ps i 0 ≡ x → product_of_differences ps x ≡ 0
unfolding product_of_differences
product_of_differences-root [] x i l e = absurd (omega arith)
product_of_differences-root (p ∷ ps) x zero l e =
    ap (λ z. field_product (bit_xor x z) (product_of_differences ps x)) e ∙ ap (λ z. field_product z (product_of_differences ps x)) (xor_self x) ∙ zero_product _
product_of_differences-root (p ∷ ps) x (suc i) l e =
    ap (field_product (bit_xor x p)) (product_of_differences-root ps x i (omega arith) e) ∙ product_zero _

-- two different elements have a difference that is not 0
pub difference-some : (x p : ℕ) → x ≢ p → 0 < bit_xor x p
difference-some x p ne = from (bit_xor x p) refl
  where
    from : (d : ℕ) → d ≡ bit_xor x p → 0 < bit_xor x p
    from zero e = absurd (ne (sym (ap (λ z. bit_xor z p) e ∙ xor_assoc x p p ∙ ap (bit_xor x) (xor_self p) ∙ xor_zero_r x)))
    from (suc d) e = omega arith

pub product_of_differences-some : (ps : List ℕ) (x : ℕ) → Bytes ps → x < 256 → ((i : ℕ) → i < length ps → x ≢ get_or ps i 0) → 0 < product_of_differences ps x
unfolding product_of_differences
product_of_differences-some [] x h hx apart = omega arith
product_of_differences-some (p ∷ ps) x h hx apart =
    let d : 0 < bit_xor x p = difference-some x p (apart 0 (omega arith)) in
    let rest : 0 < product_of_differences ps x = product_of_differences-some ps x h.1 hx (λ i l. apart (suc i) (omega arith)) in
    let b : product_of_differences ps x < 256 = product_of_differences-bound ps x h.1 hx in
    let a : bit_xor x p < 256 = xor_lt 8 x p hx h.0 in
    from (bit_xor x p) (product_of_differences ps x) d a rest b
  where
    from : (a b : ℕ) → 0 < a → a < 256 → 0 < b → b < 256 → 0 < field_product a b
    from a b some ha hb' hb = go (field_product a b) refl
      where
        go : (q : ℕ) → q ≡ field_product a b → 0 < field_product a b
        go zero e = let no : b ≡ 0 = no_zero_divisor a b some ha hb (sym e) in absurd (omega arith)
        go (suc q) e = omega arith
