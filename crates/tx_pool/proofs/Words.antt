-- Bytes, a front at a time.
use Rattle.std.proofs.Common.{◌≡◌, ℕ, zero, suc, ◌+◌, ◌/◌, ◌<◌, ◌≤◌, Bool, true, false, ◌&&◌, List, [], ◌∷◌, refl, sym, ap, ◌∙◌, subst, bytes_eq, length, take, drop, get_or, nat_eq}
use Rattle.std.proofs.Common.{arith}
use Rattle.std.specs.Cmp.{unsigned_Decides}
use Rattle.std.specs.List.{fold}
use Rattle.std.proofs.lemmas.Nat.{le_bytes_8}
use Rattle.std.proofs.lemmas.Slice.Eq.{bytes_eq-Decides}
use Rattle.tx_pool.specs.Marks.{stir, word, stir_words}

-- the words of bytes that have one in front
pub stir_step : (m : ℕ) (bytes after : List ℕ) → after ≡ drop 8 bytes → length after + 8 ≡ length bytes
    → stir_words (length bytes / 8) m bytes ≡ stir_words (length after / 8) (stir m (word (take 8 bytes))) after
unfolding stir_words
stir_step m bytes after is long =
    ap (λ (n : ℕ). stir_words n m bytes) count
    ∙ ap (λ (l : List ℕ). stir_words (length after / 8) (stir m (word (take 8 bytes))) l) (sym is)
  where
    count : length bytes / 8 ≡ suc (length after / 8)
    count = omega (arith, long)

-- fewer than eight bytes have no word
pub stir_rest : (m : ℕ) (bytes : List ℕ) → length bytes < 8 → stir_words (length bytes / 8) m bytes ≡ fold stir m bytes
unfolding stir_words
stir_rest m bytes short = ap (λ (n : ℕ). stir_words n m bytes) none
  where
    none : length bytes / 8 ≡ 0
    none = omega (arith, short)

and_assoc : (a b c : Bool) → (a && (b && c)) ≡ ((a && b) && c)
and_assoc true b c = refl
and_assoc false b c = refl

-- bytes are equal where their fronts and their rests are
pub bytes_eq-split : (n : ℕ) (xs ys : List ℕ) → bytes_eq xs ys ≡ (bytes_eq (take n xs) (take n ys) && bytes_eq (drop n xs) (drop n ys))
bytes_eq-split zero xs ys = refl
bytes_eq-split (suc n) [] [] = refl
bytes_eq-split (suc n) [] (y ∷ ys) = refl
bytes_eq-split (suc n) (x ∷ xs) [] = refl
bytes_eq-split (suc n) (x ∷ xs) (y ∷ ys) =
    ap (λ (b : Bool). nat_eq x y && b) (bytes_eq-split n xs ys)
    ∙ and_assoc (nat_eq x y) (bytes_eq (take n xs) (take n ys)) (bytes_eq (drop n xs) (drop n ys))

-- bytes differ where their fronts do
pub differ_in_front : (n : ℕ) (xs ys front other : List ℕ) → front ≡ take n xs → other ≡ take n ys → bytes_eq front other ≡ false
    → false ≡ bytes_eq xs ys
differ_in_front n xs ys front other is other_is differ =
    sym (bytes_eq-split n xs ys
    ∙ ap (λ (b : Bool). b && bytes_eq (drop n xs) (drop n ys)) (subst (λ (l : List ℕ). bytes_eq l (take n ys) ≡ false) is
    (subst (λ (l : List ℕ). bytes_eq front l ≡ false) other_is differ)))

-- where their fronts are equal their rests tell
pub same_in_front : (n : ℕ) (xs ys front other after other_after : List ℕ) → front ≡ take n xs → other ≡ take n ys → bytes_eq front other ≡ true
    → after ≡ drop n xs → other_after ≡ drop n ys → bytes_eq after other_after ≡ bytes_eq xs ys
same_in_front n xs ys front other after other_after is other_is same after_is other_after_is =
    ap (λ (l : List ℕ). bytes_eq l other_after) after_is
    ∙ ap (λ (l : List ℕ). bytes_eq (drop n xs) l) other_after_is
    ∙ sym (bytes_eq-split n xs ys
    ∙ ap (λ (b : Bool). b && bytes_eq (drop n xs) (drop n ys)) (subst (λ (l : List ℕ). bytes_eq l (take n ys) ≡ true) is
    (subst (λ (l : List ℕ). bytes_eq front l ≡ true) other_is same)))

-- and where one is long and one is short
pub differ_in_length : (n : ℕ) (xs ys : List ℕ) → n ≤ length xs → length ys < n → false ≡ bytes_eq xs ys
differ_in_length n xs ys long short = by (bytes_eq xs ys) refl
  where
    by : (b : Bool) → bytes_eq xs ys ≡ b → false ≡ b
    by true same = absurd (omega (arith, long, short, ap length ((bytes_eq-Decides xs ys).0 same)))
    by false differ = refl

-- eight bytes are equal where their numbers are
pub same_word : (xs ys : List ℕ) → length xs ≡ 8 → length ys ≡ 8 → ((i : ℕ) → get_or xs i 0 < 256) → ((i : ℕ) → get_or ys i 0 < 256)
    → nat_eq (word xs) (word ys) ≡ bytes_eq xs ys
unfolding word
same_word xs ys long other_long fit other_fit = by (nat_eq (word xs) (word ys)) refl (bytes_eq xs ys) refl
  where
    by : (b : Bool) → nat_eq (word xs) (word ys) ≡ b → (d : Bool) → bytes_eq xs ys ≡ d → b ≡ d
    by true same true e = refl
    by false differ false e = refl
    by true same false e =
        let equal : word xs ≡ word ys = (unsigned_Decides (word xs) (word ys)).0 same in
        let bytes : xs ≡ ys = sym (le_bytes_8 xs (word xs) long fit refl) ∙ le_bytes_8 ys (word xs) other_long other_fit equal in
        absurd (cc (sym e ∙ (bytes_eq-Decides xs ys).1 bytes))
    by false differ true e =
        absurd (cc (sym differ ∙ (unsigned_Decides (word xs) (word ys)).1 (ap (λ (l : List ℕ). word l) ((bytes_eq-Decides xs ys).0 e))))
