-- Tearing a list of bytes, one range after another.
use Rattle.std.proofs.Common.{◌≡◌, ◌<◌, ◌+◌, ◌%◌, ◌==◌, ◌&&◌, ◌||◌, length, ℕ, List, [], ◌∷◌, Bool, true, false, suc, zero, if◌then◌else◌}
use Rattle.std.proofs.Common.{slice_index, nat_lt, refl, sym, ◌∙◌, ap, arith}
use Rattle.std.proofs.lemmas.List.{ext_get_or}
use Rattle.disk_model.specs.declared.span.Span.{Span}
use Rattle.disk_model.specs.Area.{is_in, is_written, torn_from}

-- the byte at k once those below `at` are torn
abbrev pub torn_below : Span → List ℕ → ℕ → ℕ → ℕ
torn_below span bytes at k = if nat_lt k at && is_in span k && k % 2 == 1 then 0x5A else slice_index bytes k

pub length-torn_from : (spans : List Span) (at : ℕ) (xs : List ℕ) → length (torn_from spans at xs) ≡ length xs
length-torn_from spans at [] = refl
length-torn_from spans at (x ∷ xs) = ap (λ n. suc n) (length-torn_from spans (at + 1) xs)

pub slice_index-torn_from : (spans : List Span) (at : ℕ) (xs : List ℕ) (k j : ℕ) → k < length xs → at + k ≡ j
    → slice_index (torn_from spans at xs) k ≡ (if is_written spans j && j % 2 == 1 then 0x5A else slice_index xs k)
slice_index-torn_from spans at [] k j h e = absurd (omega (arith, h))
slice_index-torn_from spans at (x ∷ xs) zero j h e = ap (λ n. if is_written spans n && n % 2 == 1 then 0x5A else x) (omega arith)
slice_index-torn_from spans at (x ∷ xs) (suc k) j h e = slice_index-torn_from spans (at + 1) xs k j (omega arith) (omega arith)

-- a byte that two tears meet is torn, and so is one that either meets
one_more : (here later odd : Bool) (x : ℕ) → (if (here || later) && odd then 0x5A else x) ≡ (if later && odd then 0x5A else (if here && odd then 0x5A else x))
one_more true true true x = refl
one_more true true false x = refl
one_more true false true x = refl
one_more true false false x = refl
one_more false true true x = refl
one_more false true false x = refl
one_more false false true x = refl
one_more false false false x = refl

pub torn_more : (span : Span) (spans : List Span) (xs ys : List ℕ) → length ys ≡ length xs
    → ((k : ℕ) → k < length xs → slice_index ys k ≡ (if is_in span k && k % 2 == 1 then 0x5A else slice_index xs k))
    → torn_from spans 0 ys ≡ torn_from (span ∷ spans) 0 xs
torn_more span spans xs ys same each =
    ext_get_or 0 _ _ (length-torn_from spans 0 ys ∙ same ∙ sym (length-torn_from (span ∷ spans) 0 xs)) (λ k h.
    let l : k < length ys = omega (arith, h, length-torn_from spans 0 ys) in
    let m : k < length xs = omega arith in
    slice_index-torn_from spans 0 ys k k l (omega arith)
    ∙ ap (λ y. if is_written spans k && k % 2 == 1 then 0x5A else y) (each k m)
    ∙ sym (one_more (is_in span k) (is_written spans k) (k % 2 == 1) (slice_index xs k))
    ∙ sym (slice_index-torn_from (span ∷ spans) 0 xs k k m (omega arith)))

pub torn_none : (at : ℕ) (xs : List ℕ) → torn_from [] at xs ≡ xs
torn_none at [] = refl
torn_none at (x ∷ xs) = ap (λ ys. x ∷ ys) (torn_none (at + 1) xs)
