-- The entries that a half holds, and what writes that a crash cuts short leave of them.
use Rattle.std.proofs.Common.{◌≡◌, ◌≤◌, ◌/◌, ◌%◌, ◌==◌, inl, inr, ℕ, true, false, zero, suc, List, [], ◌∷◌, ◌++◌, length, take, drop}
use Rattle.std.proofs.Common.{slice_index, refl, sym, ◌∙◌, ap, arith}
use Rattle.std.proofs.lemmas.Bool.{cond-true, cond-false, and_left, and_from, lt-ltb}
use Rattle.std.proofs.lemmas.List.{length-append, append_assoc, take_at, drop_at, length-drop}
use Rattle.vote_journal.specs.Text.{size_of, has_entry, payload_of, behind, entries_in, rest_in, size_bytes, blocks, HoldsEntries, HalfHas}

-- a closed gate has no entry
closed_entry : (gate : ℕ) (tail : List ℕ) → (gate == 0x5A) ≡ false → has_entry (gate ∷ tail) ≡ false
closed_entry gate [] closed = refl
closed_entry gate (a ∷ []) closed = refl
closed_entry gate (a ∷ b ∷ []) closed = refl
closed_entry gate (a ∷ b ∷ c ∷ []) closed = refl
closed_entry gate (a ∷ b ∷ c ∷ d ∷ rest) closed = and_left _ _ closed

size_back : (n : ℕ) → size_of (n / 256 / 256 / 256) ((n / 256 / 256) % 256) ((n / 256) % 256) (n % 256) ≡ n
size_back n = omega arith

closed_in : (gate : ℕ) (tail : List ℕ) (most : ℕ) → (gate == 0x5A) ≡ false → entries_in most (gate ∷ tail) ≡ []
unfolding entries_in
closed_in gate tail zero closed = refl
closed_in gate tail (suc most) closed = cond-false _ _ _ (closed_entry gate tail closed)

closed_rest : (gate : ℕ) (tail : List ℕ) (most : ℕ) → (gate == 0x5A) ≡ false → rest_in most (gate ∷ tail) ≡ gate ∷ tail
unfolding rest_in
closed_rest gate tail zero closed = refl
closed_rest gate tail (suc most) closed = cond-false _ _ _ (closed_entry gate tail closed)

-- an open entry first
module _ (entry : List ℕ) (gate : ℕ) (rest : List ℕ) where
  abbrev opened : List ℕ
  opened = 0x5A ∷ size_bytes (length entry) ++ (entry ++ gate ∷ rest)

  whole : has_entry opened ≡ true
  whole = and_from true _ refl (lt-ltb _ _ (omega (arith, size_back (length entry), length-append entry (gate ∷ rest))))

  first : payload_of opened ≡ entry
  first = ap (λ (n : ℕ). take n (entry ++ gate ∷ rest)) (size_back (length entry)) ∙ take_at entry (gate ∷ rest) (length entry) refl

  next : behind opened ≡ gate ∷ rest
  next = ap (λ (n : ℕ). drop n (entry ++ gate ∷ rest)) (size_back (length entry)) ∙ drop_at entry (gate ∷ rest) (length entry) refl

  pub opened_in : (most : ℕ) → entries_in (suc most) opened ≡ entry ∷ entries_in most (gate ∷ rest)
  unfolding entries_in
  opened_in most = cond-true _ _ _ whole ∙ ap (λ (e : List ℕ). e ∷ entries_in most (behind opened)) first ∙ ap (λ (b : List ℕ). entry ∷ entries_in most b) next

  pub opened_rest : (most : ℕ) → rest_in (suc most) opened ≡ rest_in most (gate ∷ rest)
  unfolding rest_in
  opened_rest most = cond-true _ _ _ whole ∙ ap (rest_in most) next

-- what stands behind the blocks begins with a gate, so the blocks of some entries begin with one too
pub gate_first : (entries : List (List ℕ)) (gate : ℕ) (tail : List ℕ) → (g : ℕ) × (r : List ℕ) × (blocks entries ++ gate ∷ tail ≡ g ∷ r)
gate_first [] gate tail = (gate, tail, refl)
gate_first (entry ∷ entries) gate tail = (0x5A, size_bytes (length entry) ++ ((entry ++ blocks entries) ++ gate ∷ tail), refl)

block_first : (entry : List ℕ) (entries : List (List ℕ)) (gate : ℕ) (tail : List ℕ) (g : ℕ) (r : List ℕ) → blocks entries ++ gate ∷ tail ≡ g ∷ r
    → blocks (entry ∷ entries) ++ gate ∷ tail ≡ 0x5A ∷ size_bytes (length entry) ++ (entry ++ g ∷ r)
block_first entry entries gate tail g r e =
    ap (λ (xs : List ℕ). 0x5A ∷ size_bytes (length entry) ++ xs) (append_assoc entry (blocks entries) (gate ∷ tail) ∙ ap (λ (xs : List ℕ). entry ++ xs) e)

pub held_in : (entries : List (List ℕ)) (gate : ℕ) (tail : List ℕ) (most : ℕ) → (gate == 0x5A) ≡ false → length entries ≤ most
    → entries_in most (blocks entries ++ gate ∷ tail) ≡ entries
held_in [] gate tail most closed h = closed_in gate tail most closed
held_in (entry ∷ entries) gate tail zero closed h = absurd (omega (arith, h))
held_in (entry ∷ entries) gate tail (suc most) closed h =
    let f = gate_first entries gate tail in
    ap (entries_in (suc most)) (block_first entry entries gate tail f.0 f.1 f.2) ∙ opened_in entry f.0 f.1 most
    ∙ ap (λ (xs : List ℕ). entry ∷ entries_in most xs) (sym f.2)
    ∙ ap (λ (es : List (List ℕ)). entry ∷ es) (held_in entries gate tail most closed (omega (arith, h)))

held_rest : (entries : List (List ℕ)) (gate : ℕ) (tail : List ℕ) (most : ℕ) → (gate == 0x5A) ≡ false → length entries ≤ most
    → rest_in most (blocks entries ++ gate ∷ tail) ≡ gate ∷ tail
held_rest [] gate tail most closed h = closed_rest gate tail most closed
held_rest (entry ∷ entries) gate tail zero closed h = absurd (omega (arith, h))
held_rest (entry ∷ entries) gate tail (suc most) closed h =
    let f = gate_first entries gate tail in
    ap (rest_in (suc most)) (block_first entry entries gate tail f.0 f.1 f.2) ∙ opened_rest entry f.0 f.1 most
    ∙ ap (rest_in most) (sym f.2) ∙ held_rest entries gate tail most closed (omega (arith, h))

-- blocks are no fewer bytes than entries
pub length-blocks : (entries : List (List ℕ)) → length entries ≤ length (blocks entries)
length-blocks [] = omega arith
length-blocks (entry ∷ entries) = omega (arith, length-blocks entries, length-append entry (blocks entries))

pub holds_has : (half : List ℕ) (entries : List (List ℕ)) → HoldsEntries half entries → HalfHas half entries
holds_has half entries holds =
    let bytes = blocks entries ++ holds.gate ∷ holds.tail in
    let long : length entries ≤ length half =
    omega (arith, length-blocks entries, ap length holds.is, length-append (blocks entries) (holds.gate ∷ holds.tail)) in
    let is : drop 8 half ≡ bytes = ap (drop 8) holds.is in
    record {
      sound = inr (
        ap (take 8) holds.is,
        ap (λ (g : ℕ). g == 0x5A) (ap (λ (xs : List ℕ). slice_index xs 0) (ap (rest_in (length half)) is
            ∙ held_rest entries holds.gate holds.tail (length half) holds.closed long)) ∙ holds.closed,
      );
      has = ap (entries_in (length half)) is ∙ held_in entries holds.gate holds.tail (length half) holds.closed long;
    }

no_room : (bytes : List ℕ) (most : ℕ) → length bytes ≤ 1 → entries_in most bytes ≡ []
unfolding entries_in
no_room bytes zero h = refl
no_room [] (suc most) h = refl
no_room (a ∷ []) (suc most) h = refl
no_room (a ∷ b ∷ rest) (suc most) h = absurd (omega (arith, h))

-- a half of at most 9 bytes has no entry
pub short_has : (half : List ℕ) → length half ≤ 9 → HalfHas half []
short_has half h = record { sound = inl h; has = no_room (drop 8 half) (length half) (omega (arith, length-drop 8 half)) }
