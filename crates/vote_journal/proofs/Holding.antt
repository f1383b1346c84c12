-- A sound half of more than 9 bytes holds its entries.
use Rattle.std.proofs.Common.{◌≡◌, ◌≤◌, ◌<◌, ◌+◌, ◌-◌, ◌*◌, ◌/◌, ◌%◌, ◌==◌, ⊎_elim, ℕ, Bool, true, false, zero, suc, cond, List, [], ◌∷◌}
use Rattle.std.proofs.Common.{◌++◌, length, take, drop, slice_index, refl, sym, ◌∙◌, ap, subst, arith}
use Rattle.std.proofs.lemmas.Bool.{cases_Bool, and_parts, eqb-true, ltb-true}
use Rattle.std.proofs.lemmas.List.{length-append, append_assoc, length-drop, length-take-le, take-append-drop, get_or-drop, get_or_past}
use Rattle.vote_journal.specs.Text.{HasBytes, magic, size_of, size_bytes, has_entry, payload_of, behind, entries_in, rest_in, half_entries}
use Rattle.vote_journal.specs.Text.{gate_of, blocks, AreShort, HoldsEntries}
use Rattle.vote_journal.proofs.Walk.{lengths}

behind_bytes : (n : ℕ) (bytes : List ℕ) → HasBytes bytes → HasBytes (drop n bytes)
behind_bytes n bytes small = record { each = λ k. subst (λ (x : ℕ). x < 256) (sym (get_or-drop n bytes k 0)) (small.each (n + k)) }

four_back : (a b c d : ℕ) → a < 256 → b < 256 → c < 256 → d < 256 → size_bytes (size_of a b c d) ≡ a ∷ b ∷ c ∷ d ∷ []
four_back a b c d p q r s =
    let n : ℕ = size_of a b c d in
    let e3 : n / 256 ≡ (a * 256 + b) * 256 + c = omega arith in
    let e2 : n / 256 / 256 ≡ a * 256 + b = omega arith in
    let e1 : n / 256 / 256 / 256 ≡ a = omega arith in
    let f2 : (n / 256 / 256) % 256 ≡ b = omega arith in
    let f3 : (n / 256) % 256 ≡ c = omega arith in
    let f4 : n % 256 ≡ d = omega arith in
    ap (λ (x : ℕ). x ∷ (n / 256 / 256) % 256 ∷ (n / 256) % 256 ∷ n % 256 ∷ []) e1 ∙ ap (λ (x : ℕ). a ∷ x ∷ (n / 256) % 256 ∷ n % 256 ∷ []) f2
    ∙ ap (λ (x : ℕ). a ∷ b ∷ x ∷ n % 256 ∷ []) f3 ∙ ap (λ (x : ℕ). a ∷ b ∷ c ∷ x ∷ []) f4

no_bytes : HasBytes []
no_bytes = record { each = λ k. omega (arith, get_or_past {X = ℕ} [] k 0 (omega arith)) }

small_behind : (bytes : List ℕ) → HasBytes bytes → HasBytes (behind bytes)
small_behind [] small = no_bytes
small_behind (a ∷ []) small = no_bytes
small_behind (a ∷ b ∷ []) small = no_bytes
small_behind (a ∷ b ∷ c ∷ []) small = no_bytes
small_behind (a ∷ b ∷ c ∷ d ∷ []) small = no_bytes
small_behind (gate ∷ a ∷ b ∷ c ∷ d ∷ rest) small = behind_bytes (size_of a b c d) rest (record { each = λ k. small.each (suc (suc (suc (suc (suc k))))) })

pub record Parsed (bytes : List ℕ) (entries : List (List ℕ)) (rest : List ℕ) : Type 0 where
  pub is : bytes ≡ blocks entries ++ rest
  pub short : AreShort entries
  pub some : 1 ≤ length bytes → 1 ≤ length rest

-- an entry in front
parsed_more : (bytes : List ℕ) (entries : List (List ℕ)) (rest : List ℕ) → HasBytes bytes → has_entry bytes ≡ true
    → Parsed (behind bytes) entries rest → Parsed bytes (payload_of bytes ∷ entries) rest
parsed_more [] entries rest small h parsed = absurd (cc)
parsed_more (a ∷ []) entries rest small h parsed = absurd (cc)
parsed_more (a ∷ b ∷ []) entries rest small h parsed = absurd (cc)
parsed_more (a ∷ b ∷ c ∷ []) entries rest small h parsed = absurd (cc)
parsed_more (a ∷ b ∷ c ∷ d ∷ []) entries rest small h parsed = absurd (cc)
parsed_more (gate ∷ a ∷ b ∷ c ∷ d ∷ more) entries rest small h parsed =
    let parts = and_parts (gate == 0x5A) _ h in
    let n : ℕ = size_of a b c d in
    let fits : n < length more = ltb-true _ _ parts.1 in
    let long : length (take n more) ≡ n = length-take-le n more (omega (arith, fits)) in
    let a1 : a < 256 = small.each 1 in
    let b1 : b < 256 = small.each 2 in
    let c1 : c < 256 = small.each 3 in
    let d1 : d < 256 = small.each 4 in
    let size : size_bytes (length (take n more)) ≡ a ∷ b ∷ c ∷ d ∷ [] = ap size_bytes long ∙ four_back a b c d a1 b1 c1 d1 in
    let l = lengths (gate ∷ a ∷ b ∷ c ∷ d ∷ more) h in
    let split : more ≡ (take n more ++ blocks entries) ++ rest = sym (take-append-drop n more) ∙ ap (λ (xs : List ℕ). take n more ++ xs) parsed.is
    ∙ sym (append_assoc (take n more) (blocks entries) rest) in
    record {
      is = ap (λ (g : ℕ). g ∷ a ∷ b ∷ c ∷ d ∷ more) (eqb-true gate 0x5A parts.0) ∙ ap (λ (xs : List ℕ). 0x5A ∷ a ∷ b ∷ c ∷ d ∷ xs) split
          ∙ ap (λ (four : List ℕ). 0x5A ∷ four ++ ((take n more ++ blocks entries) ++ rest)) (sym size);
      short = (omega (arith, long, a1, b1, c1, d1), parsed.short);
      some = λ _. parsed.some l.1;
    }

pub parsed_in : (most : ℕ) (bytes : List ℕ) → HasBytes bytes → Parsed bytes (entries_in most bytes) (rest_in most bytes)
unfolding entries_in rest_in
parsed_in zero bytes small = record { is = refl; short = tt; some = λ h. h }
parsed_in (suc most) bytes small =
    let P : Bool → Type 0 = λ t. Parsed bytes (cond t (payload_of bytes ∷ entries_in most (behind bytes)) []) (cond t (rest_in most (behind bytes)) bytes) in
    ⊎_elim
    (λ (present : has_entry bytes ≡ true).
    subst P (sym present) (parsed_more bytes (entries_in most (behind bytes)) (rest_in most (behind bytes)) small present
    (parsed_in most (behind bytes) (small_behind bytes small))))
    (λ (closed : has_entry bytes ≡ false). subst P (sym closed) (record { is = refl; short = tt; some = λ h. h }))
    (cases_Bool (has_entry bytes))

nonempty : (xs : List ℕ) → 1 ≤ length xs → (g : ℕ) × (r : List ℕ) × (xs ≡ g ∷ r)
nonempty [] h = absurd (omega (arith, h))
nonempty (g ∷ r) h = (g, r, refl)

-- such a half holds its entries
pub holding : (half : List ℕ) → HasBytes half → 9 < length half → take 8 half ≡ magic → (gate_of half == 0x5A) ≡ false → HoldsEntries half (half_entries half)
holding half small long begins closed =
    let bytes = drop 8 half in
    let rest = rest_in (length half) bytes in
    let p = parsed_in (length half) bytes (behind_bytes 8 half small) in
    let n = nonempty rest (p.some (omega (arith, long, length-drop 8 half))) in
    let whole : half ≡ magic ++ bytes = sym (take-append-drop 8 half) ∙ ap (λ (xs : List ℕ). xs ++ bytes) begins in
    let g : gate_of half ≡ n.0 = ap (λ (xs : List ℕ). slice_index xs 0) n.2 in
    record {
      gate = n.0;
      tail = n.1;
      is = whole ∙ ap (λ (xs : List ℕ). magic ++ xs) (p.is ∙ ap (λ (xs : List ℕ). blocks (half_entries half) ++ xs) n.2);
      closed = ap (λ (x : ℕ). x == 0x5A) (sym g) ∙ closed;
      short = p.short;
    }

-- and the gate behind its entries stands where they end
pub gate_stands : (half : List ℕ) → HasBytes half → length (drop 8 half) - length (rest_in (length half) (drop 8 half)) ≡ length (blocks (half_entries half))
gate_stands half small =
    let p = parsed_in (length half) (drop 8 half) (behind_bytes 8 half small) in
    omega (arith, ap length p.is, length-append (blocks (half_entries half)) (rest_in (length half) (drop 8 half)))
