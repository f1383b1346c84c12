-- Walking through the entries of a half, one after another.
use Rattle.std.proofs.Common.{◌≡◌, ◌≤◌, ◌<◌, ◌+◌, ⊎_elim, ℕ, true, false, zero, suc, List, [], ◌∷◌, ◌++◌, length, refl, sym, ◌∙◌, ap, subst, arith}
use Rattle.std.specs.List.{concat}
use Rattle.std.proofs.lemmas.Bool.{cases_Bool, cond-true, cond-false, and_parts, ltb-true}
use Rattle.std.proofs.lemmas.List.{length-append, append_assoc, append-nil, length-drop, length-take-le}
use Rattle.vote_journal.specs.Text.{size_of, has_entry, payload_of, behind, entries_in, rest_in}

-- what is taken away with an entry: its gate, the four bytes of its length, and its payload
pub lengths : (bytes : List ℕ) → has_entry bytes ≡ true → (length (behind bytes) + (5 + length (payload_of bytes)) ≡ length bytes) × (1 ≤ length (behind bytes))
lengths [] h = absurd (cc)
lengths (a ∷ []) h = absurd (cc)
lengths (a ∷ b ∷ []) h = absurd (cc)
lengths (a ∷ b ∷ c ∷ []) h = absurd (cc)
lengths (a ∷ b ∷ c ∷ d ∷ []) h = absurd (cc)
lengths (gate ∷ a ∷ b ∷ c ∷ d ∷ rest) h =
    let fits : size_of a b c d < length rest = ltb-true _ _ (and_parts _ _ h).1 in
    let back = length-drop (size_of a b c d) rest in
    let front = length-take-le (size_of a b c d) rest (omega (arith, fits)) in
    (omega (arith, fits, back, front), omega (arith, fits, back))

-- more turns than bytes find nothing more
enough : (m n : ℕ) (bytes : List ℕ) → length bytes ≤ m → length bytes ≤ n → (entries_in m bytes ≡ entries_in n bytes) × (rest_in m bytes ≡ rest_in n bytes)
unfolding entries_in rest_in
enough zero zero bytes h k = (refl, refl)
enough zero (suc n) [] h k = (refl, refl)
enough zero (suc n) (b ∷ bytes) h k = absurd (omega (arith, h))
enough (suc m) zero [] h k = (refl, refl)
enough (suc m) zero (b ∷ bytes) h k = absurd (omega (arith, k))
enough (suc m) (suc n) bytes h k =
    ⊎_elim
    (λ (present : has_entry bytes ≡ true).
    let shorter = (lengths bytes present).0 in
    let rest = enough m n (behind bytes) (omega (arith, shorter, h)) (omega (arith, shorter, k)) in (
      cond-true _ _ _ present ∙ ap (λ (es : List (List ℕ)). payload_of bytes ∷ es) rest.0 ∙ sym (cond-true _ _ _ present),
      cond-true _ _ _ present
          ∙ rest.1 ∙ sym (cond-true _ _ _ present),
    ))
    (λ (no_entry : has_entry bytes ≡ false). (
      cond-false _ _ _ no_entry ∙ sym (cond-false _ _ _ no_entry),
      cond-false _ _ _ no_entry
          ∙ sym (cond-false _ _ _ no_entry),
    ))
    (cases_Bool (has_entry bytes))

pub entries_enough : (m : ℕ) (bytes : List ℕ) → length bytes ≤ m → entries_in m bytes ≡ entries_in (length bytes) bytes
entries_enough m bytes h = (enough m (length bytes) bytes h (omega arith)).0

pub rest_enough : (m : ℕ) (bytes : List ℕ) → length bytes ≤ m → rest_in m bytes ≡ rest_in (length bytes) bytes
rest_enough m bytes h = (enough m (length bytes) bytes h (omega arith)).1

one_turn : (n : ℕ) (bytes : List ℕ) → has_entry bytes ≡ true → (entries_in (suc n) bytes ≡ payload_of bytes ∷ entries_in n (behind bytes))
    × (rest_in (suc n) bytes ≡ rest_in n (behind bytes))
unfolding entries_in rest_in
one_turn n bytes present = (cond-true _ _ _ present, cond-true _ _ _ present)

last_turn : (n : ℕ) (bytes : List ℕ) → has_entry bytes ≡ false → (entries_in n bytes ≡ []) × (rest_in n bytes ≡ bytes)
unfolding entries_in rest_in
last_turn zero bytes no_entry = (refl, refl)
last_turn (suc n) bytes no_entry = (cond-false _ _ _ no_entry, cond-false _ _ _ no_entry)

pub step : (bytes : List ℕ) → has_entry bytes ≡ true
    → (entries_in (length bytes) bytes ≡ payload_of bytes ∷ entries_in (length (behind bytes)) (behind bytes))
    × (rest_in (length bytes) bytes ≡ rest_in (length (behind bytes)) (behind bytes))
step bytes present =
    let l = lengths bytes present in
    let n : ℕ = length (behind bytes) + (4 + length (payload_of bytes)) in
    let e : length bytes ≡ suc n = omega (arith, l.0) in
    let t = one_turn n bytes present in (
      ap (λ (k : ℕ). entries_in k bytes) e ∙ t.0 ∙ ap (λ (es : List (List ℕ)). payload_of bytes ∷ es) (entries_enough n (behind bytes) (omega arith)),
      ap (λ (k : ℕ). rest_in k bytes) e ∙ t.1 ∙ rest_enough n (behind bytes) (omega arith),
    )

pub none_left : (bytes : List ℕ) → has_entry bytes ≡ false → (entries_in (length bytes) bytes ≡ []) × (rest_in (length bytes) bytes ≡ bytes)
none_left bytes no_entry = last_turn (length bytes) bytes no_entry

-- what a walk keeps: what was found and what is left to find
pub record Walks (bytes rest : List ℕ) (found : List (List ℕ)) (total : ℕ) : Type 0 where
  pub entries : found ++ entries_in (length rest) rest ≡ entries_in (length bytes) bytes
  pub end : rest_in (length rest) rest ≡ rest_in (length bytes) bytes
  pub total_is : total ≡ length (concat found)
  pub room : total + length rest ≤ length bytes

concat_push : (es : List (List ℕ)) (p : List ℕ) → length (concat (es ++ p ∷ [])) ≡ length (concat es) + length p
concat_push [] p = omega (arith, length-append p [])
concat_push (e ∷ es) p = omega (arith, concat_push es p, length-append e (concat es), length-append e (concat (es ++ p ∷ [])))

pub walk_on : (bytes rest after payload : List ℕ) (found found' : List (List ℕ)) (total total' : ℕ) → Walks bytes rest found total
    → has_entry rest ≡ true → payload ≡ payload_of rest → after ≡ behind rest → found' ≡ found ++ payload ∷ [] → total' ≡ total + length payload
    → Walks bytes after found' total'
walk_on bytes rest after payload found found' total total' walks present p a f t =
    let s = step rest present in
    let l = lengths rest present in
    let e : found' ≡ found ++ payload_of rest ∷ [] = f ∙ ap (λ (x : List ℕ). found ++ x ∷ []) p in
    subst (λ (xs : List ℕ). Walks bytes xs found' total') (sym a) (record {
      entries = ap (λ (es : List (List ℕ)). es ++ entries_in (length (behind rest)) (behind rest)) e
          ∙ append_assoc found (payload_of rest ∷ []) (entries_in (length (behind rest)) (behind rest))
          ∙ ap (λ (es : List (List ℕ)). found ++ es) (sym s.0) ∙ walks.entries;
      end = sym s.1 ∙ walks.end;
      total_is = omega (arith, t, walks.total_is, ap length p, concat_push found (payload_of rest), ap (λ (es : List (List ℕ)). length (concat es)) e);
      room = omega (arith, t, l.0, walks.room, ap length p);
    })

pub walk_ends : (bytes rest : List ℕ) (found : List (List ℕ)) (total : ℕ) → Walks bytes rest found total → has_entry rest ≡ false
    → (found ≡ entries_in (length bytes) bytes) × (rest ≡ rest_in (length bytes) bytes)
walk_ends bytes rest found total walks no_entry =
    let l = none_left rest no_entry in
    (sym (append-nil found) ∙ ap (λ (es : List (List ℕ)). found ++ es) (sym l.0) ∙ walks.entries, sym l.1 ∙ walks.end)

-- gathering the payloads of a walk
pub gather_on : (text text' payload rest after all : List ℕ) → text ++ concat (entries_in (length rest) rest) ≡ all → has_entry rest ≡ true
    → payload ≡ payload_of rest → after ≡ behind rest → text' ≡ text ++ payload
    → text' ++ concat (entries_in (length after) after) ≡ all
gather_on text text' payload rest after all kept present p a t =
    let s = step rest present in
    ap (λ (xs : List ℕ). text' ++ concat (entries_in (length xs) xs)) a
    ∙ ap (λ (xs : List ℕ). xs ++ concat (entries_in (length (behind rest)) (behind rest))) (t ∙ ap (λ (xs : List ℕ). text ++ xs) p)
    ∙ append_assoc text (payload_of rest) (concat (entries_in (length (behind rest)) (behind rest)))
    ∙ ap (λ (es : List (List ℕ)). text ++ concat es) (sym s.0) ∙ kept

pub gather_ends : (text rest all : List ℕ) → text ++ concat (entries_in (length rest) rest) ≡ all → has_entry rest ≡ false → text ≡ all
gather_ends text rest all kept closed = sym (append-nil text) ∙ ap (λ (es : List (List ℕ)). text ++ concat es) (sym (none_left rest closed).0) ∙ kept
