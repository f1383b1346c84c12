-- Putting back what was written over.
use Rattle.std.proofs.Common.{◌≡◌, ◌≤◌, ◌+◌, ◌-◌, ℕ, List, [], ◌∷◌, ◌++◌, length, min, take, drop, refl, sym, ap, subst, ◌∙◌, arith}
use Rattle.std.proofs.lemmas.List.{ext_get_or, places, length-take-le}
use Rattle.disk_model.specs.declared.undo.Saved.{Saved}
use Rattle.disk_model.specs.Disk.{overwritten}
use Rattle.disk_model.specs.Undo.{UndoState, put_back, AreWithin}
use Rattle.disk_model.proofs.Lists.{length-overwritten}

-- what lies within the first n bytes does so with one more range that lies there too
pub within_push : (n : ℕ) (saved : List Saved) (last : Saved) → AreWithin n saved → last.at + length last.bytes.items ≤ n → AreWithin n (saved ++ last ∷ [])
within_push n [] last all l = (l, tt)
within_push n (first ∷ later) last all l = (all.0, within_push n later last all.1 l)

-- and of the parts of what was saved
pub within_parts : (n : ℕ) (saved : List Saved) (last : Saved) → AreWithin n (saved ++ last ∷ []) → AreWithin n saved × (last.at + length last.bytes.items ≤ n)
within_parts n [] last all = (tt, all.0)
within_parts n (first ∷ later) last all =
    let rest = within_parts n later last all.1 in
    ((all.0, rest.0), rest.1)

-- putting back changes no length
length-put_back : (saved : List Saved) (bytes : List ℕ) → AreWithin (length bytes) saved → length (put_back saved bytes) ≡ length bytes
length-put_back [] bytes all = refl
length-put_back (first ∷ later) bytes all =
    let rest : length (put_back later bytes) ≡ length bytes = length-put_back later bytes all.1 in
    omega (arith, rest, all.0, length-overwritten first.at first.bytes.items (put_back later bytes) (omega (arith, rest, all.0)))

-- as many bytes as were settled
pub length-settled : (n : ℕ) (saved : List Saved) (bytes : List ℕ) → AreWithin n saved → n ≤ length bytes → length (put_back saved (take n bytes)) ≡ n
length-settled n saved bytes all fits =
    length-put_back saved (take n bytes) (subst (λ (m : ℕ). AreWithin m saved) (sym (length-take-le n bytes fits)) all) ∙ length-take-le n bytes fits

-- the last is put back first
pub put_back_last : (saved : List Saved) (last : Saved) (bytes : List ℕ)
    → put_back (saved ++ last ∷ []) bytes ≡ put_back saved (overwritten last.at last.bytes.items bytes)
put_back_last [] last bytes = refl
put_back_last (first ∷ later) last bytes = ap (λ (xs : List ℕ). overwritten first.at first.bytes.items xs) (put_back_last later last bytes)

-- of the first n bytes a write changes only those that were there
undone : (n at from over : ℕ) (bytes old : List ℕ) → from ≡ min at n → over ≡ min (length bytes) (n - from) → at ≤ length old → n ≤ length old
    → overwritten from (take over (drop from old)) (take n (overwritten at bytes old)) ≡ take n old
undone n at from over bytes old f e h fits =
    ext_get_or 0 _ _ (let g : length (overwritten from (take over (drop from old)) (take n (overwritten at bytes old))) ≡ length (take n old) = grind (arith, places) in g)
    (λ k l. grind (arith, places))

-- a write whose range was saved changes nothing of what is put back
pub stays_settled : (n at from over : ℕ) (bytes old kept : List ℕ) (saved : List Saved) (last : Saved) → from ≡ min at n → over ≡ min (length bytes) (n - from)
    → at ≤ length old → n ≤ length old → last.at ≡ from → kept ≡ take over (drop from old) → last.bytes.items ≡ kept
    → put_back (saved ++ last ∷ []) (take n (overwritten at bytes old)) ≡ put_back saved (take n old)
stays_settled n at from over bytes old kept saved last f e h fits here is held =
    put_back_last saved last (take n (overwritten at bytes old))
    ∙ ap (λ (xs : List ℕ). put_back saved (overwritten last.at xs (take n (overwritten at bytes old)))) (held ∙ is)
    ∙ ap (λ (m : ℕ). put_back saved (overwritten m (take over (drop from old)) (take n (overwritten at bytes old)))) here
    ∙ ap (λ (xs : List ℕ). put_back saved xs) (undone n at from over bytes old f e h fits)

-- two states are one where their fields are
pub same_state : (xs ys settled kept : List ℕ) (one two : UndoState) → one ≡ record { current = xs; settled = settled } → two ≡ record { current = ys; settled = kept } → xs ≡ ys → settled ≡ kept
    → one ≡ two
same_state xs ys settled kept one two a b e1 e2 = rw (a, b, e1, e2) refl

-- the last of what is left lies within the bytes, and so does the rest once it is put back
pub last_within : (n : ℕ) (saved now : List Saved) (last : Saved) → now ≡ saved ++ last ∷ [] → AreWithin n now → last.at + length last.bytes.items ≤ n
last_within n saved now last e all = (within_parts n saved last (subst (λ (xs : List Saved). AreWithin n xs) e all)).1

pub rest_within : (bytes made : List ℕ) (saved now : List Saved) (last : Saved) → now ≡ saved ++ last ∷ [] → made ≡ overwritten last.at last.bytes.items bytes
    → AreWithin (length bytes) now → AreWithin (length made) saved
rest_within bytes made saved now last e put all =
    let parts = within_parts (length bytes) saved last (subst (λ (xs : List Saved). AreWithin (length bytes) xs) e all) in
    let same : length bytes ≡ length made = omega (arith, ap length put, length-overwritten last.at last.bytes.items bytes (omega (arith, parts.1)), parts.1) in
    subst (λ (n : ℕ). AreWithin n saved) same parts.0

-- putting the last back leaves the rest to do
pub put_back_rest : (bytes made : List ℕ) (saved now : List Saved) (last : Saved) → now ≡ saved ++ last ∷ [] → made ≡ overwritten last.at last.bytes.items bytes
    → put_back now bytes ≡ put_back saved made
put_back_rest bytes made saved now last e put =
    ap (λ (xs : List Saved). put_back xs bytes) e ∙ put_back_last saved last bytes ∙ ap (λ (xs : List ℕ). put_back saved xs) (sym put)
