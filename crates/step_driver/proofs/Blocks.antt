-- Envelopes that lie in blocks: one is added, and one taken out.
use Rattle.std.proofs.Common.{◌≡◌, ℕ, zero, suc, ◌+◌, ◌-◌, ◌<◌, ◌≤◌, List, [], ◌∷◌, ◌++◌, length, take, drop, set, remove, get_or, Some, add-one, refl, sym, ap, ◌∙◌, subst, append_assoc, append-nil, arith, slice_get, length-append}
use Rattle.std.proofs.lemmas.List.{take-set, drop-set-lt, take_all}
use Rattle.std.proofs.lemmas.Option.{slice_get-get_or, slice_get_within}
use Rattle.std.specs.Prelude.{Option, IfSome}
use Rattle.std.proofs.lemmas.List.Edits.{remove-append_left, remove-append_right, length-remove}
use Rattle.step_driver.specs.declared.envelope.Envelope.{Envelope}
use Rattle.step_driver.specs.Blocks.{joined, IsTakenAt}

abbrev pub Block : Type 0
Block = List Envelope

pub joined-append : (front mid : List Block) → joined (front ++ mid) ≡ joined front ++ joined mid
joined-append [] mid = refl
joined-append (a ∷ front) mid = ap (λ (es : List Envelope). a ++ es) (joined-append front mid) ∙ sym (append_assoc a (joined front) (joined mid))

pub slice_get-append_left : {A : Type 0} (xs ys : List A) (i : ℕ) → i < length xs → slice_get (xs ++ ys) i ≡ slice_get xs i
slice_get-append_left [] ys i within = absurd (omega (arith, within))
slice_get-append_left (x ∷ xs) ys zero within = refl
slice_get-append_left (x ∷ xs) ys (suc i) within = slice_get-append_left xs ys i (omega (arith, within))

pub slice_get-append_right : {A : Type 0} (xs ys : List A) (i n : ℕ) → n ≡ length xs + i → slice_get (xs ++ ys) n ≡ slice_get ys i
slice_get-append_right [] ys i n is = ap (λ (m : ℕ). slice_get ys m) (omega (arith, is))
slice_get-append_right (x ∷ xs) ys i zero is = absurd (omega (arith, is))
slice_get-append_right (x ∷ xs) ys i (suc n) is = slice_get-append_right xs ys i n (omega (arith, is))

-- a block in the place of another
pub joined-set : (blocks : List Block) (number : ℕ) (old new : Block) → slice_get blocks number ≡ Some old
    → joined (set blocks number new) ≡ joined (take number blocks) ++ (new ++ joined (drop (suc number) blocks))
joined-set [] number old new stands = absurd (cc (stands))
joined-set (b ∷ mid) zero old new stands = refl
joined-set (b ∷ mid) (suc number) old new stands =
    ap (λ (es : List Envelope). b ++ es) (joined-set mid number old new stands)
    ∙ sym (append_assoc b (joined (take number mid)) (new ++ joined (drop (suc number) mid)))

pub joined-at : (blocks : List Block) (number : ℕ) (old : Block) → slice_get blocks number ≡ Some old
    → joined blocks ≡ joined (take number blocks) ++ (old ++ joined (drop (suc number) blocks))
joined-at [] number old stands = absurd (cc (stands))
joined-at (b ∷ mid) zero old stands = let e : b ≡ old = cc in ap (λ (c : Block). c ++ joined mid) e
joined-at (b ∷ mid) (suc number) old stands =
    ap (λ (es : List Envelope). b ++ es) (joined-at mid number old stands)
    ∙ sym (append_assoc b (joined (take number mid)) (old ++ joined (drop (suc number) mid)))

-- one is taken out in the middle
pub remove_mid : (front mid behind : List Envelope) (i : ℕ) → i < length mid → remove (front ++ (mid ++ behind)) (length front + i) ≡ front ++ (remove mid i ++ behind)
remove_mid front mid behind i within =
    let same : length front + i - length front ≡ i = omega arith in
    remove-append_right front (mid ++ behind) (length front) (length front + i) refl (omega arith)
    ∙ ap (λ (k : ℕ). front ++ remove (mid ++ behind) k) same
    ∙ ap (λ (es : List Envelope). front ++ es) (remove-append_left mid behind i within)

pub get_mid : (front mid behind : List Envelope) (i : ℕ) → i < length mid → slice_get (front ++ (mid ++ behind)) (length front + i) ≡ slice_get mid i
get_mid front mid behind i within = slice_get-append_right front (mid ++ behind) i (length front + i) refl ∙ slice_get-append_left mid behind i within

-- one is taken out of a block, which stays
pub IsTakenAt-block : (blocks blocks' : List Block) (number place : ℕ) (old new : Block) (taken : Envelope) → slice_get blocks number ≡ Some old
    → place < length old → slice_get old place ≡ Some taken → new ≡ remove old place
    → joined blocks' ≡ joined (take number blocks) ++ (new ++ joined (drop (suc number) blocks))
    → IsTakenAt (joined blocks) (length (joined (take number blocks)) + place) taken (joined blocks')
IsTakenAt-block blocks blocks' number place old new taken stands within is removed after =
    let front = joined (take number blocks) in
    let behind = joined (drop (suc number) blocks) in
    let whole : joined blocks ≡ front ++ (old ++ behind) = joined-at blocks number old stands in
    let rest : joined blocks' ≡ remove (joined blocks) (length front + place) =
    after ∙ ap (λ (es : List Envelope). front ++ (es ++ behind)) removed ∙ sym (remove_mid front old behind place within)
    ∙ ap (λ (es : List Envelope). remove es (length front + place)) (sym whole) in
    record {
      stands = ap (λ (es : List Envelope). slice_get es (length front + place)) whole ∙ get_mid front old behind place within ∙ is;
      rest = rest;
      less =
          let more : length front + place < length (joined blocks) =
          omega (arith, ap (λ (es : List Envelope). length es) whole, length-append front (old ++ behind), length-append old behind, within) in
          ap (λ (es : List Envelope). length es + 1) rest ∙ length-remove (joined blocks) (length front + place) more;
    }

-- one block more
pub joined-more : (blocks : List Block) (number : ℕ) (block : Block) → slice_get blocks number ≡ Some block
    → length (joined (take (suc number) blocks)) ≡ length (joined (take number blocks)) + length block
joined-more [] number block stands = absurd (cc (stands))
joined-more (b ∷ blocks) zero block stands = let is : b ≡ block = cc in
    omega (arith, ap (λ (es : List Envelope). length es) is, length-append b [])
joined-more (b ∷ blocks) (suc number) block stands =
    omega (arith, joined-more blocks number block stands, length-append b (joined (take (suc number) blocks)), length-append b (joined (take number blocks)))

pub joined-next : (blocks : List Block) (number : ℕ) (block : Block) → slice_get blocks number ≡ Some block
    → length (joined (take (number + 1) blocks)) ≡ length (joined (take number blocks)) + length block
joined-next blocks number block stands = ap (λ (n : ℕ). length (joined (take n blocks))) (add-one number) ∙ joined-more blocks number block stands

pub joined-all : (blocks : List Block) (number : ℕ) → length blocks ≤ number → joined (take number blocks) ≡ joined blocks
joined-all blocks number past = ap (λ (bs : List Block). joined bs) (take_all number blocks past)

-- a block that was read
pub block_at : (blocks : List Block) (number : ℕ) (block : Block) → number < length blocks → block ≡ get_or blocks number block → slice_get blocks number ≡ Some block
block_at blocks number block within is = slice_get-get_or blocks number block within ∙ ap (λ (b : Block). Some b) (sym is)

-- a block that is empty goes
pub joined-emptied : (blocks : List Block) (number : ℕ) (new : Block) → new ≡ []
    → joined (remove (set blocks number new) number) ≡ joined (take number blocks) ++ (new ++ joined (drop (suc number) blocks))
joined-emptied blocks number new none =
    joined-append (take number (set blocks number new)) (drop (suc number) (set blocks number new))
    ∙ ap (λ (bs : List Block). joined bs ++ joined (drop (suc number) (set blocks number new))) (take-set blocks number new)
    ∙ ap (λ (bs : List Block). joined (take number blocks) ++ joined bs) (drop-set-lt (suc number) blocks number new (omega arith))
    ∙ ap (λ (b : Block). joined (take number blocks) ++ (b ++ joined (drop (suc number) blocks))) (sym none)

-- one envelope more in the last block
pub joined-last : (blocks : List Block) (last : ℕ) (old new : Block) (e : Envelope) → last + 1 ≡ length blocks → slice_get blocks last ≡ Some old → new ≡ old ++ e ∷ []
    → joined (set blocks last new) ≡ joined blocks ++ e ∷ []
joined-last [] last old new e is_last stands pushed = absurd (cc (stands))
joined-last (b ∷ []) zero old new e is_last stands pushed = let is : b ≡ old = cc in
    append-nil new ∙ pushed ∙ ap (λ (es : List Envelope). es ++ e ∷ []) (sym is ∙ sym (append-nil b))
joined-last (b ∷ d ∷ blocks) zero old new e is_last stands pushed = absurd (omega (arith, is_last))
joined-last (b ∷ blocks) (suc last) old new e is_last stands pushed =
    ap (λ (es : List Envelope). b ++ es) (joined-last blocks last old new e (omega (arith, is_last)) stands pushed)
    ∙ sym (append_assoc b (joined blocks) (e ∷ []))

-- one was taken out of a block that was read
pub IsTakenAt-from : (blocks blocks' : List Block) (number place : ℕ) (block old new : Block) (result : Option Envelope) (taken : Envelope)
    → slice_get blocks number ≡ Some block → place < length block → old ≡ get_or blocks number old
    → result ≡ slice_get old place → IfSome result (λ _. new ≡ remove old place) → result ≡ Some taken
    → joined blocks' ≡ joined (take number blocks) ++ (new ++ joined (drop (suc number) blocks))
    → IsTakenAt (joined blocks) (length (joined (take number blocks)) + place) taken (joined blocks')
IsTakenAt-from blocks blocks' number place block old new result taken stands within read found rest is after =
    let at : slice_get blocks number ≡ Some old = block_at blocks number old (slice_get_within blocks number block stands) read in
    let same : block ≡ old = cc in
    let removed : new ≡ remove old place = subst (λ (o : Option Envelope). IfSome o (λ _. new ≡ remove old place)) is rest in
    IsTakenAt-block blocks blocks' number place old new taken at (omega (arith, within, ap (λ (es : List Envelope). length es) same)) (sym found ∙ is) removed after

pub joined-pushed : (blocks : List Block) (count last : ℕ) (old new : Block) (e : Envelope) → 0 < count → count ≡ length blocks → last ≡ count - 1 → old ≡ get_or blocks last old
    → new ≡ old ++ e ∷ [] → joined (set blocks last new) ≡ joined blocks ++ e ∷ []
joined-pushed blocks count last old new e some is is_last read pushed =
    joined-last blocks last old new e (omega (arith, some, is, is_last)) (block_at blocks last old (omega (arith, some, is, is_last)) read) pushed
