-- Texts in order, written one after another.
use Rattle.std.proofs.Common.{◌≡◌, ℕ, ◌+◌, ◌<◌, List, [], ◌∷◌, ◌++◌, length, get_or, take, drop, Option, Result, Ok, Err, refl, sym, ap, subst, ◌∙◌, arith, add-one, append_assoc, append-nil, drop-cons}
use Rattle.std.specs.List.{flat_map, range_with_len}
use Rattle.std.proofs.KnownBytes.{Appends-nil}
use Rattle.std.proofs.Math.Seq.{take-length}
use Rattle.std.proofs.lemmas.Grind.{flat_map-append}
use Rattle.std.proofs.lemmas.List.{take-append-drop, take_more}
use Rattle.std.proofs.lemmas.List.FromFn.{length-range_with_len, get_or-range_with_len}
use Rattle.hb_base.specs.Outside.{HasCause, Puts}
use Rattle.script_fault.specs.Line.{Writes}
use Rattle.script_fault.proofs.Writing.{writes_then, writes_front}
use Rattle.ledger_text.specs.Text.{in_order}

-- nothing is written
pub writes_nothing : {T E : Type 0} (held : Option (List ℕ)) (faults : ℕ) (x : T) → Writes {T = T} {E = E} held held faults faults (Ok x) []
writes_nothing held faults x = record { bytes = Appends-nil held; cause = record { later = omega arith; failed = tt; quiet = refl } }

-- one put of a line
pub writes_line : {T E : Type 0} {h h1 : Option (List ℕ)} {c c1 : ℕ} {r : Result T E} {line text : List ℕ} → line ≡ text → Puts h h1 r line → HasCause c c1 r
    → Writes h h1 c c1 r text
writes_line {h = h} {h1 = h1} {r = r} same put cause = record { bytes = subst (λ bytes. Puts h h1 r bytes) same put; cause = cause }

-- lines of six parts and of seven, from the left and from the right
pub six_parts : (s a b c d e f : List ℕ) → s ≡ [] → (((((s ++ a) ++ b) ++ c) ++ d) ++ e) ++ f ≡ a ++ (b ++ (c ++ (d ++ (e ++ f))))
six_parts s a b c d e f none = rw none (simp append_assoc)

pub seven_parts : (s a b c d e f g : List ℕ) → s ≡ [] → ((((((s ++ a) ++ b) ++ c) ++ d) ++ e) ++ f) ++ g ≡ a ++ (b ++ (c ++ (d ++ (e ++ (f ++ g)))))
seven_parts s a b c d e f g none = rw none (simp append_assoc)

-- a text is written as one that is the same
pub writes_as : {T E : Type 0} {h h1 : Option (List ℕ)} {c c1 : ℕ} {r : Result T E} {text whole : List ℕ} → whole ≡ text → Writes h h1 c c1 r text
    → Writes h h1 c c1 r whole
writes_as is given = rw is given

-- a text is written as two others
pub writes_on : {T U E : Type 0} {h h1 h2 : Option (List ℕ)} {c c1 c2 : ℕ} {x : T} {r : Result U E} {front piece whole : List ℕ} → whole ≡ front ++ piece
    → Writes {E = E} h h1 c c1 (Ok x) front → Writes h1 h2 c1 c2 r piece → Writes h h2 c c2 r whole
writes_on is first second = rw is (writes_then first second)

-- the second of them fails, and there is more
pub writes_stop : {T U V E F : Type 0} {h h1 h2 : Option (List ℕ)} {c c1 c2 : ℕ} {x : T} {e : E} {d : F} {front piece whole : List ℕ} (rest : List ℕ)
    → whole ≡ front ++ (piece ++ rest)
    → Writes {E = F} h h1 c c1 (Ok x) front → Writes {T = U} h1 h2 c1 c2 (Err e) piece → Writes {T = V} h h2 c c2 (Err d) whole
writes_stop rest is first second = rw is (writes_then first (writes_front rest second))

-- a list in front of an element, at it and behind it
parted : {X : Type 0} (xs : List X) (k : ℕ) (x d : X) → k < length xs → x ≡ get_or xs k d → xs ≡ take k xs ++ x ∷ drop (k + 1) xs
parted xs k x d below is =
    sym (take-append-drop k xs) ∙ ap (λ rest. take k xs ++ rest) (rw (add-one) (drop-cons xs k d below) ∙ ap (λ y. y ∷ drop (k + 1) xs) (sym is))

-- ---- texts in order

order_append : {X : Type 0} (text : List (List ℕ) → X → List ℕ) (transactions : X → List (List ℕ)) (before : List (List ℕ)) (xs ys : List X)
    → in_order text transactions before (xs ++ ys)
    ≡ in_order text transactions before xs ++ in_order text transactions (before ++ flat_map transactions xs) ys
order_append text transactions before [] ys = ap (λ (b : List (List ℕ)). in_order text transactions b ys) (sym (append-nil before))
order_append text transactions before (x ∷ xs) ys =
    let front : List ℕ = text before x in
    let middle : List ℕ = in_order text transactions (before ++ transactions x) xs in
    ap (λ (bytes : List ℕ). front ++ bytes) (order_append text transactions (before ++ transactions x) xs ys)
    ∙ sym (append_assoc front middle (in_order text transactions ((before ++ transactions x) ++ flat_map transactions xs) ys))
    ∙ ap (λ (b : List (List ℕ)). (front ++ middle) ++ in_order text transactions b ys) (append_assoc before (transactions x) (flat_map transactions xs))

-- one thing more
pub order_step : {X : Type 0} (text : List (List ℕ) → X → List ℕ) (transactions : X → List (List ℕ)) (before : List (List ℕ)) (xs : List X) (k : ℕ) (x d : X)
    → k < length xs → x ≡ get_or xs k d
    → in_order text transactions before (take (k + 1) xs)
    ≡ in_order text transactions before (take k xs) ++ text (before ++ flat_map transactions (take k xs)) x
order_step text transactions before xs k x d below is =
    let more : take (k + 1) xs ≡ take k xs ++ x ∷ [] = take_more xs k d below ∙ ap (λ y. take k xs ++ y ∷ []) (sym is) in
    let front : List ℕ = in_order text transactions before (take k xs) in
    let until : List (List ℕ) = before ++ flat_map transactions (take k xs) in
    ap (in_order text transactions before) more ∙ order_append text transactions before (take k xs) (x ∷ [])
    ∙ ap (λ (bytes : List ℕ). front ++ bytes) (append-nil (text until x))

-- all of it, in front of a thing, at it and behind it
pub order_split : {X : Type 0} (text : List (List ℕ) → X → List ℕ) (transactions : X → List (List ℕ)) (before : List (List ℕ)) (xs : List X) (k : ℕ) (x d : X)
    → k < length xs → x ≡ get_or xs k d
    → in_order text transactions before xs
    ≡ in_order text transactions before (take k xs)
    ++ (text (before ++ flat_map transactions (take k xs)) x
    ++ in_order text transactions ((before ++ flat_map transactions (take k xs)) ++ transactions x) (drop (k + 1) xs))
order_split text transactions before xs k x d below is =
    ap (in_order text transactions before) (parted xs k x d below is) ∙ order_append text transactions before (take k xs) (x ∷ drop (k + 1) xs)

-- ---- things that need not know what stands before them

pub each_step : {X A : Type 0} (f : X → List A) (xs : List X) (k : ℕ) (x d : X) → k < length xs → x ≡ get_or xs k d
    → flat_map f (take (k + 1) xs) ≡ flat_map f (take k xs) ++ f x
each_step f xs k x d below is =
    ap (flat_map f) (take_more xs k d below ∙ ap (λ y. take k xs ++ y ∷ []) (sym is)) ∙ flat_map-append f (take k xs) (x ∷ [])
    ∙ ap (λ rest. flat_map f (take k xs) ++ rest) (append-nil (f x))

pub each_split : {X A : Type 0} (f : X → List A) (xs : List X) (k : ℕ) (x d : X) → k < length xs → x ≡ get_or xs k d
    → flat_map f xs ≡ flat_map f (take k xs) ++ (f x ++ flat_map f (drop (k + 1) xs))
each_split f xs k x d below is = ap (flat_map f) (parted xs k x d below is) ∙ flat_map-append f (take k xs) (x ∷ drop (k + 1) xs)

-- the numbers below n are where they say
pub range_at : (n i : ℕ) → i < n → i ≡ get_or (range_with_len 0 n) i i
range_at n i below = sym (get_or-range_with_len 0 n i i below ∙ omega arith)

pub take_range : (n : ℕ) → take n (range_with_len 0 n) ≡ range_with_len 0 n
take_range n = rw (length-range_with_len 0 n) at (take-length (range_with_len 0 n))
