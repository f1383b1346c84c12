-- What a reader of a field gives is spelled so, and what is spelled so it gives.
use Rattle.std.proofs.Common.{◌≡◌, ℕ, zero, suc, ◌+◌, ◌^◌, ◌<◌, ◌≤◌, Bool, true, false, cond, ltb, ◌&&◌, ◌||◌, List, [], ◌∷◌, ◌++◌, length, get_or}
use Rattle.std.proofs.Common.{take, drop, Option, Some, None, refl, sym, ap, subst, ◌∙◌, append_assoc, arith, inl, inr}
use Rattle.std.specs.List.{list_all}
use Rattle.std.specs.Int.{w32, from_be_bytes, to_be_bytes}
use Rattle.std.proofs.lemmas.Bool.{cases_lt, ltb-false, ltb-true, le-ltb, lt-ltb}
use Rattle.std.proofs.lemmas.List.Elements.{All-from_get_or, All-nil, All-cons, All-head, All-tail}
use Rattle.std.proofs.lemmas.List.{take_at, drop_at, take-append-drop, length-append, length-take, length-take-le, get_or-drop, get_or-take}
use Rattle.std.proofs.lemmas.List.{get_or_past}
use Rattle.std.proofs.lemmas.Nat.{be_bytes_4, from_be_bytes-to_be_bytes_4}
use Rattle.hb_base.specs.ByteLists.{AreBytes}
use Rattle.hb_wire.specs.declared.vote.Vals.{Vals}
use Rattle.hb_wire.specs.declared.vote.Vals.TheVariants.{Zero, One, Both}
use Rattle.hb_wire.specs.Votes.{bit_byte, set_byte, sized_bytes}
use Rattle.hb_wire.specs.Reading.{◌>>=◌, pair, ended, byte_at, bit_at, set_at, block_at, length_at, sized_at}

abbrev pub IsBytes : List ℕ → Type 0
IsBytes bytes = (i : ℕ) → get_or bytes i 0 < 256

pub IsBytes-drop : (n : ℕ) (bytes : List ℕ) → IsBytes bytes → IsBytes (drop n bytes)
IsBytes-drop n bytes h i = rw get_or-drop (h (n + i))

pub IsBytes-take : (n : ℕ) (bytes : List ℕ) → IsBytes bytes → IsBytes (take n bytes)
IsBytes-take n bytes h i =
    elim (cases_lt i n) [
      | inl lt ↦ rw (get_or-take n bytes i 0 lt) (h i)
      | inr le ↦ rw (get_or_past (take n bytes) i 0 (omega (arith, length-take n bytes))) (omega arith)
    ]

pub IsBytes-rest : (b : ℕ) (bytes : List ℕ) → IsBytes (b ∷ bytes) → IsBytes bytes
IsBytes-rest b bytes h i = h (suc i)

pub bytes_from : (bytes : List ℕ) → IsBytes bytes → AreBytes bytes
bytes_from bytes h = All-from_get_or (λ byte. byte < 256) bytes 0 (λ i inside. h i)

pub bytes_at : (bytes : List ℕ) → AreBytes bytes → IsBytes bytes
bytes_at bytes h i =
    elim (cases_lt i (length bytes)) [
      | inl lt ↦ h i 0 lt
      | inr le ↦ rw (get_or_past bytes i 0 le) (omega arith)
    ]

-- ---- the test

and_true : (a b : Bool) → (a && b) ≡ true → (a ≡ true) × (b ≡ true)
and_true true b e = (refl, e)
and_true false b e = absurd cc

pub bytes_pass : (bytes : List ℕ) → AreBytes bytes → list_all (λ byte. ltb byte 256) bytes ≡ true
bytes_pass [] fits = refl
bytes_pass (b ∷ bytes) fits =
    let first : ltb b 256 ≡ true = lt-ltb b 256 (All-head (λ x. x < 256) b bytes fits) in
    rw first (bytes_pass bytes (All-tail (λ x. x < 256) b bytes fits))

pub bytes_passed : (bytes : List ℕ) → list_all (λ byte. ltb byte 256) bytes ≡ true → AreBytes bytes
bytes_passed [] e = All-nil (λ x. x < 256)
bytes_passed (b ∷ bytes) e =
    let both = and_true (ltb b 256) (list_all (λ x. ltb x 256) bytes) e in
    All-cons (λ x. x < 256) b bytes (ltb-true b 256 both.0) (bytes_passed bytes both.1)

-- ---- readers

-- a reader gives x and the rest exactly of the bytes that begin with the spelling of an x that fits
pub record Reads {X : Type 0} (reader : List ℕ → Option (X × List ℕ)) (spell : X → List ℕ) (Fits : X → Type 0) : Type 0 where
  pub takes : (bytes : List ℕ) (x : X) (rest : List ℕ) → IsBytes bytes → reader bytes ≡ Some (x, rest) → Fits x × (bytes ≡ spell x ++ rest) × IsBytes rest
  pub again : (x : X) (rest : List ℕ) → Fits x → reader (spell x ++ rest) ≡ Some (x, rest)

abbrev pub some : {A : Type 0} → A → Option A
some x = Some x

pub some_is : {A : Type 0} (x y : A) → some x ≡ some y → x ≡ y
some_is x y e = cc

-- the value of a step that gave something
pub bind_some : {A B : Type 0} (r : Option A) (f : A → Option B) (y : B) → (r >>= f) ≡ Some y → (x : A) × (r ≡ Some x) × (f x ≡ Some y)
bind_some None f y e = absurd cc
bind_some (Some x) f y e = (x, refl, e)

-- a test that let a value through
pub guard_some : {A : Type 0} (b : Bool) (r : Option A) (y : A) → cond b None r ≡ Some y → (b ≡ false) × (r ≡ Some y)
guard_some true r y e = absurd cc
guard_some false r y e = (refl, e)

pub test_some : {A : Type 0} (b : Bool) (r : Option A) (y : A) → cond b r None ≡ Some y → (b ≡ true) × (r ≡ Some y)
test_some true r y e = (refl, e)
test_some false r y e = absurd cc

-- ---- one field behind another

pub reads_pair : {X Y : Type 0} {p : List ℕ → Option (X × List ℕ)} {f : X → List ℕ} {F : X → Type 0} {q : List ℕ → Option (Y × List ℕ)} {g : Y → List ℕ} {G : Y → Type 0}
    → Reads p f F → Reads q g G → Reads (pair p q) (λ z. f z.0 ++ g z.1) (λ z. F z.0 × G z.1)
reads_pair {X} {Y} {p} {f} {F} {q} {g} {G} first second = record {
  takes = λ bytes z rest fits e.
      let a = bind_some (p bytes) (λ x. q x.1 >>= λ y. Some ((x.0, y.0), y.1)) (z, rest) e in
      let b = bind_some (q a.0.1) (λ y. Some ((a.0.0, y.0), y.1)) (z, rest) a.2 in
      let t = first.takes bytes a.0.0 a.0.1 fits a.1 in
      let u = second.takes a.0.1 b.0.0 b.0.1 t.2 b.1 in
      let parts : bytes ≡ (f a.0.0 ++ g b.0.0) ++ b.0.1 = t.1 ∙ ap (λ (r : List ℕ). f a.0.0 ++ r) u.1 ∙ sym (append_assoc (f a.0.0) (g b.0.0) b.0.1) in
      let whole : (X × Y) × List ℕ = ((a.0.0, b.0.0), b.0.1) in
      subst (λ (w : (X × Y) × List ℕ). (F w.0.0 × G w.0.1) × (bytes ≡ (f w.0.0 ++ g w.0.1) ++ w.1) × IsBytes w.1) (some_is whole (z, rest) b.2) ((t.0, u.0), parts, u.2);
  again = λ z rest fits.
      ap (pair p q) (append_assoc (f z.0) (g z.1) rest)
      ∙ ap (λ (r : Option (X × List ℕ)). r >>= λ x. q x.1 >>= λ y. Some ((x.0, y.0), y.1)) (first.again z.0 (g z.1 ++ rest) fits.0)
      ∙ ap (λ (r : Option (Y × List ℕ)). r >>= λ y. Some ((z.0, y.0), y.1)) (second.again z.1 rest fits.1);
}

pub reads_ended : Reads ended (λ _. []) (λ _. Unit {0})
reads_ended = record {
  takes = λ bytes x rest fits e.
      let same : (tt, bytes) ≡ (x, rest) = some_is (tt, bytes) (x, rest) e in
      let is : bytes ≡ rest = ap (λ (p : Unit {0} × List ℕ). p.1) same in
      (tt, is, subst IsBytes is fits);
  again = λ x rest fits. refl;
}

-- ---- single bytes

byte_takes : (limit : ℕ) (bytes : List ℕ) (b : ℕ) (rest : List ℕ) → IsBytes bytes → byte_at limit bytes ≡ Some (b, rest)
    → (b < limit) × (bytes ≡ b ∷ rest) × IsBytes rest
byte_takes limit [] b rest fits e = absurd cc
byte_takes limit (first ∷ bytes) b rest fits e =
    let g = test_some (ltb first limit) (Some (first, bytes)) (b, rest) e in
    let same : (first, bytes) ≡ (b, rest) = some_is (first, bytes) (b, rest) g.1 in
    subst (λ (p : ℕ × List ℕ). (p.0 < limit) × (first ∷ bytes ≡ p.0 ∷ p.1) × IsBytes p.1) same (ltb-true first limit g.0, refl, IsBytes-rest first bytes fits)

pub reads_byte : (limit : ℕ) → Reads (byte_at limit) (λ b. b ∷ []) (λ b. b < limit)
reads_byte limit = record {
  takes = byte_takes limit;
  again = λ b rest fits. let below : ltb b limit ≡ true = lt-ltb b limit fits in rw below refl;
}

bit_takes : (bytes : List ℕ) (b : Bool) (rest : List ℕ) → IsBytes bytes → bit_at bytes ≡ Some (b, rest)
    → Unit {0} × (bytes ≡ bit_byte b ∷ rest) × IsBytes rest
bit_takes [] b rest fits e = absurd cc
bit_takes (zero ∷ bytes) b rest fits e =
    subst (λ (p : Bool × List ℕ). Unit {0} × (0 ∷ bytes ≡ bit_byte p.0 ∷ p.1) × IsBytes p.1) (some_is (false, bytes) (b, rest) e) (tt, refl, IsBytes-rest 0 bytes fits)
bit_takes (suc zero ∷ bytes) b rest fits e =
    subst (λ (p : Bool × List ℕ). Unit {0} × (1 ∷ bytes ≡ bit_byte p.0 ∷ p.1) × IsBytes p.1) (some_is (true, bytes) (b, rest) e) (tt, refl, IsBytes-rest 1 bytes fits)
bit_takes (suc (suc n) ∷ bytes) b rest fits e = absurd cc

bit_again : (b : Bool) (rest : List ℕ) → Unit {0} → bit_at (bit_byte b ∷ rest) ≡ Some (b, rest)
bit_again true rest fits = refl
bit_again false rest fits = refl

pub reads_bit : Reads bit_at (λ b. bit_byte b ∷ []) (λ _. Unit {0})
reads_bit = record { takes = bit_takes; again = bit_again }

set_takes : (bytes : List ℕ) (vals : Vals) (rest : List ℕ) → IsBytes bytes → set_at bytes ≡ Some (vals, rest)
    → Unit {0} × (bytes ≡ set_byte vals ∷ rest) × IsBytes rest
set_takes [] vals rest fits e = absurd cc
set_takes (zero ∷ bytes) vals rest fits e = absurd cc
set_takes (suc zero ∷ bytes) vals rest fits e =
    subst (λ (p : Vals × List ℕ). Unit {0} × (1 ∷ bytes ≡ set_byte p.0 ∷ p.1) × IsBytes p.1) (some_is (Zero, bytes) (vals, rest) e) (tt, refl, IsBytes-rest 1 bytes fits)
set_takes (suc (suc zero) ∷ bytes) vals rest fits e =
    subst (λ (p : Vals × List ℕ). Unit {0} × (2 ∷ bytes ≡ set_byte p.0 ∷ p.1) × IsBytes p.1) (some_is (One, bytes) (vals, rest) e) (tt, refl, IsBytes-rest 2 bytes fits)
set_takes (suc (suc (suc zero)) ∷ bytes) vals rest fits e =
    subst (λ (p : Vals × List ℕ). Unit {0} × (3 ∷ bytes ≡ set_byte p.0 ∷ p.1) × IsBytes p.1) (some_is (Both, bytes) (vals, rest) e) (tt, refl, IsBytes-rest 3 bytes fits)
set_takes (suc (suc (suc (suc n))) ∷ bytes) vals rest fits e = absurd cc

set_again : (vals : Vals) (rest : List ℕ) → Unit {0} → set_at (set_byte vals ∷ rest) ≡ Some (vals, rest)
set_again Zero rest fits = refl
set_again One rest fits = refl
set_again Both rest fits = refl

pub reads_set : Reads set_at (λ vals. set_byte vals ∷ []) (λ _. Unit {0})
reads_set = record { takes = set_takes; again = set_again }

-- ---- blocks

pub block_takes : (size : ℕ) (bytes block rest : List ℕ) → IsBytes bytes → block_at size bytes ≡ Some (block, rest)
    → ((length block ≡ size) × AreBytes block) × (bytes ≡ block ++ rest) × IsBytes rest
block_takes size bytes block rest fits e =
    let g = guard_some (ltb (length bytes) size) (Some (take size bytes, drop size bytes)) (block, rest) e in
    let long : size ≤ length bytes = ltb-false (length bytes) size g.0 in
    let same : (take size bytes, drop size bytes) ≡ (block, rest) = some_is (take size bytes, drop size bytes) (block, rest) g.1 in
    let taken : AreBytes (take size bytes) = bytes_from (take size bytes) (IsBytes-take size bytes fits) in
    subst (λ (p : List ℕ × List ℕ). ((length p.0 ≡ size) × AreBytes p.0) × (bytes ≡ p.0 ++ p.1) × IsBytes p.1) same
    ((length-take-le size bytes long, taken), sym (take-append-drop size bytes), IsBytes-drop size bytes fits)

pub block_again : (size : ℕ) (block rest : List ℕ) → length block ≡ size → block_at size (block ++ rest) ≡ Some (block, rest)
block_again size block rest len =
    let long : ltb (length (block ++ rest)) size ≡ false = le-ltb (length (block ++ rest)) size (omega (arith, length-append block rest)) in
    rw (long, take_at block rest size len, drop_at block rest size len) refl

pub reads_block : (size : ℕ) → Reads (block_at size) (λ block. block) (λ block. length block ≡ size)
reads_block size = record {
  takes = λ bytes block rest fits e. let t = block_takes size bytes block rest fits e in (t.0.0, t.1, t.2);
  again = block_again size;
}

-- ---- a length, and that many bytes

length_takes : (bytes : List ℕ) (n : ℕ) (rest : List ℕ) → IsBytes bytes → length_at bytes ≡ Some (n, rest)
    → (bytes ≡ to_be_bytes w32 n ++ rest) × IsBytes rest
length_takes bytes n rest fits e =
    let g = guard_some (ltb (length bytes) 4) (Some (from_be_bytes w32 (take 4 bytes), drop 4 bytes)) (n, rest) e in
    let long : 4 ≤ length bytes = ltb-false (length bytes) 4 g.0 in
    let same : (from_be_bytes w32 (take 4 bytes), drop 4 bytes) ≡ (n, rest) = some_is (from_be_bytes w32 (take 4 bytes), drop 4 bytes) (n, rest) g.1 in
    let front : to_be_bytes w32 (from_be_bytes w32 (take 4 bytes)) ≡ take 4 bytes = be_bytes_4 (take 4 bytes) _ (length-take-le 4 bytes long) (IsBytes-take 4 bytes fits) refl in
    subst (λ (p : ℕ × List ℕ). (bytes ≡ to_be_bytes w32 p.0 ++ p.1) × IsBytes p.1) same
    (sym (take-append-drop 4 bytes) ∙ ap (λ (xs : List ℕ). xs ++ drop 4 bytes) (sym front), IsBytes-drop 4 bytes fits)

length_again : (n : ℕ) (rest : List ℕ) → n < 2 ^ 32 → length_at (to_be_bytes w32 n ++ rest) ≡ Some (n, rest)
length_again n rest small =
    let long : ltb (length (to_be_bytes w32 n ++ rest)) 4 ≡ false = le-ltb _ _ (omega (arith, length-append (to_be_bytes w32 n) rest)) in
    rw long (ap (λ m. some (m, rest)) (from_be_bytes-to_be_bytes_4 n small))

pub either_false : (a b : Bool) → (a || b) ≡ false → (a ≡ false) × (b ≡ false)
either_false true b e = absurd cc
either_false false b e = (refl, e)

abbrev pub SizedFits : ℕ → ℕ → List ℕ → Type 0
SizedFits least most text = (least ≤ length text) × (length text ≤ most) × AreBytes text

sized_takes : (least most : ℕ) (bytes text rest : List ℕ) → IsBytes bytes → sized_at least most bytes ≡ Some (text, rest)
    → SizedFits least most text × (bytes ≡ sized_bytes text ++ rest) × IsBytes rest
unfolding sized_at
sized_takes least most bytes text rest fits e =
    let a = bind_some (length_at bytes) (λ n. cond (ltb n.0 least || ltb most n.0) None (block_at n.0 n.1)) (text, rest) e in
    let t = length_takes bytes a.0.0 a.0.1 fits a.1 in
    let g = guard_some (ltb a.0.0 least || ltb most a.0.0) (block_at a.0.0 a.0.1) (text, rest) a.2 in
    let within = either_false (ltb a.0.0 least) (ltb most a.0.0) g.0 in
    let low : least ≤ a.0.0 = ltb-false a.0.0 least within.0 in
    let high : a.0.0 ≤ most = ltb-false most a.0.0 within.1 in
    let u = block_takes a.0.0 a.0.1 text rest t.1 g.1 in
    let len : length text ≡ a.0.0 = u.0.0 in
    let parts : bytes ≡ sized_bytes text ++ rest =
    t.0 ∙ ap (λ (r : List ℕ). to_be_bytes w32 a.0.0 ++ r) u.1 ∙ sym (append_assoc (to_be_bytes w32 a.0.0) text rest)
    ∙ ap (λ k. (to_be_bytes w32 k ++ text) ++ rest) (sym len)
    in
    ((omega arith, omega arith, u.0.1), parts, u.2)

sized_again : (least most : ℕ) (text rest : List ℕ) → most < 2 ^ 32 → SizedFits least most text
    → sized_at least most (sized_bytes text ++ rest) ≡ Some (text, rest)
unfolding sized_at
sized_again least most text rest small fits =
    let low : ltb (length text) least ≡ false = le-ltb (length text) least fits.0 in
    let high : ltb most (length text) ≡ false = le-ltb most (length text) fits.1 in
    let short : length text < 2 ^ 32 = omega arith in
    ap (sized_at least most) (append_assoc (to_be_bytes w32 (length text)) text rest)
    ∙ ap (λ (r : Option (ℕ × List ℕ)). r >>= λ n. cond (ltb n.0 least || ltb most n.0) None (block_at n.0 n.1)) (length_again (length text) (text ++ rest) short)
    ∙ rw (low, high) (block_again (length text) text rest refl)

pub reads_sized : (least most : ℕ) → most < 2 ^ 32 → Reads (sized_at least most) sized_bytes (SizedFits least most)
reads_sized least most small = record { takes = sized_takes least most; again = λ text rest fits. sized_again least most text rest small fits }
