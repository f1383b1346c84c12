-- Rounds that are made, and the new ones behind them.
use Rattle.std.proofs.Common.{◌≡◌, ℕ, zero, suc, ◌+◌, ◌-◌, ◌<◌, ◌≤◌, Bool, true, false, ◌||◌, ◌&&◌, List, [], ◌∷◌, ◌++◌, length, map, take, slice_index_or, slice_set, inl, inr, refl, sym, ap, ◌∙◌, arith}
use Rattle.std.specs.List.{list_any, range_with_len}
use Rattle.std.proofs.lemmas.List.{append_assoc, length-append, length_push, length-set, get_or_append_left, get_or-append_right, get_or_past, get_or_read, get_or-set_same, set-append_left}
use Rattle.std.proofs.lemmas.Bool.{cases_lt}
use Rattle.std.proofs.lemmas.List.FromFn.{length-map-range_with_len, get_or-map-range_with_len}
use Rattle.hb_base.specs.Numbers.{Numbers}
use Rattle.hb_rules.specs.Claims.{is_bit}
use Rattle.aba_core.specs.declared.levels.Levels.{Levels}
use Rattle.aba_core.specs.declared.round.Round.{Round}
use Rattle.aba_core.specs.Bits.{holds}
use Rattle.aba_core.specs.Levels.{levels_of}
use Rattle.aba_core.specs.Made.{all_rounds}
use Rattle.aba_core.specs.Rounds.{new_round, blank}
use Rattle.aba_core.specs.Tables.{no_tables, count_in}

-- the new ones behind those that are made
abbrev pub behind : Numbers → ℕ → ℕ → ℕ → List Round
behind c j e k = map (new_round c j e) (range_with_len k (c.rounds - k))

pub length-all : (c : Numbers) (j e : ℕ) (made : List Round) → length made ≤ c.rounds → length (all_rounds c j e made) ≡ c.rounds
unfolding all_rounds
length-all c j e made few =
    let size = length-append made (behind c j e (length made)) in
    let more = length-map-range_with_len (new_round c j e) (length made) (c.rounds - length made) in
    omega (arith, size, more, few)

pub all-made : (c : Numbers) (j e : ℕ) (made : List Round) (r : ℕ) → r < length made → slice_index_or (all_rounds c j e made) r blank ≡ slice_index_or made r blank
unfolding all_rounds
all-made c j e made r below = get_or_append_left made (behind c j e (length made)) blank r below

pub all-new : (c : Numbers) (j e : ℕ) (made : List Round) (r : ℕ) → length made ≤ r → r < c.rounds → slice_index_or (all_rounds c j e made) r blank ≡ new_round c j e r
unfolding all_rounds
all-new c j e made r past inside =
    get_or-append_right made (behind c j e (length made)) (length made) r blank refl past
    ∙ get_or-map-range_with_len (new_round c j e) (length made) (c.rounds - length made) (r - length made) r blank (omega (arith, past, inside)) (omega (arith, past))

-- what was cast in a round, and its coin, whether it is made or not
pub all-marks : (c : Numbers) (j e : ℕ) (made : List Round) (r : ℕ) → r < c.rounds
    → (slice_index_or (all_rounds c j e made) r blank).marks ≡ (slice_index_or made r blank).marks
unfolding new_round
all-marks c j e made r inside = elim (cases_lt r (length made)) [
  | inl below ↦ ap (λ (x : Round). x.marks) (all-made c j e made r below)
  | inr past ↦ ap (λ (x : Round). x.marks) (all-new c j e made r past inside) ∙ sym (ap (λ (x : Round). x.marks) (get_or_past made r blank past))
]

pub all-coin : (c : Numbers) (j e : ℕ) (made : List Round) (r : ℕ) → r < c.rounds
    → (slice_index_or (all_rounds c j e made) r blank).coin ≡ (slice_index_or made r blank).coin
unfolding new_round
all-coin c j e made r inside = elim (cases_lt r (length made)) [
  | inl below ↦ ap (λ (x : Round). x.coin) (all-made c j e made r below)
  | inr past ↦ ap (λ (x : Round). x.coin) (all-new c j e made r past inside) ∙ sym (ap (λ (x : Round). x.coin) (get_or_past made r blank past))
]

pub all-levels : (c : Numbers) (j e : ℕ) (made : List Round) (r : ℕ) (levels : Levels) → r < c.rounds
    → (r < length made → levels ≡ (slice_index_or made r blank).levels) → (length made ≤ r → levels ≡ levels_of c (count_in no_tables) 0)
    → levels ≡ (slice_index_or (all_rounds c j e made) r blank).levels
unfolding new_round
all-levels c j e made r levels inside here new = elim (cases_lt r (length made)) [
  | inl below ↦ here below ∙ sym (ap (λ (x : Round). x.levels) (all-made c j e made r below))
  | inr past ↦ new past ∙ sym (ap (λ (x : Round). x.levels) (all-new c j e made r past inside))
]

-- one more is made
pub all-more : (c : Numbers) (j e : ℕ) (made : List Round) → length made < c.rounds
    → all_rounds c j e (made ++ new_round c j e (length made) ∷ []) ≡ all_rounds c j e made
unfolding all_rounds
all-more c j e made few =
    let x : Round = new_round c j e (length made) in
    let left : suc (c.rounds - (length made + 1)) ≡ c.rounds - length made = omega (arith, few) in
    ap (λ k. (made ++ x ∷ []) ++ behind c j e k) (length_push made x)
    ∙ append_assoc made (x ∷ []) (behind c j e (length made + 1))
    ∙ ap (λ n. made ++ map (new_round c j e) (range_with_len (length made) n)) left

-- one that is made is replaced
pub all-set : (c : Numbers) (j e : ℕ) (made : List Round) (r : ℕ) (x : Round) → r < length made
    → all_rounds c j e (slice_set made r x) ≡ slice_set (all_rounds c j e made) r x
unfolding all_rounds
all-set c j e made r x below =
    ap (λ k. slice_set made r x ++ behind c j e k) (length-set made r x)
    ∙ sym (set-append_left made (behind c j e (length made)) r x below)

-- ---- rounds are made up to one, which then is replaced

pub made-is : (c : Numbers) (j e : ℕ) (made old : List Round) (r : ℕ) (y : Round) → all_rounds c j e made ≡ all_rounds c j e old → r < length made
    → y ≡ slice_index_or made r y → y ≡ slice_index_or (all_rounds c j e old) r blank
made-is c j e made old r y same below read =
    get_or_read made r y below read blank ∙ sym (all-made c j e made r below) ∙ ap (λ (all : List Round). slice_index_or all r blank) same

pub set-is : (c : Numbers) (j e : ℕ) (made : List Round) (r : ℕ) (x : Round) → r < length made
    → slice_index_or (all_rounds c j e (slice_set made r x)) r blank ≡ x
set-is c j e made r x below =
    all-made c j e (slice_set made r x) r (omega (arith, below, length-set made r x)) ∙ get_or-set_same made r x blank below

pub all-replaced : (c : Numbers) (j e : ℕ) (made old : List Round) (r : ℕ) (x z : Round) → all_rounds c j e made ≡ all_rounds c j e old → r < length made → x ≡ z
    → all_rounds c j e (slice_set made r x) ≡ slice_set (all_rounds c j e old) r z
all-replaced c j e made old r x z same below is =
    all-set c j e made r x below ∙ ap (λ (all : List Round). slice_set all r x) same ∙ ap (λ (x : Round). slice_set (all_rounds c j e old) r x) is

-- ---- new rounds settle nothing

any_none : (p : Round → Bool) (r : ℕ) → list_any p (take r []) ≡ false
any_none p zero = refl
any_none p (suc r) = refl

any_new : (p : Round → Bool) (f : ℕ → Round) → ((k : ℕ) → p (f k) ≡ false) → (a n r : ℕ) → list_any p (take r (map f (range_with_len a n))) ≡ false
any_new p f none a n zero = refl
any_new p f none a zero (suc r) = refl
any_new p f none a (suc n) (suc r) = rw (none a) (any_new p f none (a + 1) n r)

any_first : (p : Round → Bool) (xs ys : List Round) → ((r : ℕ) → list_any p (take r ys) ≡ false) → (r : ℕ) → list_any p (take r (xs ++ ys)) ≡ list_any p (take r xs)
any_first p [] ys none r = none r ∙ sym (any_none p r)
any_first p (x ∷ xs) ys none zero = refl
any_first p (x ∷ xs) ys none (suc r) = ap (λ (b : Bool). p x || b) (any_first p xs ys none r)

pub settled-made : (c : Numbers) (j e : ℕ) (made : List Round) (b : Bool) (r : ℕ)
    → list_any (λ (x : Round). holds x.marks.picks b && is_bit b x.coin) (take r (all_rounds c j e made))
    ≡ list_any (λ (x : Round). holds x.marks.picks b && is_bit b x.coin) (take r made)
unfolding all_rounds new_round
settled-made c j e made b r =
    any_first (λ (x : Round). holds x.marks.picks b && is_bit b x.coin) made (behind c j e (length made))
    (any_new (λ (x : Round). holds x.marks.picks b && is_bit b x.coin) (new_round c j e) (λ k. none b k) (length made) (c.rounds - length made)) r
  where
    none : (b : Bool) (k : ℕ) → (holds (new_round c j e k).marks.picks b && is_bit b (new_round c j e k).coin) ≡ false
    none true k = refl
    none false k = refl
