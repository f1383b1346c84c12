-- The rule of a turn book.
-- The one word is 0 where the one slot has the value at home, and another number where a seat is in its turn and has it.
use Rattle.std.specs.Prelude.{◌≡◌, ◌≢◌, ℕ, ◌⊎◌, Bool, true, false, List, [], ◌∷◌, Option, Some, Contains}
use mathlib.Core.Option.{some, none}
use mathlib.Core.List.{IsPrefix}
use lib.ListN.{get_elem?}
use Rattle.atomic_table.specs.Table.{State}
use Rattle.atomic_table.specs.Seated.{TableId}
use Rattle.turn_book.specs.declared.view.View.{View}
use Rattle.turn_book.specs.Entries.{entries_of, NamesGiven}

-- one word, the lock, and one slot
abbrev pub IsTable : TableId → Type 0
IsTable id = (id.words ≡ 1) × (id.slots ≡ 1)

-- the table, whose slot holds a value or, in a turn, none
abbrev pub Turntable : Type 0 → Type 0 → Type 0
Turntable S E = State (Option S) (View E)

-- What no word says: the history, which seat has a number, the numbers given and ended, whether a seat is in its turn, and which
-- one had the last
pub record Standing (E : Type 0) : Type 0 where
  pub log : List E
  pub place : ℕ → ℕ
  pub given : List ℕ
  pub ended : List (ℕ × List E)
  pub taken : Bool
  pub holder : ℕ

module _ {E : Type 0} where
  -- of no number the list has two entries
  abbrev pub IsOnce : List (ℕ × List E) → Type 0
  IsOnce [] = Unit {0}
  IsOnce (x ∷ xs) = ((l : List E) → ¬ Contains xs (x.0, l)) × IsOnce xs

  abbrev pub IsInTurn : View E → Type 0
  IsInTurn v = v.in_turn ≡ true

  -- some view at this place meets the test
  abbrev pub At : (View E → Type 0) → List (View E) → ℕ → Type 0
  At Q views i = (v : View E) × (get_elem? views i ≡ some v) × Q v

  -- the view of the seat i agrees with what stands
  pub record Fits (names : E → ℕ) (z : Standing E) (i : ℕ) (v : View E) : Type 0 where
    pub seen : IsPrefix v.seen z.log
    pub beside : IsPrefix v.beside z.log
    pub mine : (n : ℕ) → v.number ≡ Some n → entries_of names n z.log ≡ entries_of names n v.seen
    pub placed : (n : ℕ) → v.number ≡ Some n → z.place n ≡ i
    pub named : (n : ℕ) → v.number ≡ Some n → (n ≡ 0) ⊎ Contains z.given n
    pub going : (n : ℕ) → v.number ≡ Some n → (l : List E) → ¬ Contains z.ended (n, l)
    pub turns : v.in_turn ≡ true → (z.taken ≡ true) × (z.holder ≡ i) × (v.seen ≡ z.log)
    pub numbered : v.in_turn ≡ true → (n : ℕ) × (v.number ≡ Some n)
    pub first : v.number ≡ Some 0 → (v.given ≡ z.given) × (v.ended ≡ z.ended)

pub record Kept {S E : Type 0} (entries : S → List E) (names : E → ℕ) (s : Turntable S E) : Type 0 where
  pub z : Standing E
  pub lock : ℕ
  pub words : s.words ≡ lock ∷ []
  pub locked : z.taken ≡ true → lock ≢ 0
  pub unlocked : z.taken ≡ false → lock ≡ 0
  pub fits : (i : ℕ) (v : View E) → get_elem? s.views i ≡ some v → Fits names z i v
  pub closed : (n : ℕ) (l : List E) → Contains z.ended (n, l) → Contains z.given n × (entries_of names n z.log ≡ l)
  pub once : IsOnce z.ended
  pub named : NamesGiven names z.given z.log
  pub home : z.taken ≡ false → (x : S) × (s.homes ≡ some (Some x) ∷ []) × (entries x ≡ z.log)
  pub away : z.taken ≡ true → (s.homes ≡ none ∷ []) × At IsInTurn s.views z.holder
