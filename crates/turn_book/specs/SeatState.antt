-- A seat as its callers see it.
use Rattle.std.specs.Prelude.{◌≡◌, ℕ, Bool, true, false, List, [], ◌∷◌, Option, Some, None, unwrap_or, Contains}
use Rattle.atomic_table.specs.Seated.{TableId}
use Rattle.atomic_table.specs.Table.{Me}
use Rattle.turn_book.specs.declared.view.View.{View}
use Rattle.turn_book.specs.Entries.{entries_of}

-- `book` says which book it is a seat of. `seen` is a beginning of that book's history, and `mine` the entries of the
-- seat's own number in it. `looks` counts how often the seat was shown the whole history.
-- The first seat, whose number is 0, also knows the numbers `given` to other seats, and of the seats `ended` the number and the
-- entries.
pub record SeatState (E : Type 0) : Type 0 where
  pub book : TableId
  pub number : ℕ
  pub in_turn : Bool
  pub looks : ℕ
  pub seen : List E
  pub mine : List E
  pub given : List ℕ
  pub ended : List (ℕ × List E)

-- a seat that was just made
abbrev pub new_seat : {E : Type 0} → TableId → ℕ → List E → SeatState E
new_seat book number seen = record {
  book = book;
  number = number;
  in_turn = false;
  looks = 0;
  seen = seen;
  mine = [];
  given = [];
  ended = [];
}

-- each number given has ended
abbrev pub AllEnded : {E : Type 0} → SeatState E → Type 0
AllEnded {E} seat = (number : ℕ) → Contains seat.given number → (entries : List E) × Contains seat.ended (number, entries)

module _ {E : Type 0} (names : E → ℕ) where
  abbrev pub shown : TableId → View E → SeatState E
  shown book v = record {
    book = book;
    number = unwrap_or v.number 0;
    in_turn = v.in_turn;
    looks = v.looks;
    seen = v.seen;
    mine = entries_of names (unwrap_or v.number 0) v.seen;
    given = v.given;
    ended = v.ended;
  }

-- A seat has a number. In its turn it holds the emptied slot, and outside of it no slot.
pub record IsReady {S E : Type 0} (me : Me (Option S) (View E)) : Type 0 where
  pub numbered : (n : ℕ) × (me.0.number ≡ Some n)
  pub outside : me.0.in_turn ≡ false → me.1 ≡ []
  pub inside : me.0.in_turn ≡ true → me.1 ≡ (0, None) ∷ []
