-- What each step of a turn book tells the seat that makes it.
use Rattle.std.specs.Prelude.{◌≡◌, ◌≢◌, ℕ, ◌+◌, ◌⊎◌, ◌++◌, true, false, List, [], ◌∷◌, Option, Some, None, Contains}
use mathlib.Core.List.{IsPrefix}
use Rattle.atomic_table.specs.Table.{Me, Step}
use Rattle.turn_book.specs.declared.view.View.{View}
use Rattle.turn_book.specs.Entries.{entries_of}
use Rattle.turn_book.specs.Kept.{IsOnce}

module _ {E : Type 0} where
  abbrev pub fresh : List E → List E → Option ℕ → View E
  fresh seen beside number = record {
    seen = seen;
    beside = beside;
    number = number;
    in_turn = false;
    looks = 0;
    given = [];
    ended = [];
  }

  abbrev pub first_view : View E
  first_view = fresh [] [] (Some 0)

  abbrev pub spent : View E
  spent = fresh [] [] None

  -- a seat is split from this one: it has no number, or the one given
  abbrev pub bare : View E → View E
  bare v = fresh v.seen [] None

  abbrev pub right_of : ℕ → View E → View E
  right_of number v = fresh [] v.seen (Some number)

  abbrev pub left_of : ℕ → View E → View E
  left_of number v = record v { given = v.given ++ number ∷ [] }

  -- a seat is joined into this one: it had no number, or it has ended
  abbrev pub both_seen : View E → View E → View E
  both_seen v w = record v { beside = w.seen }

  abbrev pub ended_of : (E → ℕ) → Option ℕ → List E → List (ℕ × List E)
  ended_of names None seen = []
  ended_of names (Some n) seen = (n, entries_of names n seen) ∷ []

  abbrev pub both_ended : (E → ℕ) → View E → View E → View E
  both_ended names v w = record v { beside = w.seen; ended = v.ended ++ ended_of names w.number w.seen }

-- a seat's view, and the slot that it holds in its turn
abbrev pub Seated : Type 0 → Type 0 → Type 0
Seated S E = Me (Option S) (View E)

-- the seat keeps the longer of the two beginnings that it knew
pub record Settles {S E : Type 0} (names : E → ℕ) (m m' : Seated S E) : Type 0 where
  pub view : m' ≡ (record m.0 { seen = m'.0.seen }, m.1)
  pub one : (m'.0.seen ≡ m.0.seen) ⊎ (m'.0.seen ≡ m.0.beside)
  pub this : IsPrefix m.0.seen m'.0.seen
  pub that : IsPrefix m.0.beside m'.0.seen
  pub mine : (n : ℕ) → m.0.number ≡ Some n → entries_of names n m'.0.seen ≡ entries_of names n m.0.seen
  pub given : m.0.number ≡ Some 0 → (n : ℕ) (l : List E) → Contains m.0.ended (n, l) → Contains m.0.given n
  pub once : m.0.number ≡ Some 0 → IsOnce m.0.ended

-- the seat has the value, and was shown the whole history, which its count of looks says
pub record Takes {S E : Type 0} (entries : S → List E) (names : E → ℕ) (m m' : Seated S E) : Type 0 where
  pub value : S
  pub holds : m'.1 ≡ (0, Some value) ∷ []
  pub whole : m'.0.seen ≡ entries value
  pub view : m'.0 ≡ record m.0 { seen = m'.0.seen; in_turn = true; looks = m.0.looks + 1 }
  pub begins : IsPrefix m.0.seen m'.0.seen
  pub mine : (n : ℕ) → m.0.number ≡ Some n → entries_of names n m'.0.seen ≡ entries_of names n m.0.seen

module _ {S E : Type 0} where
  -- the entries of the value that the seat holds
  abbrev pub held : (S → List E) → List (ℕ × Option S) → List E
  held entries [] = []
  held entries (c ∷ cs) = held_in c.1
    where
      held_in : Option S → List E
      held_in None = []
      held_in (Some x) = entries x

  -- the turn has begun where the lock was found free
  abbrev pub looked : (S → List E) → (E → ℕ) → Step (Option S) → Seated S E → ℕ → Seated S E → Type 0
  looked entries names st m r m' = (r ≡ 0 → Takes entries names m m') × (r ≢ 0 → m' ≡ m)

  abbrev pub settled : (E → ℕ) → Step (Option S) → Seated S E → ℕ → Seated S E → Type 0
  settled names st m r m' = Settles names m m'

  abbrev pub passed : (S → List E) → Step (Option S) → Seated S E → ℕ → Seated S E → Type 0
  passed entries st m r m' = m' ≡ (record m.0 { seen = held entries m.1; in_turn = false }, [])
