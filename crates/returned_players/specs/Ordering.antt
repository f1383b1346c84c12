-- The order of actors over a book whose seats are S.
use Rattle.std.specs.Prelude.{ℕ}
use Rattle.post_book.specs.Numbering.{seat_number}
use Rattle.step_driver.specs.declared.player.Player.{Player}

-- the number of the seat of an actor, by which actors are put in order
abbrev pub place_number : {A S : Type 0} → (S → ℕ) → (S → ℕ) → (A → S) → Player A → ℕ
place_number node actor seat p = seat_number (node (seat p.actor)) (actor (seat p.actor))
