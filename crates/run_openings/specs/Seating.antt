-- Seats that are made in the order of the places of a run. The letters: a run of config c.
use Rattle.std.specs.Prelude.{◌≡◌, ℕ, ◌+◌, ◌<◌, List, [], length, map, All}
use Rattle.std.specs.List.{range_with_len}
use Rattle.atomic_table.specs.Seated.{TableId}
use Rattle.hb_base.specs.Numbers.{Numbers}
use Rattle.actor_cell.specs.Boxes.{BoxesView, owners}
use Rattle.actor_cell.specs.Passes.{PassesView, ArePassesOf}
use Rattle.post_book.specs.Numbering.{seat_number}
use Rattle.post_book.specs.SharedSeats.{FirstView}
use Rattle.step_driver.specs.Places.{Name}
use Rattle.run_closing.specs.Returning.{number_of}

-- The first seat of a book has made the seats of places with these names, whose numbers are below that of the next place, which
-- is of actor x of node i, and the passes of all places from that one on are left.
pub record AreMade (c : Numbers) (boxes : BoxesView) (book : TableId) (made : List Name) (i x : ℕ) (first : FirstView) (rest : List PassesView) : Type 0 where
  pub seated : first ≡ record { book = book; seen = []; given = map number_of made; joined = [] }
  pub below : All (λ number. number < seat_number i x) (map number_of made)
  pub places : map (λ p. p.place) rest ≡ range_with_len (length made) (length rest)
  pub all : length made + length rest ≡ length (owners c)
  pub fit : All (ArePassesOf boxes) rest
