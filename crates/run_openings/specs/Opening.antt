-- What the places of a run begin with. The letters: a run of config c.
use Rattle.std.specs.Prelude.{◌≡◌, ℕ, ◌<◌, ◌≤◌, Bool, true, false, List, [], ◌∷◌, length, map, All}
use Rattle.hb_base.specs.Numbers.{Numbers}
use Rattle.hb_base.specs.NodeSet.{is_in}
use Rattle.hb_rules.specs.Book.{SeatView}
use Rattle.actor_cell.specs.Boxes.{BoxesView, place_of}
use Rattle.actor_cell.specs.Passes.{ArePassesOf}
use Rattle.step_driver.specs.Places.{Name}
use Rattle.ledger_run.specs.Actors.{new_seat}
use Rattle.run_openings.specs.declared.opening.Opening.{Opening}
use Rattle.run_openings.specs.declared.opening.NodeOpening.{NodeOpening}
use Rattle.run_openings.specs.declared.opening.NodeOpening.TheVariants.{Correct, Lying}

-- A seat of the book that has seen nothing, and the passes whose mailbox is that of the same actor. `knows` tells which seats are
-- of the book, and `at` what is known of a seat.
pub record IsOpening {S : Type 0} (knows : S → Type 0) (at : S → SeatView) (boxes : BoxesView) (c : Numbers) (o : Opening S) : Type 0 where
  pub of_book : knows o.seat
  pub seat : at o.seat ≡ new_seat c o.node o.actor
  pub known : o.node < c.n
  pub passes : ArePassesOf boxes o.passes
  pub place : o.passes.place ≡ place_of c o.node o.actor

-- of an actor of a correct node
pub record IsActorOpening {S : Type 0} (knows : S → Type 0) (at : S → SeatView) (boxes : BoxesView) (c : Numbers) (o : Opening S) : Type 0 where
  pub opening : IsOpening knows at boxes c o
  pub honest : is_in c.liars o.node ≡ false
  pub actor : o.actor ≤ c.n

-- of a node that lies
pub record IsLiarOpening {S : Type 0} (knows : S → Type 0) (at : S → SeatView) (boxes : BoxesView) (c : Numbers) (o : Opening S) : Type 0 where
  pub opening : IsOpening knows at boxes c o
  pub lies : is_in c.liars o.node ≡ true
  pub actor : o.actor ≡ 255

abbrev pub IsNodeOpening : {S : Type 0} → (S → Type 0) → (S → SeatView) → BoxesView → Numbers → NodeOpening S → Type 0
IsNodeOpening knows at boxes c (Correct openings) = All (IsActorOpening knows at boxes c) openings.items
IsNodeOpening knows at boxes c (Lying opening) = IsLiarOpening knows at boxes c opening

-- whose place an opening is, of a node that lies or of one that does not
abbrev pub opening_name : {S : Type 0} → Bool → Opening S → Name
opening_name lies o = record { node = o.node; actor = o.actor; lies = lies }

-- whose places a node begins with, in their order
abbrev pub opening_names : {S : Type 0} → NodeOpening S → List Name
opening_names (Correct openings) = map (opening_name false) openings.items
opening_names (Lying opening) = opening_name true opening ∷ []

-- how many seats a node begins with
abbrev pub places_of : {S : Type 0} → NodeOpening S → ℕ
places_of (Correct openings) = length openings.items
places_of (Lying opening) = 1
