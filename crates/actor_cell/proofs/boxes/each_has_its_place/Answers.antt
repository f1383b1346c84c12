use Rattle.actor_cell.proofs.Places.{place_stands}
use Rattle.actor_cell.proofs.boxes.each_has_its_place.Goals as goal

pub returns : goal.returns
returns c = place_stands
