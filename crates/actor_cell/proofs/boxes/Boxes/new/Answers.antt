use Rattle.std.proofs.Common.{List, subst}
use Rattle.atomic_blocks.specs.Laid.{WebId}
use Rattle.actor_cell.specs.Boxes.{BoxesView}
use Rattle.actor_cell.specs.Passes.{AreDealt}
use Rattle.actor_cell.proofs.Deals.{fit_each}
use Rattle.actor_cell.proofs.boxes.Boxes.new.Goals as goal

pub returns-clause-fit : goal.returns-clause-fit
returns-clause-fit c =
    let boxes : BoxesView = record { config = c.args.config.now; names = c.in_ok-firsts.field-0.boxes.items } in
    fit_each boxes c.in_ok-passes.passes.items (subst (λ (names : List WebId). AreDealt names c.in_ok-passes.passes.items) c.as_slice.ensures.value c.in_ok-passes.ensures)
