use Rattle.std.proofs.lemmas.List.Elements.{All-pop}
use Rattle.actor_cell.specs.Passes.{ArePassesOf}
use Rattle.cell_cases.proofs.mailboxes.take_out.Goals as goal

pub returns : goal.returns
returns c =
    let both = All-pop (ArePassesOf c.args.boxes.now) c.args.all.now.items c.pop.new.self.items c.pop.result c.pop.ensures.items c.requires.passes in
    record { rest = both.0; last = both.1 }
