use Rattle.liar_cell.proofs.LiarTurnings.{IsServed-after}
use Rattle.liar_cell.proofs.held.HeldLiar.serve.Goals as goal

pub returns-clause-served : goal.returns-clause-served
returns-clause-served g c =
    let look = c.look-found.ensures in
    IsServed-after g.B.Book.moved c.args.k c.args.self.now c.look-found.new.self c.deliver.new.self look.goes look.quiet look.rest c.deliver.ensures.served
