use Rattle.std.proofs.Common.{◌≡◌, false, sym, ◌∙◌, subst}
use Rattle.liar_cell.specs.HeldLiar.{LiarView}
use Rattle.liar_cell.specs.LiarTurns.{is_late_found}
use Rattle.liar_cell.proofs.LiarTurnings.{ServesNew-of}
use Rattle.liar_cell.proofs.held.HeldLiar.serve_new.Goals as goal

pub returns-clause-served : goal.returns-clause-served
returns-clause-served g c =
    let found = c.look-found.result in
    let m = c.look-found.new.self in
    let look = c.look-found.ensures in
    let here : is_late_found m.script found c.node.result c.args.k ≡ false =
    subst (λ (v : LiarView _). is_late_found v.script found c.node.result c.args.k ≡ false) c.self.view_is (sym c.is_late.ensures ∙ c.if-is_late.false) in
    let not : is_late_found m.script found m.seat.node c.args.k ≡ false = rw (← c.node.ensures) here in
    ServesNew-of g.B.Book.moved c.args.k found c.args.self.now m c.deliver.new.self look.goes look.quiet look.rest look.found not
    c.deliver.ensures.goes c.deliver.ensures.served c.deliver.ensures.none
