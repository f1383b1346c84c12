use Rattle.std.proofs.Common.{◌∙◌}
use Rattle.hb_rules.specs.Ledger.{ledger}
use Rattle.acs_world.proofs.Prefixes.{same_shown}
use Rattle.acs_world.proofs.Searching.{closure_listed}
use Rattle.observer.specs.Standing.{ledger_of}
use Rattle.observer.proofs.Places.{list_here}
use Rattle.observer.proofs.agreeing.same_at_node.Goals as goal

pub returns-in-Some : goal.returns-in-Some
returns-in-Some c =
    let config = c.args.ledgers.now.config in
    let posts = c.args.ledgers.now.posts in
    c.eq.ensures
    ∙ same_shown (ledger_of c.args.observer.now) (ledger config posts c.args.node) c.args.e c.list.result.now c.in-Some.closing.rest.now
    (list_here (ledger_of c.args.observer.now) c.args.e c.list.result.now c.list.ensures.value c.list.ensures.shown)
    (closure_listed config posts c.args.node c.args.e _ _ c.in-Some.ensures.some)
