use Rattle.std.proofs.Common.{◌∙◌}
use Rattle.hb_rules.specs.Ledger.{ledger}
use Rattle.acs_world.proofs.Prefixes.{same_shown}
use Rattle.acs_world.proofs.Searching.{closure_listed}
use Rattle.acs_world.proofs.comparing.same_at.Goals as goal

pub returns-in-Some-Some : goal.returns-in-Some-Some
returns-in-Some-Some c =
    let config = c.args.ledgers.now.config in
    let posts = c.args.ledgers.now.posts in
    c.eq.ensures
    ∙ same_shown (ledger config posts c.args.node) (ledger config posts c.args.other) c.args.place
    c.in-Some-Some.closing.rest.now c.in-Some-Some.another.rest.now
    (closure_listed config posts c.args.node c.args.place _ _ c.in-Some-Some.ensures.some)
    (closure_listed config posts c.args.other c.args.place _ _ c.in-Some-Some.ensures'.some)
