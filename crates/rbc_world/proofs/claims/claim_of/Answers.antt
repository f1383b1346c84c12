use Rattle.std.proofs.Common.{sym, ◌∙◌, arith}
use Rattle.rbc_world.proofs.Claiming.{IsMade, claim_made}
use Rattle.rbc_world.proofs.claims.claim_of.Goals as goal

made : (c : goal.After-result-1) → IsMade c.args.config.now c.args.kind c.args.post.now c.in_ok-lane.lane c.in_ok-glance.glance.epoch c.in_ok-glance.glance.rest.now
made c =
    claim_made c.args.config.now c.args.kind c.args.post.now c.in_ok-lane.lane c.in_ok-glance.glance.kind c.in_ok-glance.glance.epoch
    c.as_slice.result.now c.in_ok-glance.glance.rest.now (sym c.lane_of.ensures.exact ∙ c.in_ok-lane.was) c.as_slice.ensures
    (rw (c.n.ensures.value, c.version.ensures.value) at c.in_ok-glance.ensures.seen) (c.if-glance-code.false ∙ c.code.ensures)

pub returns-clause-exact : goal.returns-clause-exact
returns-clause-exact c = (made c).claims

pub returns-clause-inside : goal.returns-clause-inside
returns-clause-inside c = omega (arith, (made c).known, c.in_ok-lane.ensures.inside)
