use Rattle.std.proofs.Common.{◌∙◌, arith}
use Rattle.hb_rules.proofs.ClaimCounts.{counted_all, counted_whole}
use Rattle.hb_rules.proofs.claims.count_claims.Goals as goal

pub returns : goal.returns
returns g c =
    c.count.ensures
    ∙ counted_all c.args.n (g.C.Claim.makes c.args.claim.now) c.args.heard.now c.loop-said.voters c.requires
    (counted_whole c.args.n (g.C.Claim.makes c.args.claim.now) c.args.heard.now c.loop-said.said-index c.loop-said.voters (omega arith) c.loop-said.invariant)
