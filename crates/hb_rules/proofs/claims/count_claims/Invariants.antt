use Rattle.std.proofs.Common.{take}
use Rattle.hb_rules.proofs.ClaimCounts.{AreCounted}
use Rattle.hb_rules.proofs.claims.count_claims.Given as goal

-- the nodes of which the claim was heard before this hearing
abbrev pub invariant-loop-said : goal.invariant-loop-said
invariant-loop-said g l = AreCounted l.fn.n (g.C.Claim.makes l.claim) (take l.said-index l.heard) l.voters
