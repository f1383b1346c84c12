use Rattle.std.proofs.Common.{◌≡◌, arith, ◌∙◌, ap}
use Rattle.merkle_branch.specs.Digests.{height}
use Rattle.hb_wire.proofs.PathLemmas.{with_digests, copy_goes_on, copy_ends}
use Rattle.hb_wire.proofs.fields.branch_of.Goals as goal

pub loop-level-preserved : goal.loop-level-preserved
loop-level-preserved c =
    let s = c.loop-level in
    let split = rw c.unwrap.ensures at c.split_first_chunk.ensures.cases in
    copy_goes_on c.height-len.result s.level c.args.path.now s.rest.now c.unwrap.result.0.now c.unwrap.result.1.now s.digests c.loop-level-test.true c.height-len.ensures.small split.0 split.1 s.invariant

pub returns : goal.returns
returns c =
    let s = c.loop-level in
    let is = c.height-len.ensures.exact in
    let ends : s.level ≡ height c.args.n = omega (arith, is) in
    ap (λ k. with_digests k s.digests) is ∙ copy_ends c.args.n s.level c.args.path.now s.rest.now s.digests ends (rw is at s.invariant)
