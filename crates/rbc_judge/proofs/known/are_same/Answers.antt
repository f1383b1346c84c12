use Rattle.std.proofs.Common.{sym, ◌∙◌, arith}
use Rattle.std.proofs.lemmas.Bool.{not-false}
use Rattle.rbc_judge.proofs.SameShards.{same_next}
use Rattle.rbc_judge.proofs.known.are_same.Goals as goal
use lib.Pointwise.{bytes_decides}

pub loop-place-preserved : goal.loop-place-preserved
loop-place-preserved c =
    let one = c.as_slice.result.now in
    let other = c.as_slice-else-node-other.result.now in
    same_next c.args.some.now c.args.others.now c.loop-place.place c.index-some-place.result c.index-others-place.result
    (omega (arith, c.loop-place-test.true)) (omega (arith, c.if-some-others.false)) c.index-some-place.is c.index-others-place.is
    (omega (arith, c.if-node-other.false))
    (sym c.as_slice.ensures ∙ (bytes_decides one other).0 (not-false _ (sym c.ne.ensures ∙ c.if-ne.false)) ∙ c.as_slice-else-node-other.ensures)
    c.loop-place.invariant
