use Rattle.std.proofs.Common.{ap, List, length}
use native.Mathlib.Omega.{arith}
use Rattle.step_driver.specs.declared.envelope.Envelope.{Envelope}
use Rattle.step_driver.proofs.Blocks.{joined-next, joined-all, block_at}
use Rattle.step_driver.proofs.queue.find.Goals as goal

pub loop-number-preserved : goal.loop-number-preserved
loop-number-preserved c = omega (
  arith,
  joined-next c.args.blocks.now c.loop-number.number c.index-blocks-number.result
      (block_at c.args.blocks.now c.loop-number.number c.index-blocks-number.result c.loop-number-test.true c.index-blocks-number.is),
  c.loop-number.invariant,
  c.if-left-len.false,
  c.len.ensures,
  c.len-left.ensures,
)

pub returns-then-left-len-clause-found : goal.returns-then-left-len-clause-found
returns-then-left-len-clause-found c = record {
  block = c.index-blocks-number.result;
  stands = block_at c.args.blocks.now c.loop-number.number c.index-blocks-number.result c.loop-number-test.true c.index-blocks-number.is;
  within = omega (arith, c.if-left-len.true, c.len.ensures);
  before = c.loop-number.invariant;
}

pub returns-clause-none : goal.returns-clause-none
returns-clause-none c = omega (
  arith,
  c.loop-number.invariant,
  ap (λ (es : List Envelope). length es) (joined-all c.args.blocks.now c.loop-number.number c.loop-number-test.false),
)
