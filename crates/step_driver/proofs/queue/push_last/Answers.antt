use Rattle.std.proofs.Common.{◌-◌}
use native.Mathlib.Omega.{arith}
use Rattle.step_driver.proofs.Blocks.{joined-pushed}
use Rattle.step_driver.proofs.queue.push_last.Goals as goal

pub returns-then-has_room-clause-ok : goal.returns-then-has_room-clause-ok
returns-then-has_room-clause-ok c = joined-pushed c.args.blocks.now.items c.len-last.result (c.len-last.result - 1) c.index_mut-block.result.now c.push.new.self c.args.envelope
    (omega (arith, c.has_room.ensures c.if-has_room.true, c.as_slice.ensures.value, c.len-last.ensures)) (omega (arith, c.len-last.ensures)) (omega arith) c.index_mut-block.ensures.value c.in_ok-push.ensures.ok
