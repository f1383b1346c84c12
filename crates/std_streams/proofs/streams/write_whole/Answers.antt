use Rattle.std.proofs.Common.{arith}
use Rattle.std.proofs.lemmas.List.{take_rest}
use Rattle.std_streams.proofs.KnownBytes.{front_grows}
use Rattle.std_streams.proofs.streams.write_whole.Goals as goal

pub loop-preserved : goal.loop-preserved
loop-preserved g c = record {
  within = omega (arith, c.in_ok-at.ensures.bound);
  front = front_grows (g.W.Write.contents c.args.writer.now) (g.W.Write.contents c.loop.writer) (g.W.Write.contents c.write_some.new.writer) c.args.bytes.now c.loop.at c.in_ok-at.field-0 c.loop.invariant.front
      (rw (take_rest c.args.bytes.now c.loop.at) at c.in_ok-at.ensures.bytes);
}
