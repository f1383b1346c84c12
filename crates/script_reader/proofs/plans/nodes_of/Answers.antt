use Rattle.std.proofs.Common.{rules}
use Rattle.net_script.specs.Sound.{IsLiar}
use Rattle.script_reader.proofs.Counts.{one_more_known, one_more_marked}
use Rattle.script_reader.proofs.Earlier.{drop_at}
use Rattle.script_reader.proofs.plans.nodes_of.Goals as goal

pub loop-liar-preserved : goal.loop-liar-preserved
loop-liar-preserved c =
    let liar = c.liar-item.result in
    let is_liar : IsLiar c.args.n c.liar-item.result = search rules in
    record {
      exact = rw c.add.ensures.exact (rw (drop_at c.args.liars.now c.loop-liar.liar-index liar c.loop-liar-test.true c.liar-item.is) at c.loop-liar.invariant.exact);
      known = one_more_known c.loop-liar.nodes c.add.new.self liar.node c.args.n is_liar.node c.loop-liar.invariant.known c.add.ensures.members;
      few = one_more_marked c.loop-liar.nodes c.add.new.self liar.node c.loop-liar.liar-index c.loop-liar.invariant.few c.add.ensures.members;
    }
