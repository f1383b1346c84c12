use Rattle.std.proofs.Common.{None, refl}
use Rattle.tx_pool.proofs.ByBytes.{lookup-updated}
use Rattle.tx_pool.proofs.standings.Standings.remove_other.Goals as goal

pub returns : goal.returns
returns c = rw (← c.self.view_is) (record {
  firsts = refl;
  is = lookup-updated c.args.tx.now c.self.inside.others c.remove.new.self None c.remove.ensures.updates;
})
