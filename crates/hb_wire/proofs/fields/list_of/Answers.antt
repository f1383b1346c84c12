use Rattle.std.proofs.Common.{arith}
use Rattle.hb_wire.proofs.ListLemmas.{list_whole}
use Rattle.hb_wire.proofs.fields.list_of.Goals as goal

pub invariant_of-result : goal.invariant_of-result
invariant_of-result c =
    list_whole c.args.n c.in_ok-count.count c.args.bytes.now c.in_ok-count.rest.now c.in_ok-rest.rest.now (λ i. omega (arith, c.type_inv.bytes i)) c.in_ok-count.ensures c.in_ok-rest.ensures
