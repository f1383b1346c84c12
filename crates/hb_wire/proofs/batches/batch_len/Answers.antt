use Rattle.std.proofs.Common.{arith}
use Rattle.hb_wire.proofs.BatchLemmas.{count_some, count_none, batch_spelled}
use Rattle.hb_wire.proofs.batches.batch_len.Goals as goal

pub returns-in-Some-clause-exact : goal.returns-in-Some-clause-exact
returns-in-Some-clause-exact c = count_some c.args.bytes.now c.in-Some.count c.in-Some.ensures.shows

pub returns-in-None-clause-exact : goal.returns-in-None-clause-exact
returns-in-None-clause-exact c = count_none c.args.bytes.now c.in-None.ensures.shows

pub returns-in-Some-clause-spelled : goal.returns-in-Some-clause-spelled
returns-in-Some-clause-spelled c = λ some. batch_spelled c.args.bytes.now (λ i. omega (arith, c.type_inv.bytes i)) (omega (arith, some, count_some c.args.bytes.now c.in-Some.count c.in-Some.ensures.shows))
