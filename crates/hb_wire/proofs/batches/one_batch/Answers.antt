use Rattle.hb_wire.proofs.BatchLemmas.{read_back}
use Rattle.hb_wire.proofs.batches.one_batch.Goals as goal

pub returns : goal.returns
returns c = read_back
