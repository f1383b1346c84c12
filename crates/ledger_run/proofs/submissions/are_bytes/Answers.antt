use Rattle.rs_shards.proofs.Columns.{AreBytes-of}
use Rattle.ledger_run.proofs.submissions.are_bytes.Goals as goal

pub returns : goal.returns
returns c = AreBytes-of c.args._bytes.now c.type_inv._bytes
