use Rattle.rs_shards.proofs.Encodings.{encoded-encoding, encoding-only, lengths-encoding}
use Rattle.rs_shards.proofs.laws.encoding_laws.Goals as goal

pub returns-clause-encoding : goal.returns-clause-encoding
returns-clause-encoding c = encoded-encoding

pub returns-clause-only : goal.returns-clause-only
returns-clause-only c = encoding-only

pub returns-clause-lengths : goal.returns-clause-lengths
returns-clause-lengths c = lengths-encoding
