use Rattle.rs_shards.proofs.Unique.{codewords-agree, codeword-all_bytes}
use Rattle.rs_shards.proofs.laws.codeword_laws.Goals as goal

pub returns-clause-unique : goal.returns-clause-unique
returns-clause-unique c = codewords-agree

pub returns-clause-bytes : goal.returns-clause-bytes
returns-clause-bytes c = codeword-all_bytes
