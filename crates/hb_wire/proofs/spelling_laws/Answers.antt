use Rattle.hb_wire.proofs.VoteLemmas as votes
use Rattle.hb_wire.proofs.VoteLemmas.{vote_takes, vote_again}
use Rattle.hb_wire.proofs.spelling_laws.Goals as goal

pub returns-clause-read : goal.returns-clause-read
returns-clause-read c = λ n version bytes vote. (vote_takes n version bytes vote, vote_again n version bytes vote)

pub returns-clause-one : goal.returns-clause-one
returns-clause-one c = votes.one_spelling
