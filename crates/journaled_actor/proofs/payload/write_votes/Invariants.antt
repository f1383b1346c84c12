use Rattle.journaled_actor.proofs.Payloads.{IsWriting}
use Rattle.journaled_actor.proofs.payload.write_votes.Given as goal

abbrev pub invariant-loop-vote : goal.invariant-loop-vote
invariant-loop-vote l = IsWriting l.config l.votes l.vote-index l.entry.payload
