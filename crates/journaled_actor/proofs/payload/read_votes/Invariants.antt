use Rattle.std.proofs.Common.{length}
use Rattle.journaled_actor.proofs.Payloads.{IsReading}
use Rattle.journaled_actor.proofs.payload.read_votes.Given as goal

abbrev pub invariant-loop-piece : goal.invariant-loop-piece
invariant-loop-piece l = IsReading l.config l.text l.left l.votes.items

abbrev pub decreases-loop-piece : goal.decreases-loop-piece
decreases-loop-piece l = length l.left
