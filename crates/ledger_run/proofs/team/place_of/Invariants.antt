use Rattle.ledger_run.specs.Voices.{NoneAt}
use Rattle.ledger_run.proofs.team.place_of.Given as goal

abbrev pub invariant-loop-place : goal.invariant-loop-place
invariant-loop-place l = NoneAt l.node l.liars l.place
