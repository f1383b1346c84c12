use Rattle.ledger_run.specs.Voices.{NoneHas}
use Rattle.ledger_run.proofs.voice.first_of.Given as goal

abbrev pub invariant-loop-place : goal.invariant-loop-place
invariant-loop-place g l = NoneHas (λ liar. (goal.Liar-dyn g (liar.vtable, liar.value)).called liar.value) l.name l.cast l.place
