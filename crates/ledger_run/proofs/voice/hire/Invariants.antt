use Rattle.std.proofs.Common.{map, take}
use Rattle.ledger_run.specs.Voices.{AreTaken}
use Rattle.ledger_run.proofs.voice.hire.Given as goal

-- those that were looked at have their voices
abbrev pub invariant-loop-liar : goal.invariant-loop-liar
invariant-loop-liar g l =
    AreTaken (λ liar. (goal.Liar-dyn g (liar.vtable, liar.value)).called liar.value) (map (λ at. at.name) (take l.liar-index l.liars)) l.fn.cast.items
    (map (λ voice. voice.liar) l.voices.items) l.cast.items
