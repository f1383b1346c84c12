use Rattle.std.proofs.Common.{◌≡◌, map, take}
use Rattle.hb_app.proofs.reading.names_of.Given as goal

abbrev pub invariant-loop-liar : goal.invariant-loop-liar
invariant-loop-liar g l = l.names.items ≡ map (λ liar. (goal.Liar-dyn g (liar.vtable, liar.value)).called liar.value) (take l.liar-index l.fn.cast)
