use Rattle.ledger_run.proofs.Voices.{IsTaken-first, IsTaken-none}
use Rattle.ledger_run.proofs.voice.take.Goals as goal

pub returns-in-Some : goal.returns-in-Some
returns-in-Some g c =
    IsTaken-first (λ liar. (goal.Liar-dyn g (liar.vtable, liar.value)).called liar.value) c.args.name.now c.as_slice.result.now c.args.cast.now.items c.remove.new.self.items c.in-Some.place c.remove.result c.of.result.liar
    c.as_slice.ensures.value c.in-Some.ensures.found c.remove.ensures.value c.remove.ensures.items c.of.ensures

pub returns-in-None : goal.returns-in-None
returns-in-None g c =
    IsTaken-none (λ liar. (goal.Liar-dyn g (liar.vtable, liar.value)).called liar.value) c.args.name.now c.as_slice.result.now c.args.cast.now.items c.silent.result.liar c.as_slice.ensures.value c.in-None.ensures.none c.silent.ensures
