use Rattle.ledger_run.proofs.Voices.{AreTaken-start, AreTaken-step, AreHired-all}
use Rattle.ledger_run.proofs.voice.hire.Goals as goal

pub loop-liar-init : goal.loop-liar-init
loop-liar-init g c = AreTaken-start (λ voice. voice.liar) (λ liar. (goal.Liar-dyn g (liar.vtable, liar.value)).called liar.value) c.args.cast.items c.in_ok-voices.voices.items c.in_ok-voices.ensures.items

pub loop-liar-preserved : goal.loop-liar-preserved
loop-liar-preserved g c =
    AreTaken-step (λ voice. voice.liar) (λ liar. (goal.Liar-dyn g (liar.vtable, liar.value)).called liar.value) c.args.liars.now c.loop-liar.liar-index c.liar-item.result c.args.cast.items c.loop-liar.cast.items c.take-voice.new.cast.items
    c.loop-liar.voices.items c.push.new.self.items c.take-voice.result c.loop-liar-test.true c.liar-item.is c.in_ok-push.ensures.items c.loop-liar.invariant c.take-voice.ensures

pub returns : goal.returns
returns g c =
    AreHired-all (λ voice. voice.liar) (λ liar. (goal.Liar-dyn g (liar.vtable, liar.value)).called liar.value) c.args.liars.now c.loop-liar.liar-index c.args.cast.items c.loop-liar.cast.items c.loop-liar.voices.items c.loop-liar-test.false c.loop-liar.invariant
