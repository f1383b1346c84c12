use Rattle.observer.proofs.Tabled.{sound_new, heard_new}
use Rattle.observer.proofs.observer.Observer.new.Goals as goal

pub returns-clause-heard : goal.returns-clause-heard
returns-clause-heard c = heard_new c.args.config.now c.new.result c.in_ok-taken.taken.items c.epochs.result c.new.ensures c.in_ok-taken.ensures

pub invariant_of-result : goal.invariant_of-result
invariant_of-result c = sound_new c.args.config.now c.new.result c.in_ok-taken.taken.items c.epochs.result c.in_ok-taken.ensures c.epochs.ensures.value
