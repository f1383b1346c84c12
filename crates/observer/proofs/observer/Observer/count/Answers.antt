use Rattle.std.proofs.Common.{◌≡◌, true, Some, slice_set, sym, ap, ◌∙◌, subst, arith}
use Rattle.observer.specs.Standing.{ObserverView, closes_one}
use Rattle.observer.proofs.Tabled.{sound_set}
use Rattle.observer.proofs.observer.Observer.count.Goals as goal

pub invariant_of-self-2 : goal.invariant_of-self-2
invariant_of-self-2 c =
    let o = c.self.inside in
    sound_set o.config o.claims c.set-2.new.self o.taken.items c.put.new.lists.items c.args.epoch c.args.bytes.now
    c.self.invariant (omega (arith, c.requires.inside, ap (λ (s : ObserverView). s.config.epochs) c.self.view_is))
    (c.put.ensures ∙ ap (λ copy. slice_set o.taken.items c.args.epoch (Some copy)) c.in_ok-taken.ensures.cases)
    (subst (λ (s : ObserverView). closes_one s.config (Some c.args.bytes.now) ≡ true) (sym c.self.view_is) c.requires.closes)
