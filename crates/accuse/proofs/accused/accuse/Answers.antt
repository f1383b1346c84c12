use Rattle.std.proofs.Common.{◌≡◌, ℕ, List, ◌++◌, sym, ap, subst, ◌∙◌, arith}
use Rattle.std.specs.List.{filter_map, range_with_len, Contains}
use Rattle.std.specs.Option.{option_to_list}
use Rattle.accuse.specs.declared.accusation.Accusation.{Accusation}
use Rattle.accuse.specs.Accused.{accusation, accused}
use Rattle.accuse.proofs.Liars.{only_liars, accused_more}
use Rattle.accuse.proofs.accused.accuse.Goals as goal

pub loop-node-preserved : goal.loop-node-preserved
loop-node-preserved c =
    let config = c.args.config.now in
    let history = c.args.history.now in
    c.in_ok-push_some.ensures
    ∙ (λ k. (c.loop-node.invariant k) ++ option_to_list (c.in_ok-accusation.ensures k))
    ∙ sym (accused_more config history c.loop-node.node)

pub returns-clause-liars : goal.returns-clause-liars
returns-clause-liars c = λ legal a stands.
    let all : c.loop-node.node ≡ c.args.config.now.n = omega (arith, c.n-node-end.ensures.value) in
    let exact : c.loop-node.found.items ≡ accused c.args.config.now c.args.history.now =
    c.loop-node.invariant ∙ ap (λ (n : ℕ). filter_map (accusation c.args.config.now c.args.history.now) (range_with_len 0 n)) all in
    only_liars c.args.config.now c.args.history.now c.liars-sound.ensures.sound legal a (subst (λ (found : List Accusation). Contains found a) exact stands)
