use Rattle.std.proofs.Common.{◌∙◌, sym, ap, arith}
use Rattle.hb_base.specs.Counting.{count_nodes}
use Rattle.hb_base.specs.Limits.{most_nodes}
use Rattle.hb_base.specs.NodeSet.{is_in}
use Rattle.hb_rules.proofs.Counts.{count_nodes-le}
use Rattle.rbc_core.specs.RootViews.{RootView}
use Rattle.rbc_core.proofs.Tables.{seen-some, seen-none}
use Rattle.rbc_core.proofs.RootStates.{none_marked}
use Rattle.rbc_core.proofs.roots.Roots.counts.Goals as goal

pub returns-in-Some-clause-echoes : goal.returns-in-Some-clause-echoes
returns-in-Some-clause-echoes c =
    c.counts.ensures.echoes
    ∙ ap (λ (v : RootView). count_nodes most_nodes (is_in v.echoes))
    (sym (seen-some c.args.self.now c.self.inside.config c.self.inside.by_root c.args.root.now c.in-Some.state.now c.as_ref.result.now c.self.view_is (sym c.in-Some.ensures.value) c.as_ref.ensures))

pub returns-in-Some-clause-readies : goal.returns-in-Some-clause-readies
returns-in-Some-clause-readies c =
    c.counts.ensures.readies
    ∙ ap (λ (v : RootView). count_nodes most_nodes (is_in v.readies))
    (sym (seen-some c.args.self.now c.self.inside.config c.self.inside.by_root c.args.root.now c.in-Some.state.now c.as_ref.result.now c.self.view_is (sym c.in-Some.ensures.value) c.as_ref.ensures))

pub returns-in-Some-clause-few_echoes : goal.returns-in-Some-clause-few_echoes
returns-in-Some-clause-few_echoes c = omega (arith, c.counts.ensures.echoes, count_nodes-le 16 (is_in c.as_ref.result.now.echoes))

pub returns-in-Some-clause-few_readies : goal.returns-in-Some-clause-few_readies
returns-in-Some-clause-few_readies c = omega (arith, c.counts.ensures.readies, count_nodes-le 16 (is_in c.as_ref.result.now.readies))

pub returns-in-Some-clause-has_echoed : goal.returns-in-Some-clause-has_echoed
returns-in-Some-clause-has_echoed c =
    c.counts.ensures.has_echoed
    ∙ ap (λ (v : RootView). is_in v.echoes c.args.node)
    (sym (seen-some c.args.self.now c.self.inside.config c.self.inside.by_root c.args.root.now c.in-Some.state.now c.as_ref.result.now c.self.view_is (sym c.in-Some.ensures.value) c.as_ref.ensures))

pub returns-in-Some-clause-is_ready : goal.returns-in-Some-clause-is_ready
returns-in-Some-clause-is_ready c =
    c.counts.ensures.is_ready
    ∙ ap (λ (v : RootView). is_in v.readies c.args.node)
    (sym (seen-some c.args.self.now c.self.inside.config c.self.inside.by_root c.args.root.now c.in-Some.state.now c.as_ref.result.now c.self.view_is (sym c.in-Some.ensures.value) c.as_ref.ensures))

pub returns-in-Some-clause-sound : goal.returns-in-Some-clause-sound
returns-in-Some-clause-sound c = rw (← c.self.view_is) (c.self.invariant.each c.args.root.now)

pub returns-in-None-clause-echoes : goal.returns-in-None-clause-echoes
returns-in-None-clause-echoes c =
    ap (λ (v : RootView). count_nodes most_nodes (is_in v.echoes))
    (sym (seen-none c.args.self.now c.self.inside.config c.self.inside.by_root c.args.root.now c.self.view_is (sym c.in-None.ensures.value)))

pub returns-in-None-clause-readies : goal.returns-in-None-clause-readies
returns-in-None-clause-readies c =
    ap (λ (v : RootView). count_nodes most_nodes (is_in v.readies))
    (sym (seen-none c.args.self.now c.self.inside.config c.self.inside.by_root c.args.root.now c.self.view_is (sym c.in-None.ensures.value)))

pub returns-in-None-clause-has_echoed : goal.returns-in-None-clause-has_echoed
returns-in-None-clause-has_echoed c =
    sym (ap (λ (v : RootView). is_in v.echoes c.args.node)
    (seen-none c.args.self.now c.self.inside.config c.self.inside.by_root c.args.root.now c.self.view_is (sym c.in-None.ensures.value))
    ∙ none_marked c.args.node)

pub returns-in-None-clause-is_ready : goal.returns-in-None-clause-is_ready
returns-in-None-clause-is_ready c =
    sym (ap (λ (v : RootView). is_in v.readies c.args.node)
    (seen-none c.args.self.now c.self.inside.config c.self.inside.by_root c.args.root.now c.self.view_is (sym c.in-None.ensures.value))
    ∙ none_marked c.args.node)

pub returns-in-None-clause-sound : goal.returns-in-None-clause-sound
returns-in-None-clause-sound c = rw (← c.self.view_is) (c.self.invariant.each c.args.root.now)
