use Rattle.std.proofs.Common.{◌≡◌, ◌∙◌, length, is_some, Some, None, sym, ap, arith, List, ℕ}
use Rattle.std.specs.BTreeMap.{BTreeMap, get}
use Rattle.std.specs.Box.{with_value}
use Rattle.std.specs.Global.{Box}
use Rattle.std.specs.Cmp.Lexicographic.{slice_cmp}
use Rattle.std.specs.Ordering.{nat_cmp}
use Rattle.hb_base.specs.NodeSet.{is_in}
use Rattle.rbc_core.specs.declared.root_state.RootState.{RootState}
use Rattle.rbc_core.specs.RootViews.{RootView, unheard, root_view, with_echo}
use Rattle.rbc_core.specs.Roots.{view_at, AreRootViews}
use Rattle.rbc_core.proofs.Tables.{shown, view-some, view-none, Puts, Puts-inserted, unchanged-puts}
use Rattle.rbc_core.proofs.RootStates.{AreRootViews-unchanged}
use Rattle.rbc_core.proofs.Adding.{on_ok, on_err, either_way, MayEcho, MayEcho-shown, Finds-echo, AreRootViews-echo}
use Rattle.rbc_core.proofs.roots.Roots.add_echo.Goals as goal

pub add_echo-requires-clause-new : goal.add_echo-requires-clause-new
add_echo-requires-clause-new c =
    let new = rw (← c.self.view_is) at c.requires.new in
    ap (λ (v : RootView). is_in v.echoes c.args.node)
    (ap root_view c.as_mut.ensures.value
    ∙ sym (view-some c.self.inside.config c.self.inside.by_root c.args.root.now c.in-Some.state.now (sym c.in-Some.ensures.value))) ∙ new

pub add_echo-requires-clause-few : goal.add_echo-requires-clause-few
add_echo-requires-clause-few c =
    let at : view_at (shown c.self.inside.config c.self.inside.by_root) c.args.root.now ≡ root_view c.as_mut.result.now =
    view-some c.self.inside.config c.self.inside.by_root c.args.root.now c.in-Some.state.now (sym c.in-Some.ensures.value)
    ∙ ap root_view (sym c.as_mut.ensures.value) in
    omega (arith, ap (λ (v : RootView). length v.shards) at, (c.self.invariant.each c.args.root.now).few, c.k-k.ensures.value)

pub returns-in-Some-clause-ok : goal.returns-in-Some-clause-ok
returns-in-Some-clause-ok c =
    let m = c.self.inside.by_root in
    let after : Box RootState = with_value c.in-Some.state.now c.add_echo.new.self in
    let some : get (slice_cmp nat_cmp) m c.args.root.now ≡ Some c.in-Some.state.now = sym c.in-Some.ensures.value in
    let may : MayEcho c.self.inside.config m c.args.root.now c.args.node c.args.shard c.args.value =
    MayEcho-shown c.args.self.now c.self.inside.config m c.args.root.now c.args.node c.args.shard c.args.value c.self.view_is c.self.invariant c.requires.known
    (omega (arith, c.n-n.ensures.value, c.n-n.ensures.bounds.1)) c.requires.short c.requires.new c.requires.value in
    let puts : Puts m (c.get_mut.follows.lender after) c.args.root.now after =
    record { puts = ((c.get_mut.follows.holds after).3 (ap is_some some)).0 } in
    rw (← c.self.view_is) (on_ok c.add_echo.result _ _
    (λ is. Finds-echo c.self.inside.config m (c.get_mut.follows.lender after) c.args.root.now (root_view c.as_mut.result.now) after
    c.args.node c.args.shard c.args.value may
    (view-some c.self.inside.config m c.args.root.now c.in-Some.state.now some ∙ ap root_view (sym c.as_mut.ensures.value)) puts
    (is ∙ ap (λ (k : ℕ). with_echo k (root_view c.as_mut.result.now) c.args.node c.args.shard c.args.value) c.k-k.ensures.value))
    c.add_echo.ensures.ok)

pub returns-in-Some-clause-err : goal.returns-in-Some-clause-err
returns-in-Some-clause-err c =
    let m = c.self.inside.by_root in
    let after : Box RootState = with_value c.in-Some.state.now c.add_echo.new.self in
    let some : get (slice_cmp nat_cmp) m c.args.root.now ≡ Some c.in-Some.state.now = sym c.in-Some.ensures.value in
    let puts : Puts m (c.get_mut.follows.lender after) c.args.root.now after =
    record { puts = ((c.get_mut.follows.holds after).3 (ap is_some some)).0 } in
    rw (← c.self.view_is) (on_err c.add_echo.result _ _
    (λ is. unchanged-puts c.self.inside.config m (c.get_mut.follows.lender after) c.args.root.now c.in-Some.state.now after puts some (is ∙ ap root_view c.as_mut.ensures.value))
    c.add_echo.ensures.err)

pub invariant_of-self : goal.invariant_of-self
invariant_of-self c =
    let m = c.self.inside.by_root in
    let after : Box RootState = with_value c.in-Some.state.now c.add_echo.new.self in
    let some : get (slice_cmp nat_cmp) m c.args.root.now ≡ Some c.in-Some.state.now = sym c.in-Some.ensures.value in
    let may : MayEcho c.self.inside.config m c.args.root.now c.args.node c.args.shard c.args.value =
    MayEcho-shown c.args.self.now c.self.inside.config m c.args.root.now c.args.node c.args.shard c.args.value c.self.view_is c.self.invariant c.requires.known
    (omega (arith, c.n-n.ensures.value, c.n-n.ensures.bounds.1)) c.requires.short c.requires.new c.requires.value in
    let n : BTreeMap (List ℕ) (Box RootState) = c.get_mut.follows.lender after in
    let puts : Puts m n c.args.root.now after =
    record { puts = ((c.get_mut.follows.holds after).3 (ap is_some some)).0 } in
    either_way c.add_echo.result _ _ (AreRootViews (shown c.self.inside.config n)) c.add_echo.ensures.ok c.add_echo.ensures.err
    (λ is. AreRootViews-echo c.self.inside.config m n c.args.root.now c.args.node c.args.shard c.args.value may
    (Finds-echo c.self.inside.config m n c.args.root.now (root_view c.as_mut.result.now) after
    c.args.node c.args.shard c.args.value may
    (view-some c.self.inside.config m c.args.root.now c.in-Some.state.now some ∙ ap root_view (sym c.as_mut.ensures.value)) puts
    (is ∙ ap (λ (k : ℕ). with_echo k (root_view c.as_mut.result.now) c.args.node c.args.shard c.args.value) c.k-k.ensures.value)))
    (λ is. AreRootViews-unchanged (shown c.self.inside.config m) (shown c.self.inside.config n) c.self.invariant
    (unchanged-puts c.self.inside.config m n c.args.root.now c.in-Some.state.now after puts some (is ∙ ap root_view c.as_mut.ensures.value)))

pub invariant_of-self-in-None : goal.invariant_of-self-in-None
invariant_of-self-in-None c =
    let m = c.self.inside.by_root in
    let none : get (slice_cmp nat_cmp) m c.args.root.now ≡ None = sym c.in-None.ensures.value in
    let may : MayEcho c.self.inside.config m c.args.root.now c.args.node c.args.shard c.args.value =
    MayEcho-shown c.args.self.now c.self.inside.config m c.args.root.now c.args.node c.args.shard c.args.value c.self.view_is c.self.invariant c.requires.known
    (omega (arith, c.n-n.ensures.value, c.n-n.ensures.bounds.1)) c.requires.short c.requires.new c.requires.value in
    let puts : Puts m c.insert.new.self c.args.root.now c.in_ok-boxed-in-None.boxed =
    Puts-inserted m _ c.insert.new.self c.args.root.now c.in_ok-boxed-in-None.boxed c.get_mut.follows.holds-at-none c.in_ok-insert-in-None.ensures.updates.0 in
    AreRootViews-echo c.self.inside.config m c.insert.new.self c.args.root.now c.args.node c.args.shard c.args.value may
    (Finds-echo c.self.inside.config m c.insert.new.self c.args.root.now unheard c.in_ok-boxed-in-None.boxed
    c.args.node c.args.shard c.args.value may
    (view-none c.self.inside.config m c.args.root.now none) puts
    (ap root_view c.in_ok-boxed-in-None.ensures.ok ∙ c.in_ok-add_echo-in-None.ensures.ok
    ∙ ap (λ (v : RootView). with_echo c.k-k.result v c.args.node c.args.shard c.args.value) c.new-state.ensures
    ∙ ap (λ (k : ℕ). with_echo k unheard c.args.node c.args.shard c.args.value) c.k-k.ensures.value))

pub returns-in_ok-insert-in-None-clause-ok : goal.returns-in_ok-insert-in-None-clause-ok
returns-in_ok-insert-in-None-clause-ok c =
    let m = c.self.inside.by_root in
    let none : get (slice_cmp nat_cmp) m c.args.root.now ≡ None = sym c.in-None.ensures.value in
    let may : MayEcho c.self.inside.config m c.args.root.now c.args.node c.args.shard c.args.value =
    MayEcho-shown c.args.self.now c.self.inside.config m c.args.root.now c.args.node c.args.shard c.args.value c.self.view_is c.self.invariant c.requires.known
    (omega (arith, c.n-n.ensures.value, c.n-n.ensures.bounds.1)) c.requires.short c.requires.new c.requires.value in
    let puts : Puts m c.insert.new.self c.args.root.now c.in_ok-boxed-in-None.boxed =
    Puts-inserted m _ c.insert.new.self c.args.root.now c.in_ok-boxed-in-None.boxed c.get_mut.follows.holds-at-none c.in_ok-insert-in-None.ensures.updates.0 in
    rw (← c.self.view_is) (Finds-echo c.self.inside.config m c.insert.new.self c.args.root.now unheard c.in_ok-boxed-in-None.boxed
    c.args.node c.args.shard c.args.value may
    (view-none c.self.inside.config m c.args.root.now none) puts
    (ap root_view c.in_ok-boxed-in-None.ensures.ok ∙ c.in_ok-add_echo-in-None.ensures.ok
    ∙ ap (λ (v : RootView). with_echo c.k-k.result v c.args.node c.args.shard c.args.value) c.new-state.ensures
    ∙ ap (λ (k : ℕ). with_echo k unheard c.args.node c.args.shard c.args.value) c.k-k.ensures.value))
