use Rattle.std.proofs.Common.{◌≡◌, ◌∙◌, false, is_some, Some, None, sym, ap, List, ℕ}
use Rattle.std.specs.BTreeMap.{BTreeMap, get}
use Rattle.std.specs.Box.{with_value}
use Rattle.std.specs.Global.{Box}
use Rattle.std.specs.Cmp.Lexicographic.{slice_cmp}
use Rattle.std.specs.Option.{option_map}
use Rattle.std.specs.Ordering.{nat_cmp}
use Rattle.std.proofs.lemmas.Bool.{both_ways}
use Rattle.rbc_core.specs.declared.root_state.RootState.{RootState}
use Rattle.rbc_core.specs.RootViews.{root_view}
use Rattle.rbc_core.specs.Roots.{RootsView, found}
use Rattle.rbc_core.specs.Tables.{box_view}
use Rattle.rbc_core.proofs.Tables.{found-shown, view-some, view-none, Puts, Puts-inserted}
use Rattle.rbc_core.proofs.Adding.{Finds-ready, AreRootViews-ready}
use Rattle.rbc_core.proofs.roots.Roots.add_ready.Goals as goal

pub returns-in-Some-clause-ok : goal.returns-in-Some-clause-ok
returns-in-Some-clause-ok c =
    let m = c.self.inside.by_root in
    let after : Box RootState = with_value c.in-Some.state.now (record c.as_mut-state.result.now { readies = c.add.new.self }) in
    let some : get (slice_cmp nat_cmp) m c.args.root.now ≡ Some c.in-Some.state.now = sym c.in-Some.ensures.value in
    let puts : Puts m (c.get_mut.follows.lender after) c.args.root.now after =
    record { puts = ((c.get_mut.follows.holds after).3 (ap is_some some)).0 } in
    rw (← c.self.view_is) (Finds-ready c.self.inside.config m (c.get_mut.follows.lender after) c.args.root.now (root_view c.as_mut-state.result.now) after c.args.node
    (view-some c.self.inside.config m c.args.root.now c.in-Some.state.now some ∙ ap root_view (sym c.as_mut-state.ensures.value)) puts
    (ap (λ set. record (root_view c.as_mut-state.result.now) { readies = set }) c.add.ensures.exact))

pub invariant_of-self : goal.invariant_of-self
invariant_of-self c =
    let m = c.self.inside.by_root in
    let after : Box RootState = with_value c.in-Some.state.now (record c.as_mut-state.result.now { readies = c.add.new.self }) in
    let n : BTreeMap (List ℕ) (Box RootState) = c.get_mut.follows.lender after in
    let some : get (slice_cmp nat_cmp) m c.args.root.now ≡ Some c.in-Some.state.now = sym c.in-Some.ensures.value in
    let puts : Puts m n c.args.root.now after = record { puts = ((c.get_mut.follows.holds after).3 (ap is_some some)).0 } in
    AreRootViews-ready c.self.inside.config m n c.args.root.now c.args.node c.self.invariant
    (Finds-ready c.self.inside.config m n c.args.root.now (root_view c.as_mut-state.result.now) after c.args.node
    (view-some c.self.inside.config m c.args.root.now c.in-Some.state.now some ∙ ap root_view (sym c.as_mut-state.ensures.value)) puts
    (ap (λ set. record (root_view c.as_mut-state.result.now) { readies = set }) c.add.ensures.exact))

pub returns-in_err-insert-in-None-clause-enough : goal.returns-in_err-insert-in-None-clause-enough
returns-in_err-insert-in-None-clause-enough c = λ known.
    let none : get (slice_cmp nat_cmp) c.self.inside.by_root c.args.root.now ≡ None = sym c.in-None.ensures.value in
    let missing : is_some (found c.args.self.now c.args.root.now) ≡ false =
    ap (λ (r : RootsView). is_some (found r c.args.root.now)) (sym c.self.view_is)
    ∙ ap is_some (found-shown c.self.inside.config c.self.inside.by_root c.args.root.now ∙ ap (option_map box_view) none) in
    absurd (both_ways (is_some (found c.args.self.now c.args.root.now)) missing known)

pub returns-in_err-boxed-in-None-clause-enough : goal.returns-in_err-boxed-in-None-clause-enough
returns-in_err-boxed-in-None-clause-enough c = λ known.
    let none : get (slice_cmp nat_cmp) c.self.inside.by_root c.args.root.now ≡ None = sym c.in-None.ensures.value in
    let missing : is_some (found c.args.self.now c.args.root.now) ≡ false =
    ap (λ (r : RootsView). is_some (found r c.args.root.now)) (sym c.self.view_is)
    ∙ ap is_some (found-shown c.self.inside.config c.self.inside.by_root c.args.root.now ∙ ap (option_map box_view) none) in
    absurd (both_ways (is_some (found c.args.self.now c.args.root.now)) missing known)

pub invariant_of-self-in-None : goal.invariant_of-self-in-None
invariant_of-self-in-None c =
    let m = c.self.inside.by_root in
    let after : Box RootState = c.in_ok-boxed-in-None.boxed in
    let none : get (slice_cmp nat_cmp) m c.args.root.now ≡ None = sym c.in-None.ensures.value in
    let puts : Puts m c.insert.new.self c.args.root.now after =
    Puts-inserted m _ c.insert.new.self c.args.root.now after c.get_mut.follows.holds-at-none c.in_ok-insert-in-None.ensures.updates.0 in
    AreRootViews-ready c.self.inside.config m c.insert.new.self c.args.root.now c.args.node c.self.invariant
    (Finds-ready c.self.inside.config m c.insert.new.self c.args.root.now (root_view c.new-state.result) after c.args.node
    (view-none c.self.inside.config m c.args.root.now none ∙ sym c.new-state.ensures) puts
    (ap root_view c.in_ok-boxed-in-None.ensures.ok ∙ ap (λ set. record (root_view c.new-state.result) { readies = set }) c.add-in-None.ensures.exact))

pub returns-in_ok-insert-in-None-clause-ok : goal.returns-in_ok-insert-in-None-clause-ok
returns-in_ok-insert-in-None-clause-ok c =
    let m = c.self.inside.by_root in
    let after : Box RootState = c.in_ok-boxed-in-None.boxed in
    let none : get (slice_cmp nat_cmp) m c.args.root.now ≡ None = sym c.in-None.ensures.value in
    let puts : Puts m c.insert.new.self c.args.root.now after =
    Puts-inserted m _ c.insert.new.self c.args.root.now after c.get_mut.follows.holds-at-none c.in_ok-insert-in-None.ensures.updates.0 in
    rw (← c.self.view_is) (Finds-ready c.self.inside.config m c.insert.new.self c.args.root.now (root_view c.new-state.result) after c.args.node
    (view-none c.self.inside.config m c.args.root.now none ∙ sym c.new-state.ensures) puts
    (ap root_view c.in_ok-boxed-in-None.ensures.ok ∙ ap (λ set. record (root_view c.new-state.result) { readies = set }) c.add-in-None.ensures.exact))
