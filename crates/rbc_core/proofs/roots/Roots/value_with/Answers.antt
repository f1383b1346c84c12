use Rattle.std.proofs.Common.{◌≡◌, ◌∙◌, ◌<◌, ◌^◌, ◌∷◌, [], ◌++◌, All, false, length, sym, ap, subst, List, ℕ, arith}
use Rattle.hb_base.specs.NodeSet.{is_in}
use Rattle.rs_shards.specs.Rebuilding.{AreShards}
use Rattle.hb_rules.specs.Code.{data_count}
use Rattle.hb_rules.specs.BroadcastRows.{value_through}
use Rattle.rbc_core.specs.RootViews.{RootView, unheard, root_view, first_with}
use Rattle.rbc_core.specs.Roots.{view_at, IsRootView}
use Rattle.rbc_core.proofs.Tables.{shown, view-some, view-none}
use Rattle.rbc_core.proofs.RootStates.{AreShards-new, short-new}
use Rattle.rbc_core.proofs.Adding.{if_ok}
use Rattle.rbc_core.proofs.roots.Roots.value_with.Goals as goal

pub value_once-requires : goal.value_once-requires
value_once-requires c =
    let config = c.self.inside.config in
    let root = c.args.root.now in
    let v : RootView = root_view c.as_ref-state.result.now in
    let at : view_at (shown config c.self.inside.by_root) root ≡ v =
    view-some config c.self.inside.by_root root c.in-Some.state.now (sym c.in-Some.ensures.value) ∙ ap root_view (sym c.as_ref-state.ensures) in
    let is : IsRootView config root v = subst (IsRootView config root) at (c.self.invariant.each root) in
    let known = rw (← c.self.view_is) at c.requires.known in
    let unseen = rw (← c.self.view_is) at c.requires.new in
    let new : is_in v.echoes c.args.node ≡ false = ap (λ (v : RootView). is_in v.echoes c.args.node) (sym at) ∙ unseen in
    record {
      shards =
          subst (λ (xs : List (ℕ × List ℕ)). AreShards config.n (xs ++ (c.args.node, c.args.shard.now) ∷ [])) (sym c.deref.ensures.value)
          (AreShards-new config root v c.args.node c.args.shard.now is known new);
      short =
          subst (λ (xs : List (ℕ × List ℕ)). All (λ (x : ℕ × List ℕ). length x.1 < 2 ^ 32) (xs ++ (c.args.node, c.args.shard.now) ∷ [])) (sym c.deref.ensures.value)
          (short-new config root v c.args.node c.args.shard.now is c.requires.short);
      few = omega (arith, ap (λ (xs : List (ℕ × List ℕ)). length xs) c.deref.ensures.value, is.few);
      value = c.as_ref-value.ensures.value ∙ is.value ∙ ap (value_through config root) (sym c.deref.ensures.value);
    }

pub value_once-requires-in-None : goal.value_once-requires-in-None
value_once-requires-in-None c =
    let config = c.self.inside.config in
    let root = c.args.root.now in
    let at : view_at (shown config c.self.inside.by_root) root ≡ unheard = view-none config c.self.inside.by_root root (sym c.in-None.ensures.value) in
    let is : IsRootView config root unheard = subst (IsRootView config root) at (c.self.invariant.each root) in
    let known = rw (← c.self.view_is) at c.requires.known in
    let unseen = rw (← c.self.view_is) at c.requires.new in
    let new : is_in unheard.echoes c.args.node ≡ false = ap (λ (v : RootView). is_in v.echoes c.args.node) (sym at) ∙ unseen in
    record {
      shards = AreShards-new config root unheard c.args.node c.args.shard.now is known new;
      short = short-new config root unheard c.args.node c.args.shard.now is c.requires.short;
      few = is.few;
      value = is.value;
    }

pub returns-in-Some : goal.returns-in-Some
returns-in-Some c =
    let config = c.self.inside.config in
    let root = c.args.root.now in
    let v : RootView = root_view c.as_ref-state.result.now in
    let at : view_at (shown config c.self.inside.by_root) root ≡ v =
    view-some config c.self.inside.by_root root c.in-Some.state.now (sym c.in-Some.ensures.value) ∙ ap root_view (sym c.as_ref-state.ensures) in
    rw (← c.self.view_is) (if_ok c.value_once.result _ _
    (λ answer is. is ∙ ap (λ (xs : List (ℕ × List ℕ)). value_through config root (first_with (data_count config) xs (c.args.node, c.args.shard.now)))
    (c.deref.ensures.value ∙ ap (λ (v : RootView). v.shards) (sym at)))
    c.value_once.ensures)

pub returns-in-None : goal.returns-in-None
returns-in-None c =
    let config = c.self.inside.config in
    let root = c.args.root.now in
    let at : view_at (shown config c.self.inside.by_root) root ≡ unheard = view-none config c.self.inside.by_root root (sym c.in-None.ensures.value) in
    rw (← c.self.view_is) (if_ok c.value_once-in-None.result _ _
    (λ answer is. is ∙ ap (λ (xs : List (ℕ × List ℕ)). value_through config root (first_with (data_count config) xs (c.args.node, c.args.shard.now)))
    (ap (λ (v : RootView). v.shards) (sym at)))
    c.value_once-in-None.ensures)
