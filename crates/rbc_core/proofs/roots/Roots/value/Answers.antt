use Rattle.std.proofs.Common.{◌≡◌, ◌∙◌, sym, ap}
use Rattle.rbc_core.specs.RootViews.{RootView, unheard, root_view}
use Rattle.rbc_core.specs.Roots.{RootsView, view_at}
use Rattle.rbc_core.proofs.Tables.{seen-some, view-none}
use Rattle.rbc_core.proofs.roots.Roots.value.Goals as goal

pub returns-in-Some : goal.returns-in-Some
returns-in-Some c =
    let here : view_at c.args.self.now c.args.root.now ≡ root_view c.as_ref-state.result.now =
    seen-some c.args.self.now c.self.inside.config c.self.inside.by_root c.args.root.now c.in-Some.state.now c.as_ref-state.result.now c.self.view_is
    (sym c.in-Some.ensures.value) c.as_ref-state.ensures in
    c.as_ref.ensures.value ∙ ap (λ (v : RootView). v.value) (sym here)

pub returns-in-None : goal.returns-in-None
returns-in-None c =
    let here : view_at c.args.self.now c.args.root.now ≡ unheard =
    ap (λ (r : RootsView). view_at r c.args.root.now) (sym c.self.view_is)
    ∙ view-none c.self.inside.config c.self.inside.by_root c.args.root.now (sym c.in-None.ensures.value) in
    ap (λ (v : RootView). v.value) (sym here)
