use Rattle.std.proofs.Common.{◌≡◌, ℕ, [], true, sym, ◌∙◌, subst}
use Rattle.last_deliveries.specs.Catching.{lacks}
use Rattle.last_deliveries.proofs.Catches.{IfOk-on, LacksNoOther-all}
use Rattle.last_deliveries.proofs.catching.all_of.Goals as goal

pub returns : goal.returns
returns g c =
    let b = g.B.Book in
    let a = g.A.Actor in
    let s = c.args.script.now in
    let posts = c.args.posts.now in
    let i = b.node (a.seat c.args.actor.now) in
    let x = b.actor (a.seat c.args.actor.now) in
    let node : i ≡ c.node.result = c.kept.ensures.is.1 ∙ sym c.node.ensures in
    let actor : x ≡ c.actor.result = c.kept.ensures.is.2 ∙ sym c.actor.ensures in
    IfOk-on _ _ c.coming.result (λ numbers all. LacksNoOther-all s posts i x (a.view c.args.actor.now).got numbers.items (λ k within lacking.
    all k within (subst (λ (y : ℕ). lacks s posts [] c.node.result y k ≡ true) actor (subst (λ (j : ℕ). lacks s posts [] j x k ≡ true) node lacking)))) c.coming.ensures
