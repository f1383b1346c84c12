use Rattle.std.proofs.Common.{◌≡◌, ℕ, ◌<◌, Bool, true, false, List, length, Contains, slice_index_or, sym, ◌∙◌, subst}
use Rattle.last_deliveries.specs.Catching.{lacks}
use Rattle.last_deliveries.proofs.Catches.{IfOk-on, LacksNoOther-new}
use Rattle.last_deliveries.proofs.catching.wanted.Goals as goal

pub returns : goal.returns
returns g c =
    let b = g.B.Book in
    let a = g.A.Actor in
    let s = c.args.script.now in
    let posts = c.args.posts.now.posts in
    let first = c.args.posts.now.first in
    let got = (a.view c.args.actor.now).got in
    let marks = c.as_slice.result.now in
    let i = b.node (a.seat c.args.actor.now) in
    let x = b.actor (a.seat c.args.actor.now) in
    let node : i ≡ c.node.result = c.kept.ensures.is.1 ∙ sym c.node.ensures in
    let actor : x ≡ c.actor.result = c.kept.ensures.is.2 ∙ sym c.actor.ensures in
    let marked : (k : ℕ) → k < length posts → slice_index_or marks k false ≡ true → Contains got k =
    subst (λ (numbers : List ℕ). (k : ℕ) → k < length posts → slice_index_or marks k false ≡ true → Contains numbers k) c.got.ensures
    (subst (λ (bits : List Bool). (k : ℕ) → k < length posts → slice_index_or bits k false ≡ true → Contains c.got.result.now k) (sym c.as_slice.ensures.value) c.in_ok-marks.ensures) in
    IfOk-on _ _ c.lacking.result (λ numbers all. LacksNoOther-new s posts first i x got marks numbers.items c.requires.before marked (λ k from lacking.
    all k from (subst (λ (y : ℕ). lacks s posts marks c.node.result y k ≡ true) actor (subst (λ (j : ℕ). lacks s posts marks j x k ≡ true) node lacking)))) c.lacking.ensures.all
