use Rattle.std.proofs.Common.{◌≡◌, ℕ, ◌++◌, List, filter, Contains, sym, ap, ◌∙◌, subst}
use Rattle.std.proofs.lemmas.List.Sorted.{Contains-permutation}
use Rattle.hb_wire.specs.declared.post.Post.{Post}
use Rattle.last_deliveries.specs.Catching.{lacks}
use Rattle.last_deliveries.proofs.Lackings.{lacking_found}
use Rattle.last_deliveries.proofs.marking.lacking.Goals as goal

pub returns-clause-all : goal.returns-clause-all
returns-clause-all c =
    let s = c.args.script.now in
    let posts = c.args.posts.now.posts in
    let marks = c.args.marks.now in
    let i = c.args.node in
    let x = c.args.actor in
    let nodes = c.to_node.result.now in
    let actors = c.to_actor.result.now in
    let read = c.as_slice-all.result.now in
    let numbers = c.add_lacking-2.new.numbers.items in
    let both : numbers ≡ filter (lacks s posts marks i x) nodes ++ filter (lacks s posts marks i x) actors =
    subst (λ (ps : List Post). numbers ≡ filter (lacks s ps marks i x) nodes ++ filter (lacks s ps marks i x) actors) c.as_slice-all.ensures
    (c.in_ok-add_lacking-2.ensures
    ∙ ap (λ (ks : List ℕ). ks ++ filter (lacks s read marks i x) actors)
    (c.in_ok-add_lacking.ensures ∙ ap (λ (ks : List ℕ). ks ++ filter (lacks s read marks i x) nodes) c.new-numbers.ensures.items)) in
    λ k from lacking. Contains-permutation numbers c.sort_unstable.new.self.items k c.sort_unstable.ensures.permutation
    (subst (λ (ks : List ℕ). Contains ks k) (sym both) (lacking_found s posts c.args.posts.now.first marks i x nodes actors c.to_node.ensures c.to_actor.ensures k from lacking))
