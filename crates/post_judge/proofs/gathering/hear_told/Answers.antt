use Rattle.std.proofs.Common.{ℕ, ◌<◌, List, ◌++◌, length, take, get_or, filter_map, slice_get, Option, ap, ◌∙◌, arith, append_assoc}
use Rattle.std.specs.Option.{option_to_list, option_and_then}
use Rattle.hb_wire.specs.declared.post.Post.{Post}
use Rattle.hb_rules.specs.Hearing.{Hearing}
use Rattle.post_judge.specs.Tables.{spelled_at, posts_of, told_to}
use Rattle.post_judge.proofs.Next.{again_next, chosen_at}
use Rattle.post_judge.proofs.gathering.hear_told.Goals as goal

pub told_of-requires : goal.told_of-requires
told_of-requires c =
    let t = c.args.table.now in
    let k = c.loop-k.k in
    let numbers : List ℕ = c.args.numbers.now in
    let inside : k < length numbers = omega (arith, c.loop-k-test.true) in
    ap (λ (ps : List Post). spelled_at t.config ps (get_or numbers k 0)) c.deref.ensures.value
    ∙ chosen_at (spelled_at t.config t.posts.items) numbers c.args.votes.now k 0 c.index-votes-k.result c.requires.votes inside
    (omega (arith, inside, c.requires.size)) c.index-votes-k.is

pub loop-k-preserved : goal.loop-k-preserved
loop-k-preserved c =
    let t = c.args.table.now in
    let k = c.loop-k.k in
    let numbers : List ℕ = c.args.numbers.now in
    let told = told_to t.config c.args.node c.args.actor in
    let before : List Hearing = c.args.heard.now.items in
    let so_far : List Hearing = filter_map told (posts_of t.posts.items (take k numbers)) in
    c.in_ok-push_some.ensures
    ∙ ap (λ (hs : List Hearing). hs ++ option_to_list c.in_ok-said.said) c.loop-k.invariant
    ∙ append_assoc before so_far (option_to_list c.in_ok-said.said)
    ∙ ap (λ (o : Option Hearing). before ++ (so_far ++ option_to_list o))
    (c.in_ok-said.ensures ∙ ap (λ (ps : List Post). option_and_then told (slice_get ps (get_or numbers k 0))) c.deref.ensures.value)
    ∙ ap (λ (hs : List Hearing). before ++ hs) (again_next (slice_get t.posts.items) told numbers k 0 (omega (arith, c.loop-k-test.true)))
