use Rattle.std.proofs.Common.{◌≡◌, List, ℕ, sym, ap, ◌∙◌}
use Rattle.std.specs.List.{list_any}
use Rattle.hb_wire.specs.declared.post.Post.{Post}
use Rattle.post_judge.specs.Places.{own_place}
use Rattle.post_judge.specs.Tables.{is_post, numbers_at}
use Rattle.post_judge.proofs.Judged.{judged_exactly}
use Rattle.post_judge.proofs.table.Table.was_judged.Goals as goal

pub returns : goal.returns
returns c =
    let t = c.args.self.now in
    let post : Post = c.args.post.now in
    let vote = c.args.vote.now in
    let exactly =
    judged_exactly t.config t.posts.items t.buckets.by_place post vote c.requires.told c.requires.vote
    (λ a b. ((c.equality_laws.ensures.posts a b).0, (c.equality_laws.ensures.posts a b).1)) in
    let is : c.has_post.result ≡ list_any (is_post t.posts.items post) (numbers_at t.buckets.by_place (own_place t.config.n post.from post.actor vote)) =
    c.has_post.ensures ∙ ap (λ (ps : List Post). list_any (is_post ps post) c.at.result.0.now) c.deref.ensures.value
    ∙ ap (λ (ks : List ℕ). list_any (is_post t.posts.items post) ks) (c.at.ensures.numbers
    ∙ ap (numbers_at t.buckets.by_place) (c.own_place-place.ensures ∙ ap (λ (n : ℕ). own_place n post.from post.actor vote) c.n-n.ensures.value)) in
    (λ yes. exactly.0 (sym is ∙ yes), λ both. is ∙ exactly.1 both)
