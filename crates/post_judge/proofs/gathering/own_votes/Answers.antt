use Rattle.std.proofs.Common.{ℕ, ap, ◌∙◌, slice_get}
use Rattle.hb_rules.specs.Hearing.{spelled}
use Rattle.post_judge.specs.declared.place.Place.{Place}
use Rattle.post_judge.specs.Places.{own_place}
use Rattle.post_judge.specs.Tables.{numbers_at, votes_at}
use Rattle.post_judge.proofs.Next.{chosen_all}
use Rattle.post_judge.proofs.gathering.own_votes.Goals as goal

pub returns : goal.returns
returns c =
    let t = c.args.table.now in
    let place : Place = own_place t.config.n c.args.node c.args.actor c.args.vote.now in
    c.at.ensures.votes
    ∙ ap (λ (p : Place). votes_at t.buckets.by_place p)
    (c.own_place-place.ensures ∙ ap (λ (n : ℕ). own_place n c.args.node c.args.actor c.args.vote.now) c.n.ensures.value)
    ∙ chosen_all (slice_get t.posts.items) (spelled t.config) (numbers_at t.buckets.by_place place) (votes_at t.buckets.by_place place)
    (c.requires.votes place)
