use Rattle.std.proofs.Common.{ℕ, List, ◌++◌, length, map, take, filter_map, Option, Some, sym, ap, ◌∙◌, arith}
use Rattle.std.proofs.lemmas.List.{length-map}
use Rattle.hb_wire.specs.declared.vote.Vote.{Vote}
use Rattle.hb_rules.specs.Hearing.{Hearing}
use Rattle.post_judge.specs.declared.place.Place.{Place}
use Rattle.post_judge.specs.Tables.{spelled_at, told_to, posts_of, posts_at, told_from}
use Rattle.post_judge.proofs.Next.{joined_next}
use Rattle.post_judge.proofs.gathering.told_from.Goals as goal

pub hear_told-requires-clause-votes : goal.hear_told-requires-clause-votes
hear_told-requires-clause-votes c =
    let t = c.args.table.now in
    ap (λ (vs : List Vote). map Some vs) c.at.ensures.votes
    ∙ c.requires.votes _
    ∙ sym (ap (λ (ks : List ℕ). map (spelled_at t.config t.posts.items) ks) c.at.ensures.numbers)

pub hear_told-requires-clause-size : goal.hear_told-requires-clause-size
hear_told-requires-clause-size c =
    let t = c.args.table.now in
    sym (length-map c.at.result.0.now (spelled_at t.config t.posts.items))
    ∙ sym (ap (λ (os : List (Option Vote)). length os) (hear_told-requires-clause-votes c)) ∙ length-map c.at.result.1.now Some

pub loop-place-preserved : goal.loop-place-preserved
loop-place-preserved c =
    let t = c.args.table.now in
    let k = c.loop-place.place-index in
    let places : List Place = c.args.places.now in
    let told = told_to t.config c.args.node c.args.actor in
    c.in_ok-hear_told.ensures
    ∙ ap (λ (hs : List Hearing). hs ++ filter_map told (posts_of t.posts.items c.at.result.0.now)) c.loop-place.invariant
    ∙ ap (λ (ks : List ℕ). told_from t.config c.args.node c.args.actor t.posts.items t.buckets.by_place (take k places) ++ filter_map told (posts_of t.posts.items ks))
    c.at.ensures.numbers
    ∙ joined_next (λ (p : Place). filter_map told (posts_at t.posts.items t.buckets.by_place p)) places k _ (omega (arith, c.loop-place-test.true))
