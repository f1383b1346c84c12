use Rattle.std.proofs.Common.{List, ◌∷◌, ◌++◌, [], sym, ap, ◌∙◌, arith}
use Rattle.std.proofs.lemmas.List.FromFn.{map-range_with_len_more}
use Rattle.post_judge.specs.declared.place.Place.{Place}
use Rattle.post_judge.specs.declared.place.Topic.TheVariants as topics
use Rattle.post_judge.specs.Places.{place}
use Rattle.post_judge.proofs.placing.share_places.Goals as goal

pub loop-round-preserved : goal.loop-round-preserved
loop-round-preserved c =
    let r = c.loop-round.round in
    c.in_ok-push.ensures.items
    ∙ ap (λ (ps : List Place). ps ++ place topics.Shared c.args.lane c.args.epoch r ∷ []) c.loop-round.invariant
    ∙ sym (map-range_with_len_more (λ s. place topics.Shared c.args.lane c.args.epoch s) 0 r r (omega arith))
