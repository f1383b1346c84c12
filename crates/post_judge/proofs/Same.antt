-- Places that compare alike are one.
use Rattle.std.proofs.Common.{◌≡◌, true, ◌==◌, ap, ◌∙◌, rules}
use Rattle.std.proofs.lemmas.Bool.{and_parts, eqb-true}
use Rattle.std.proofs.lemmas.Cmp.{tied_itself}
use Rattle.std.specs.Ordering.{is_eq}
use Rattle.post_judge.specs.declared.place.Topic.{Topic}
use Rattle.post_judge.specs.declared.place.Place.{Place}
use Rattle.post_judge.specs.contracts.place.TopicPartialEq.TheImpl.{ghosts as equal_topics}
use Rattle.post_judge.specs.contracts.place.PlacePartialEq.TheImpl.{ghosts as equal}
use Rattle.post_judge.specs.contracts.place.PlaceOrd.TheImpl.Laws.{total-law, matches_eq-law}
use Rattle.post_judge.specs.Tables.{same_place}

topic_is : (a b : Topic) → equal_topics.eq a b ≡ true → a ≡ b
topic_is a b e = search rules

pub place_is : (a b : Place) → same_place a b ≡ true → a ≡ b
place_is a b e =
    let law = matches_eq-law a b in
    let same : equal.eq a b ≡ true = law ∙ e in
    let one = and_parts (equal_topics.eq a.topic b.topic) _ same in
    let two = and_parts (a.owner == b.owner) _ one.1 in
    let three = and_parts (a.epoch == b.epoch) (a.part == b.part) two.1 in
    λ i. record {
      topic = topic_is a.topic b.topic one.0 i;
      owner = eqb-true a.owner b.owner two.0 i;
      epoch = eqb-true a.epoch b.epoch three.0 i;
      part = eqb-true a.part b.part three.1 i;
    }

pub place_self : (a : Place) → same_place a a ≡ true
place_self a = ap is_eq (tied_itself total-law a)
