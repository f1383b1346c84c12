use Rattle.std.proofs.Common.{◌≡◌}
use Rattle.post_judge.specs.Places.{share_places}
use Rattle.post_judge.proofs.placing.share_places.Given as goal

abbrev pub invariant-loop-round : goal.invariant-loop-round
invariant-loop-round l = l.places.items ≡ share_places l.fn.lane l.fn.epoch l.round
