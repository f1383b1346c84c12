use Rattle.std.proofs.Common.{◌≡◌, take}
use Rattle.aba_judge.specs.Adding.{shares_at}
use Rattle.aba_judge.proofs.coins.collected.Given as goal

-- the shares that were heard before this hearing
abbrev pub invariant-loop-said : goal.invariant-loop-said
invariant-loop-said l = l.shares ≡ shares_at l.place.config l.place.epoch l.place.lane l.fn.round (take l.said-index l.heard)
