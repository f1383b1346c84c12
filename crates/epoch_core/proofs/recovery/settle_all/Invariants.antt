use Rattle.std.proofs.Common.{◌≡◌, take}
use Rattle.std.specs.List.{flat_map}
use Rattle.epoch_core.specs.Closing.{closed_transactions}
use Rattle.epoch_core.proofs.recovery.settle_all.Given as goal

abbrev pub invariant-loop-vote : goal.invariant-loop-vote
invariant-loop-vote l = l.gone.items ≡ flat_map closed_transactions (take l.vote-index l.own)
