use Rattle.std.proofs.Common.{take}
use Rattle.aba_core.proofs.Building.{IsBuilt}
use Rattle.aba_core.proofs.aba.Aba.rebuild.Given as goal

-- the votes before this one are cast
abbrev pub invariant-loop-vote : goal.invariant-loop-vote
invariant-loop-vote l =
    IsBuilt l.aba (record { config = l.fn.config; node = l.fn.node; lane = l.fn.lane; epoch = l.fn.epoch }) (take l.vote-index l.own)
