use Rattle.std.proofs.Common.{take}
use Rattle.rbc_core.proofs.Marking.{AreMarked}
use Rattle.rbc_core.proofs.rbc.Rbc.rebuild.Given as goal

abbrev pub invariant-loop-vote : goal.invariant-loop-vote
invariant-loop-vote l =
    AreMarked l.rbc (record { config = l.fn.config; node = l.fn.node; lane = l.fn.lane; epoch = l.fn.epoch }) (take l.vote-index l.own)
