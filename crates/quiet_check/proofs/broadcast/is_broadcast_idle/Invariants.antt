use Rattle.std.proofs.Common.{take}
use Rattle.quiet_check.proofs.Broadcasts.{HasHeard}
use Rattle.quiet_check.proofs.broadcast.is_broadcast_idle.Given as goal

-- none of the hearings before this one made anything due
abbrev pub invariant-loop-said : goal.invariant-loop-said
invariant-loop-said l =
    HasHeard l.rbc (record { config = l.place.config; node = l.place.node; lane = l.place.lane; epoch = l.place.epoch }) l.own
    (take l.said-index l.heard) l.due.votes
