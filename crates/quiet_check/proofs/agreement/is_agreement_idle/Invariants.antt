use Rattle.std.proofs.Common.{take}
use Rattle.quiet_check.proofs.Noting.{HasNoted}
use Rattle.quiet_check.proofs.agreement.is_agreement_idle.Given as goal

-- the votes before this one are noted
abbrev pub invariant-loop-said : goal.invariant-loop-said
invariant-loop-said l = HasNoted l.aba (record { config = l.place.config; node = l.place.node; lane = l.place.lane; epoch = l.place.epoch }) l.own (take l.said-index l.heard)
