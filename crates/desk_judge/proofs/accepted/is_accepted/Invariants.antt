use Rattle.std.proofs.Common.{◌≡◌, ◌-◌}
use Rattle.desk_judge.proofs.Accepting.{fits}
use Rattle.desk_judge.proofs.accepted.is_accepted.Given as goal

-- the lanes from here on and what is left of the list fit where all do
abbrev pub invariant-loop-lane : goal.invariant-loop-lane
invariant-loop-lane l = fits l.fn.epoch l.heard l.fn.n 0 l.list ≡ fits l.fn.epoch l.heard (l.fn.n - l.lane) l.lane l.rest
