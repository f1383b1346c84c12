use Rattle.std.proofs.Common.{◌≡◌, ◌+◌, ◌-◌, ◌≤◌, length, vec_len, vec_capacity}
use Rattle.aba_core.specs.Made.{all_rounds}
use Rattle.aba_core.proofs.rounds.make.Given as goal

-- the rounds stay what they are, and there is still room for all
abbrev pub invariant-rounds : goal.invariant-rounds
invariant-rounds l = record {
  same : all_rounds l.config l.lane l.epoch l.made.items ≡ all_rounds l.config l.lane l.epoch l.initial.made.items;
  count : length l.made.items ≤ l.config.rounds;
  room : vec_capacity l.made ≡ vec_capacity l.initial.made;
}

abbrev pub decreases-rounds : goal.decreases-rounds
decreases-rounds l = l.round + 1 - vec_len l.made
