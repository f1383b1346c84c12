use Rattle.std.proofs.Common.{◌≡◌, ◌≤◌, ◌-◌}
use Rattle.hb_rules.specs.Slots.{each}
use Rattle.aba_core.specs.Rows.{row_at, room_of}
use Rattle.aba_core.specs.Passing.{Passed}
use Rattle.aba_core.proofs.aba.Aba.row.Given as goal

-- the rounds before this one were gone through
abbrev pub invariant-loop-round : goal.invariant-loop-round
invariant-loop-round l = record {
  passed : Passed l.from l.initial.self l.self (each l.round (row_at l.initial.self.config l.row)) l.initial.due l.due;
  config : l.self.config ≡ l.initial.self.config;
  room : room_of l.self ≤ l.due.spare;
  later : l.from ≤ l.round;
  inside : l.round ≤ l.initial.self.config.rounds;
}

abbrev pub decreases-loop-round : goal.decreases-loop-round
decreases-loop-round l = l.initial.self.config.rounds - l.round
