use Rattle.std.proofs.Common.{◌≡◌, ◌≤◌}
use Rattle.aba_core.specs.Rows.{room_of}
use Rattle.aba_core.specs.Passing.{PassedTimes}
use Rattle.aba_core.proofs.aba.Aba.settle.Given as goal

-- all slots were gone through some times
abbrev pub invariant-again : goal.invariant-again
invariant-again l = record {
  passed : PassedTimes l.from l.initial.self l.self l.initial.due l.due;
  config : l.self.config ≡ l.initial.self.config;
  room : room_of l.self ≤ l.due.spare;
}

abbrev pub decreases-again : goal.decreases-again
decreases-again l = room_of l.self
