use Rattle.disk_model.specs.Area.{after_write}
use Rattle.disk_model.specs.Halves.{on_half}
use Rattle.disk_model.proofs.Plans.{write_cause, write_explained, write_fails, write_power, write_draws, write_by, write_kept_by}
use Rattle.disk_model.proofs.memory.MemoryDiskDisk.write_at.Goals as goal

pub returns-clause-crash : goal.returns-clause-crash
returns-clause-crash c = write_by c.args.half c.args.at c.args.bytes.now c.args.self.now c.write_as_planned.new.self c.write_as_planned.result
    c.requires c.write_as_planned.ensures.exact

pub returns-clause-kept : goal.returns-clause-kept
returns-clause-kept c = write_kept_by c.args.half c.args.at c.args.bytes.now c.args.self.now c.write_as_planned.new.self c.write_as_planned.result
    c.kept.ensures c.requires c.write_as_planned.ensures.exact

pub returns-clause-explained : goal.returns-clause-explained
returns-clause-explained c = write_explained (on_half c.args.half (after_write c.args.at c.args.bytes.now) c.args.self.now.halves) c.args.self.now
    c.write_as_planned.new.self c.write_as_planned.result c.write_as_planned.ensures.exact

pub returns-clause-power : goal.returns-clause-power
returns-clause-power c = write_power (on_half c.args.half (after_write c.args.at c.args.bytes.now) c.args.self.now.halves) c.args.self.now
    c.write_as_planned.new.self c.write_as_planned.result c.write_as_planned.ensures.exact

pub returns-clause-supply : goal.returns-clause-supply
returns-clause-supply c = write_draws (on_half c.args.half (after_write c.args.at c.args.bytes.now) c.args.self.now.halves) c.args.self.now
    c.write_as_planned.new.self c.write_as_planned.result c.kept.ensures.calls c.write_as_planned.ensures.exact

pub returns-clause-cause : goal.returns-clause-cause
returns-clause-cause c = write_cause (on_half c.args.half (after_write c.args.at c.args.bytes.now) c.args.self.now.halves) c.args.self.now
    c.write_as_planned.new.self c.write_as_planned.result c.kept.ensures.faults c.write_as_planned.ensures.exact

pub returns-clause-off : goal.returns-clause-off
returns-clause-off c = write_fails (on_half c.args.half (after_write c.args.at c.args.bytes.now) c.args.self.now.halves) c.args.self.now
    c.write_as_planned.new.self c.write_as_planned.result c.write_as_planned.ensures.exact
