use Rattle.std.proofs.Common.{refl}
use Rattle.disk_model.specs.Halves.{settled}
use Rattle.disk_model.specs.Memory.{met_of}
use Rattle.disk_model.proofs.Plans.{cause_by, explained_by, fails_by, power_by, draws_by, durable_by}
use Rattle.disk_model.proofs.memory.MemoryDiskDisk.sync.Goals as goal

pub returns-clause-durable : goal.returns-clause-durable
returns-clause-durable c = durable_by (met_of c.args.self.now) c.args.self.now c.sync_as_planned.new.self c.sync_as_planned.result
    c.sync_as_planned.ensures.exact

pub returns-clause-explained : goal.returns-clause-explained
returns-clause-explained c = explained_by (met_of c.args.self.now) (settled c.args.self.now.halves) c.args.self.now.halves c.args.self.now
    c.sync_as_planned.new.self c.sync_as_planned.result refl c.sync_as_planned.ensures.exact

pub returns-clause-power : goal.returns-clause-power
returns-clause-power c = power_by (met_of c.args.self.now) (settled c.args.self.now.halves) c.args.self.now.halves c.args.self.now
    c.sync_as_planned.new.self c.sync_as_planned.result c.sync_as_planned.ensures.exact

pub returns-clause-supply : goal.returns-clause-supply
returns-clause-supply c = draws_by (met_of c.args.self.now) (settled c.args.self.now.halves) c.args.self.now.halves c.args.self.now
    c.sync_as_planned.new.self c.sync_as_planned.result refl c.kept.ensures.calls c.sync_as_planned.ensures.exact

pub returns-clause-cause : goal.returns-clause-cause
returns-clause-cause c = cause_by (met_of c.args.self.now) (settled c.args.self.now.halves)
    c.args.self.now.halves c.args.self.now c.sync_as_planned.new.self c.sync_as_planned.result
    c.kept.ensures.faults c.sync_as_planned.ensures.exact

pub returns-clause-off : goal.returns-clause-off
returns-clause-off c = fails_by (met_of c.args.self.now) (settled c.args.self.now.halves)
    c.args.self.now.halves c.args.self.now c.sync_as_planned.new.self c.sync_as_planned.result refl
    c.sync_as_planned.ensures.exact
