use Rattle.std.proofs.Common.{refl}
use Rattle.disk_model.specs.Memory.{met_of}
use Rattle.disk_model.proofs.Plans.{cause_by, explained_by, fails_by, power_by, draws_by}
use Rattle.disk_model.proofs.memory.MemoryDiskDisk.read.Goals as goal

pub returns-clause-explained : goal.returns-clause-explained
returns-clause-explained c = explained_by (met_of c.args.self.now) c.args.self.now.halves c.args.self.now.halves c.args.self.now
    c.read_as_planned.new.self c.read_as_planned.result refl c.read_as_planned.ensures.exact

pub returns-clause-power : goal.returns-clause-power
returns-clause-power c = power_by (met_of c.args.self.now) c.args.self.now.halves c.args.self.now.halves c.args.self.now
    c.read_as_planned.new.self c.read_as_planned.result c.read_as_planned.ensures.exact

pub returns-clause-supply : goal.returns-clause-supply
returns-clause-supply c = draws_by (met_of c.args.self.now) c.args.self.now.halves c.args.self.now.halves c.args.self.now c.read_as_planned.new.self
    c.read_as_planned.result refl c.kept.ensures.calls c.read_as_planned.ensures.exact

pub returns-clause-cause : goal.returns-clause-cause
returns-clause-cause c = cause_by (met_of c.args.self.now) c.args.self.now.halves
    c.args.self.now.halves c.args.self.now c.read_as_planned.new.self c.read_as_planned.result
    c.kept.ensures.faults c.read_as_planned.ensures.exact

pub returns-clause-off : goal.returns-clause-off
returns-clause-off c = fails_by (met_of c.args.self.now) c.args.self.now.halves
    c.args.self.now.halves c.args.self.now c.read_as_planned.new.self c.read_as_planned.result refl
    c.read_as_planned.ensures.exact
