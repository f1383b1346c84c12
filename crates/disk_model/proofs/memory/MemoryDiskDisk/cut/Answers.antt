use Rattle.std.proofs.Common.{refl}
use Rattle.disk_model.specs.Area.{after_cut}
use Rattle.disk_model.specs.Halves.{on_half}
use Rattle.disk_model.specs.Memory.{met_of}
use Rattle.disk_model.proofs.Plans.{cause_by, explained_by, fails_by, power_by, draws_by, cut_by, cut_kept_by}
use Rattle.disk_model.proofs.memory.MemoryDiskDisk.cut.Goals as goal

pub returns-clause-crash : goal.returns-clause-crash
returns-clause-crash c = cut_by (met_of c.args.self.now) c.args.half c.args.len c.args.self.now c.cut_as_planned.new.self c.cut_as_planned.result
    c.requires c.cut_as_planned.ensures.exact

pub returns-clause-kept : goal.returns-clause-kept
returns-clause-kept c = cut_kept_by (met_of c.args.self.now) c.args.half c.args.len c.args.self.now c.cut_as_planned.new.self
    c.cut_as_planned.result c.kept.ensures c.requires c.cut_as_planned.ensures.exact

pub returns-clause-explained : goal.returns-clause-explained
returns-clause-explained c = explained_by (met_of c.args.self.now) (on_half c.args.half (after_cut c.args.len) c.args.self.now.halves)
    (on_half c.args.half (after_cut c.args.len) c.args.self.now.halves) c.args.self.now c.cut_as_planned.new.self c.cut_as_planned.result refl
    c.cut_as_planned.ensures.exact

pub returns-clause-power : goal.returns-clause-power
returns-clause-power c = power_by (met_of c.args.self.now) (on_half c.args.half (after_cut c.args.len) c.args.self.now.halves)
    (on_half c.args.half (after_cut c.args.len) c.args.self.now.halves) c.args.self.now c.cut_as_planned.new.self c.cut_as_planned.result
    c.cut_as_planned.ensures.exact

pub returns-clause-supply : goal.returns-clause-supply
returns-clause-supply c = draws_by (met_of c.args.self.now) (on_half c.args.half (after_cut c.args.len) c.args.self.now.halves)
    (on_half c.args.half (after_cut c.args.len) c.args.self.now.halves) c.args.self.now c.cut_as_planned.new.self c.cut_as_planned.result refl
    c.kept.ensures.calls c.cut_as_planned.ensures.exact

pub returns-clause-cause : goal.returns-clause-cause
returns-clause-cause c = cause_by (met_of c.args.self.now) (on_half c.args.half (after_cut c.args.len) c.args.self.now.halves)
    (on_half c.args.half (after_cut c.args.len) c.args.self.now.halves) c.args.self.now c.cut_as_planned.new.self c.cut_as_planned.result
    c.kept.ensures.faults c.cut_as_planned.ensures.exact

pub returns-clause-off : goal.returns-clause-off
returns-clause-off c = fails_by (met_of c.args.self.now) (on_half c.args.half (after_cut c.args.len) c.args.self.now.halves)
    (on_half c.args.half (after_cut c.args.len) c.args.self.now.halves) c.args.self.now c.cut_as_planned.new.self c.cut_as_planned.result refl
    c.cut_as_planned.ensures.exact
