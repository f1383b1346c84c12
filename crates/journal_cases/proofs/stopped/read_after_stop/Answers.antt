use Rattle.std.proofs.Common.{refl, ap, is_some}
use Rattle.disk_model.specs.declared.plan.Leave.TheVariants.{Old, New, Torn}
use Rattle.disk_model.specs.Memory.{MemoryState}
use Rattle.journal_cases.proofs.AfterStops.{made, goes_off, comes_back, found, reads_on}
use Rattle.journal_cases.proofs.stopped.read_after_stop.Goals as goal

pub switch_on-requires : goal.switch_on-requires
switch_on-requires c =
    let new = made _ _ c.args.leave c.new-disk.result c.new-disk.ensures c.in_ok-from_slice.ensures.items c.new.ensures.items in
    let off = goes_off c.args.leave c.new-disk.result c.write_at.new.self c.sync.new.self c.write_at-2.new.self c.sync-stopped.new.self
    c.write_at.result c.sync.result c.write_at-2.result c.sync-stopped.result c.in_ok-write_at.field-0 c.in_ok-write_at-2.field-0
    new c.in_ok-write_at.was c.in_ok-write_at-2.was
    c.write_at.ensures.exact c.sync.ensures.exact c.write_at-2.ensures.exact c.sync-stopped.ensures.exact in
    ap (λ (d : MemoryState). is_some d.off) off

pub returns-clause-bytes : goal.returns-clause-bytes
returns-clause-bytes c =
    let new = made _ _ c.args.leave c.new-disk.result c.new-disk.ensures c.in_ok-from_slice.ensures.items c.new.ensures.items in
    let off = goes_off c.args.leave c.new-disk.result c.write_at.new.self c.sync.new.self c.write_at-2.new.self c.sync-stopped.new.self
    c.write_at.result c.sync.result c.write_at-2.result c.sync-stopped.result c.in_ok-write_at.field-0 c.in_ok-write_at-2.field-0
    new c.in_ok-write_at.was c.in_ok-write_at-2.was
    c.write_at.ensures.exact c.sync.ensures.exact c.write_at-2.ensures.exact c.sync-stopped.ensures.exact in
    let back = comes_back c.args.leave c.sync-stopped.new.self c.switch_on.new.self c.switch_on.result c.in_ok-switch_on.field-0 off
    c.in_ok-switch_on.was c.switch_on.ensures.exact in (
      λ old. found Old c.args.leave c.switch_on.new.self _ c.read.new.buf c.read.result c.in_ok-read.field-0 back c.in_ok-read.was c.read.ensures.bytes refl old refl,
      λ new. found New c.args.leave c.switch_on.new.self _ c.read.new.buf c.read.result c.in_ok-read.field-0 back c.in_ok-read.was c.read.ensures.bytes refl new refl,
      λ torn. found Torn c.args.leave c.switch_on.new.self _ c.read.new.buf c.read.result c.in_ok-read.field-0 back c.in_ok-read.was c.read.ensures.bytes refl torn refl,
    )

pub returns-in_err-read-clause-memory : goal.returns-in_err-read-clause-memory
returns-in_err-read-clause-memory c =
    let new = made _ _ c.args.leave c.new-disk.result c.new-disk.ensures c.in_ok-from_slice.ensures.items c.new.ensures.items in
    let off = goes_off c.args.leave c.new-disk.result c.write_at.new.self c.sync.new.self c.write_at-2.new.self c.sync-stopped.new.self
    c.write_at.result c.sync.result c.write_at-2.result c.sync-stopped.result c.in_ok-write_at.field-0 c.in_ok-write_at-2.field-0
    new c.in_ok-write_at.was c.in_ok-write_at-2.was
    c.write_at.ensures.exact c.sync.ensures.exact c.write_at-2.ensures.exact c.sync-stopped.ensures.exact in
    let back = comes_back c.args.leave c.sync-stopped.new.self c.switch_on.new.self c.switch_on.result c.in_ok-switch_on.field-0 off
    c.in_ok-switch_on.was c.switch_on.ensures.exact in
    absurd (reads_on c.args.leave c.switch_on.new.self c.read.new.self c.read.result c.in_err-read.field-0.0 back c.read.ensures.exact c.in_err-read.was)
