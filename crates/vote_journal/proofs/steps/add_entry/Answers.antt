use Rattle.std.proofs.lemmas.Result.{IfOk-weaker}
use Rattle.disk_model.specs.Image.{half_of}
use Rattle.vote_journal.specs.Text.{half_entries}
use Rattle.vote_journal.proofs.Moments.{refused, and_then, done_unfailed}
use Rattle.vote_journal.proofs.Gains.{gains_first, gains_second, gained}
use Rattle.vote_journal.proofs.steps.add_entry.Goals as goal

pub returns-in_err-stage-clause-step : goal.returns-in_err-stage-clause-step
returns-in_err-stage-clause-step g c =
    let old = g.D.Disk.seen c.args.disk.now in
    let entries = half_entries (half_of c.args.half old) in
    refused c.from_residual.result c.from_residual.ensures.1 c.in_err-stage.ensures.step
    (λ image torn. gains_first c.args.half old image entries c.args.payload.now c.args.gate _ c.requires.holds c.requires.gate torn)

pub returns-clause-added : goal.returns-clause-added
returns-clause-added g c =
    let old = g.D.Disk.seen c.args.disk.now in
    let mid = g.D.Disk.seen c.stage.new.disk in
    let entries = half_entries (half_of c.args.half old) in
    IfOk-weaker c.open_gate.result _ _
    (λ _ written. gained c.args.half old mid entries c.args.payload.now c.args.framed.now c.args.gate c.requires.holds c.requires.gate
    c.requires.framed c.requires.short c.in_ok-stage.ensures.written (g.D.Disk.seen c.open_gate.new.disk) written)
    c.open_gate.ensures.written

pub returns-clause-step : goal.returns-clause-step
returns-clause-step g c =
    let old = g.D.Disk.seen c.args.disk.now in
    let mid = g.D.Disk.seen c.stage.new.disk in
    let entries = half_entries (half_of c.args.half old) in
    and_then c.stage.ensures.step.runs (done_unfailed c.in_ok-stage.ensures.step) c.open_gate.ensures.step
    (λ image torn. gains_first c.args.half old image entries c.args.payload.now c.args.gate _ c.requires.holds c.requires.gate torn)
    (gains_second c.args.half old mid entries c.args.payload.now c.args.framed.now c.args.gate c.requires.holds c.requires.gate
    c.requires.framed c.requires.short c.in_ok-stage.ensures.written)
