use Rattle.std.proofs.Common.{length, refl, ap, arith}
use Rattle.quiet_check.specs.Ends.{IsEndQuiet}
use Rattle.hb_rules.specs.Report.{IsQuiet}
use Rattle.quiet_check.proofs.Finished.{finished}
use Rattle.quiet_check.proofs.LaneEpochs.{not_told}
use Rattle.quiet_check.proofs.Quietness.{are_of_run, end_there, end_quiet, quiet_more, all_quiet}
use Rattle.quiet_check.proofs.quiet.is_quiet.Goals as goal

pub is_end_quiet-requires-clause-node : goal.is_end_quiet-requires-clause-node
is_end_quiet-requires-clause-node c =
    let named = are_of_run c.args.report.now c.as_slice.result.now c.as_slice.ensures.value (c.in_ok-all.ensures.0 c.if-not-all.false) in
    let there = end_there c.args.report.now c.deref-end-items.result.now c.loop-end.end-index c.end-item.result named c.deref-end-items.ensures.value
    (omega arith) c.end-item.is in
    there.of_run.0

pub is_end_quiet-requires-clause-actor : goal.is_end_quiet-requires-clause-actor
is_end_quiet-requires-clause-actor c =
    let named = are_of_run c.args.report.now c.as_slice.result.now c.as_slice.ensures.value (c.in_ok-all.ensures.0 c.if-not-all.false) in
    let there = end_there c.args.report.now c.deref-end-items.result.now c.loop-end.end-index c.end-item.result named c.deref-end-items.ensures.value
    (omega arith) c.end-item.is in
    there.of_run.1

pub returns-then-not-is_quiet : goal.returns-then-not-is_quiet
returns-then-not-is_quiet c =
    let named = are_of_run c.args.report.now c.as_slice.result.now c.as_slice.ensures.value (c.in_ok-all.ensures.0 c.if-not-all.false) in
    let there = end_there c.args.report.now c.deref-end-items.result.now c.loop-end.end-index c.end-item.result named c.deref-end-items.ensures.value
    (omega arith) c.end-item.is in
    record {
      exact = (
        λ fails. absurd (cc (fails)),
        λ quiet. absurd (not_told c.in_ok-is_quiet.is_quiet (IsEndQuiet c.args.report.now c.end-item.result) c.in_ok-is_quiet.ensures c.if-not-is_quiet.true
            (end_quiet c.args.report.now c.end-item.result quiet there.stands)),
      );
      calm = λ told. absurd (cc (told));
    }

pub loop-end-preserved : goal.loop-end-preserved
loop-end-preserved c =
    let named = are_of_run c.args.report.now c.as_slice.result.now c.as_slice.ensures.value (c.in_ok-all.ensures.0 c.if-not-all.false) in
    let there = end_there c.args.report.now c.deref-end-items.result.now c.loop-end.end-index c.end-item.result named c.deref-end-items.ensures.value
    (omega arith) c.end-item.is in
    quiet_more c.args.report.now c.loop-end.end-index c.end-item.result c.loop-end.invariant there.at (c.in_ok-is_quiet.ensures.0 c.if-not-is_quiet.false)

pub returns : goal.returns
returns c =
    let named = are_of_run c.args.report.now c.as_slice.result.now c.as_slice.ensures.value (c.in_ok-all.ensures.0 c.if-not-all.false) in
    let quiet : IsQuiet c.args.report.now =
    all_quiet c.args.report.now named (λ p end below at.
    c.loop-end.invariant p end (omega (arith, ap length c.deref-end-items.ensures.value)) at) in
    record {
      exact = (λ told. quiet, λ quiet. refl);
      calm = λ told lossless. finished c.args.report.now (record { lossless = lossless; quiet = quiet });
    }
