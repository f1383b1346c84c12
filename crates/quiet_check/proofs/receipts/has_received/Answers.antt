use Rattle.std.proofs.Common.{Bool, List, false, slice_index_or, ap, ◌∙◌}
use Rattle.quiet_check.proofs.Receiving.{marks_told}
use Rattle.quiet_check.proofs.receipts.has_received.Goals as goal

pub returns : goal.returns
returns c =
    marks_told c.args.report.now c.args.end.now c.args.sent.now c.as_slice.result.now c.are_marked.result c.requires.sent
    (λ k. ap (λ (marks : List Bool). slice_index_or marks k false) c.as_slice.ensures.value ∙ c.in_ok-marks.ensures k) c.are_marked.ensures
