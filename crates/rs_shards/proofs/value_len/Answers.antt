use Rattle.std.proofs.Common.{take, drop, sym, ap, ◌∙◌}
use Rattle.rs_shards.proofs.Columns.{AreBytes-of}
use Rattle.rs_shards.proofs.Frames.{value_in-true, value_in-false, value_in-bytes}
use Rattle.rs_shards.proofs.value_len.Goals as goal

pub returns-then-is_frame-clause-value : goal.returns-then-is_frame-clause-value
returns-then-is_frame-clause-value c =
    let frame = c.args.frame.now in
    value_in-true c.args.k frame (sym c.is_frame.ensures.value ∙ c.if-is_frame.true)
    ∙ ap (λ n. take n (drop 4 frame)) (sym c.stated_length.ensures.value)

pub returns-then-is_frame-clause-bytes : goal.returns-then-is_frame-clause-bytes
returns-then-is_frame-clause-bytes c = value_in-bytes c.args.k c.args.frame.now (AreBytes-of c.args.frame.now c.type_inv.frame)

pub returns-else-is_frame-clause-value : goal.returns-else-is_frame-clause-value
returns-else-is_frame-clause-value c = value_in-false c.args.k c.args.frame.now (sym c.is_frame.ensures.value ∙ c.if-is_frame.false)

pub returns-else-is_frame-clause-bytes : goal.returns-else-is_frame-clause-bytes
returns-else-is_frame-clause-bytes c = value_in-bytes c.args.k c.args.frame.now (AreBytes-of c.args.frame.now c.type_inv.frame)
