use Rattle.std.proofs.Common.{sym, ◌∙◌, arith}
use Rattle.tx_pool.proofs.Words.{differ_in_front, same_in_front, differ_in_length}
use Rattle.tx_pool.proofs.marks.are_same.Goals as goal

pub returns-in_default-split_first_chunk : goal.returns-in_default-split_first_chunk
returns-in_default-split_first_chunk c =
    differ_in_length 8 c.loop-front.left.now c.loop-front.right.now (omega (arith, c.in-Some.ensures.cases.2))
    c.in_default-split_first_chunk.ensures.cases ∙ c.loop-front.invariant

pub returns-then-not-is_same_word : goal.returns-then-not-is_same_word
returns-then-not-is_same_word c =
    differ_in_front 8 c.loop-front.left.now c.loop-front.right.now c.in-Some.front.now c.in-Some-split_first_chunk.other_front.now
    c.in-Some.ensures.cases.0 c.in-Some-split_first_chunk.ensures.cases.0 (sym c.is_same_word.ensures ∙ c.if-not-is_same_word.true) ∙ c.loop-front.invariant

pub loop-front-preserved : goal.loop-front-preserved
loop-front-preserved c =
    same_in_front 8 c.loop-front.left.now c.loop-front.right.now c.in-Some.front.now c.in-Some-split_first_chunk.other_front.now
    c.in-Some.after.now c.in-Some-split_first_chunk.other_after.now c.in-Some.ensures.cases.0 c.in-Some-split_first_chunk.ensures.cases.0
    (sym c.is_same_word.ensures ∙ c.if-not-is_same_word.false) c.in-Some.ensures.cases.1 c.in-Some-split_first_chunk.ensures.cases.1 ∙ c.loop-front.invariant
