use Rattle.std.proofs.Common.{ℕ, List, ◌/◌, length, sym, ap, ◌∙◌}
use Rattle.tx_pool.specs.Marks.{mark, stir, word, stir_words}
use Rattle.tx_pool.proofs.Words.{stir_step, stir_rest}
use Rattle.tx_pool.proofs.marks.mark_of.Goals as goal

pub loop-front-preserved : goal.loop-front-preserved
loop-front-preserved c =
    ap (λ (m : ℕ). stir_words (length c.in-Some.after.now / 8) m c.in-Some.after.now)
    (c.stir-mark.ensures
    ∙ ap (λ (n : ℕ). stir c.loop-front.mark n) (c.word_of.ensures ∙ ap (λ (l : List ℕ). word l) c.in-Some.ensures.cases.0))
    ∙ sym (stir_step c.loop-front.mark c.loop-front.rest.now c.in-Some.after.now c.in-Some.ensures.cases.1 c.in-Some.ensures.cases.2)
    ∙ c.loop-front.invariant

pub returns : goal.returns
unfolding mark
returns c = c.stir_all.ensures ∙ sym (stir_rest c.loop-front.mark c.loop-front.rest.now c.in_default.ensures.cases) ∙ c.loop-front.invariant
