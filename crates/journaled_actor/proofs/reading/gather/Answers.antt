use Rattle.std.proofs.Common.{ℕ, List, ◌++◌, ap, ◌∙◌, arith}
use Rattle.std.specs.List.{concat}
use Rattle.std.proofs.lemmas.List.{take_all}
use Rattle.journaled_actor.proofs.Left.{gathered_more}
use Rattle.journaled_actor.proofs.reading.gather.Goals as goal

pub loop-entry-preserved : goal.loop-entry-preserved
loop-entry-preserved c =
    c.in_ok-extend_from_slice.ensures.items ∙ ap (λ (xs : List ℕ). c.loop-entry.text.items ++ xs) c.as_slice.ensures
    ∙ gathered_more c.args.entries.now c.loop-entry.entry-index c.loop-entry.text.items c.entry-item.result c.loop-entry-test.true c.entry-item.is
    c.loop-entry.invariant

pub returns : goal.returns
returns c = c.loop-entry.invariant ∙ ap concat (take_all c.loop-entry.entry-index c.args.entries.now (omega arith))
