use Rattle.std.proofs.Common.{◌≡◌, ◌+◌, ◌*◌, ◌/◌, [], ap, ◌∙◌, arith}
use Rattle.net_script.specs.declared.script.Submit.{Submit}
use Rattle.seed_words.specs.Words.{moved_by, word_of}
use Rattle.seed_words.proofs.Moving.{moved_more, one_more}
use Rattle.scenario_gen.specs.Generated.{submit}
use Rattle.scenario_gen.proofs.Drawn.{transaction_moved}
use Rattle.scenario_gen.proofs.drawing.draw_submits.Goals as goal

pub loop-t-preserved : goal.loop-t-preserved
loop-t-preserved c =
    let g = c.args.words.now in
    let t = c.loop-t.t in
    let drawn = transaction_moved g c.loop-t.words (2 * t) (4 + 2 * t) _ c.loop-t.invariant.moved
    (ap (λ place. place + 2 * t) c.requires.place) c.draw_transaction.ensures.bytes in
    let next : 2 * t + 2 ≡ 2 * (t + 1) = omega arith in
    record {
      drawn = one_more (submit (word_of g)) [] c.loop-t.drawn.items _ _ t c.loop-t.invariant.drawn c.in_ok-push.ensures.items
          (ap (λ tx. let s : Submit = record { node = t / 64; tx = tx } in s) (c.in_ok-tx.ensures ∙ drawn));
      moved = c.draw_transaction.ensures.moved ∙ moved_more g c.loop-t.words (2 * t) 2 c.loop-t.invariant.moved ∙ ap (moved_by g) next;
    }
