use Rattle.std.proofs.Common.{◌+◌, ◌%◌, ap, ◌∙◌}
use Rattle.seed_words.specs.Words.{word_of}
use Rattle.seed_words.proofs.Moving.{moved_more, word_moved, one_more}
use Rattle.coin_deal.proofs.words.draw_bytes.Goals as goal

pub loop-preserved : goal.loop-preserved
loop-preserved c =
    let g = c.args.words.now in
    let k = c.loop.counter in
    record {
      drawn = one_more (λ i. word_of g (g.word_pos + i) % 256) c.args.bytes.now.items _ _ _ k c.loop.invariant.drawn c.in_ok-push.ensures.items
          (ap (λ w. w % 256) (c.next_word.ensures.word ∙ word_moved g c.loop.words k c.loop.invariant.moved));
      moved = c.next_word.ensures.moved ∙ moved_more g c.loop.words k 1 c.loop.invariant.moved;
    }
