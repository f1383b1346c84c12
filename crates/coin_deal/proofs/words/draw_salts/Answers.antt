use Rattle.std.proofs.Common.{◌≡◌, ◌+◌, ◌*◌, ap, ◌∙◌, arith}
use Rattle.seed_words.specs.Words.{moved_by}
use Rattle.coin_deal.specs.Drawing.{four_words}
use Rattle.seed_words.proofs.Moving.{moved_more, one_more}
use Rattle.coin_deal.proofs.Moving.{fours_moved}
use Rattle.coin_deal.proofs.words.draw_salts.Goals as goal

pub loop-preserved : goal.loop-preserved
loop-preserved c =
    let g = c.args.words.now in
    let k = c.loop.counter in
    let four : 4 * k + 4 ≡ 4 * (k + 1) = omega arith in
    record {
      drawn = one_more (λ m. four_words g (g.word_pos + 4 * m)) c.args.salts.now.items _ _ _ k c.loop.invariant.drawn c.in_ok-push.ensures.items
          (c.next_salt.ensures.salt ∙ fours_moved g c.loop.words (4 * k) c.loop.invariant.moved);
      moved = c.next_salt.ensures.moved ∙ moved_more g c.loop.words (4 * k) 4 c.loop.invariant.moved ∙ ap (moved_by g) four;
    }
