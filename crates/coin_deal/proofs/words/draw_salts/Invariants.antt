use Rattle.std.proofs.Common.{◌≡◌, ◌*◌, ◌++◌}
use Rattle.seed_words.specs.Words.{moved_by}
use Rattle.coin_deal.specs.Drawing.{next_fours}
use Rattle.coin_deal.proofs.words.draw_salts.Given as goal

-- the salts drawn so far
abbrev pub invariant-loop : goal.invariant-loop
invariant-loop l = record {
  drawn : l.salts.items ≡ l.fn.salts.items ++ next_fours l.fn.words l.counter;
  moved : l.words ≡ moved_by l.fn.words (4 * l.counter);
}
