use Rattle.std.proofs.Common.{◌≡◌, ◌++◌}
use Rattle.seed_words.specs.Words.{moved_by}
use Rattle.coin_deal.specs.Drawing.{next_bytes}
use Rattle.coin_deal.proofs.words.draw_bytes.Given as goal

-- the bytes drawn so far
abbrev pub invariant-loop : goal.invariant-loop
invariant-loop l = record {
  drawn : l.bytes.items ≡ l.fn.bytes.items ++ next_bytes l.fn.words l.counter;
  moved : l.words ≡ moved_by l.fn.words l.counter;
}
