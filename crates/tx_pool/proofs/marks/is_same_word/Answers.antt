use Rattle.std.proofs.Common.{rules}
use Rattle.tx_pool.proofs.Words.{same_word}
use Rattle.tx_pool.proofs.marks.is_same_word.Goals as goal

pub returns : goal.returns
returns c = rw (c.word_of.ensures, c.word_of-2.ensures) (same_word c.args.left.now c.args.right.now (search rules) (search rules) (search rules) (search rules))
