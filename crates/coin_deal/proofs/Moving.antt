-- A generator some words on.
use Rattle.std.proofs.Common.{◌≡◌, ℕ, ◌+◌, ap}
use Rattle.rand_chacha.specs.ChaCha.{ChaCha}
use Rattle.seed_words.specs.Words.{moved_by}
use Rattle.coin_deal.specs.Drawing.{four_words}

pub fours_moved : (g h : ChaCha) (k : ℕ) → h ≡ moved_by g k → four_words h h.word_pos ≡ four_words g (g.word_pos + k)
fours_moved g h k e = ap (λ (h : ChaCha). four_words h h.word_pos) e
