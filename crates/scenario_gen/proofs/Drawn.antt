-- What is drawn by a generator some words on.
use Rattle.std.proofs.Common.{◌≡◌, ℕ, ◌+◌, List, ◌++◌, ap, ◌∙◌}
use Rattle.std.specs.Int.{w32, to_le_bytes}
use Rattle.rand_chacha.specs.ChaCha.{ChaCha}
use Rattle.net_script.specs.Scenario.{Planned}
use Rattle.seed_words.specs.Words.{moved_by, word_of}
use Rattle.scenario_gen.specs.Generated.{two_words, plan}

-- the two words that a moved generator gives next
pub transaction_moved : (g h : ChaCha) (k place : ℕ) (bytes : List ℕ) → h ≡ moved_by g k → g.word_pos + k ≡ place
    → bytes ≡ to_le_bytes w32 (word_of h h.word_pos) ++ to_le_bytes w32 (word_of h (h.word_pos + 1)) → bytes ≡ two_words (word_of g) place
transaction_moved g h k place bytes at is drawn =
    drawn ∙ ap (λ (h : ChaCha). two_words (word_of h) h.word_pos) at ∙ ap (two_words (word_of g)) is

-- the plan that a moved generator gives next
pub plan_moved : (g h : ChaCha) (k place n node : ℕ) (p : Planned) → h ≡ moved_by g k → g.word_pos + k ≡ place
    → p ≡ plan n node (word_of h h.word_pos) (word_of h (h.word_pos + 1)) (word_of h (h.word_pos + 2))
    → p ≡ plan n node (word_of g place) (word_of g (place + 1)) (word_of g (place + 2))
plan_moved g h k place n node p at is drawn =
    drawn ∙ ap (λ (h : ChaCha). plan n node (word_of h h.word_pos) (word_of h (h.word_pos + 1)) (word_of h (h.word_pos + 2))) at
    ∙ ap (λ q. plan n node (word_of g q) (word_of g (q + 1)) (word_of g (q + 2))) is

-- the word that a moved generator gives next, by its place
pub word_at_place : (g h : ChaCha) (k place word : ℕ) → h ≡ moved_by g k → g.word_pos + k ≡ place → word ≡ word_of h h.word_pos → word ≡ word_of g place
word_at_place g h k place word at is drawn = drawn ∙ ap (λ (h : ChaCha). word_of h h.word_pos) at ∙ ap (word_of g) is
