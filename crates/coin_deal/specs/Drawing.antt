-- What is drawn from a generator, word by word.
use Rattle.std.specs.Prelude.{ℕ, ◌+◌, ◌*◌, ◌%◌, List, ◌++◌, map}
use Rattle.std.specs.Int.{w32, to_le_bytes}
use Rattle.std.specs.List.{range_with_len}
use Rattle.rand_chacha.specs.ChaCha.{ChaCha}
use Rattle.seed_words.specs.Words.{word_of}

-- the low bytes of the next words
abbrev pub next_bytes : ChaCha → ℕ → List ℕ
next_bytes g count = map (λ i. word_of g (g.word_pos + i) % 256) (range_with_len 0 count)

-- the four words from a place on as bytes, each with its least byte first
abbrev pub four_words : ChaCha → ℕ → List ℕ
four_words g place =
    to_le_bytes w32 (word_of g place) ++ to_le_bytes w32 (word_of g (place + 1))
    ++ to_le_bytes w32 (word_of g (place + 2)) ++ to_le_bytes w32 (word_of g (place + 3))

-- the next words in fours
abbrev pub next_fours : ChaCha → ℕ → List (List ℕ)
next_fours g count = map (λ m. four_words g (g.word_pos + 4 * m)) (range_with_len 0 count)
