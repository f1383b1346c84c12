-- The words that a number gives: the key stream of ChaCha20 (RFC 8439) with the number as its key, word by word.
use Rattle.std.specs.Prelude.{ℕ, ◌+◌, List, ◌++◌, replicate}
use Rattle.std.specs.Int.{w64, to_be_bytes}
use Rattle.rand_chacha.specs.ChaCha.{ChaCha, word_at, key_of}

-- the bytes of the key that a number gives: its own eight, the highest first, and 24 bytes behind them that are all alike
abbrev pub key_bytes : ℕ → ℕ → List ℕ
key_bytes number filler = to_be_bytes w64 number ++ replicate 24 filler

-- the word at a place of stream 0 under this key
abbrev pub word : ℕ → ℕ → ℕ → ℕ
word number filler place = word_at 10 (key_of (key_bytes number filler)) 0 place

-- the generator of these words, at a place
abbrev pub words_from : ℕ → ℕ → ℕ → ChaCha
words_from number filler place = record { key = key_of (key_bytes number filler); stream = 0; word_pos = place }

-- the same generator, so many words on
abbrev pub moved_by : ChaCha → ℕ → ChaCha
moved_by g count = record g { word_pos = g.word_pos + count }

-- the word at a place of a generator's stream
abbrev pub word_of : ChaCha → ℕ → ℕ
word_of g place = word_at 10 g.key g.stream place
