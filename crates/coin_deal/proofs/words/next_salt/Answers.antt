use Rattle.std.proofs.Common.{◌≡◌, ℕ, ◌+◌, List, ap, ◌∙◌}
use Rattle.std.specs.Int.{w32, to_le_bytes}
use Rattle.rand_chacha.specs.ChaCha.{ChaCha}
use Rattle.seed_words.specs.Words.{moved_by, word_of}
use Rattle.seed_words.proofs.Moving.{moved_more, word_moved}
use Rattle.coin_deal.proofs.words.next_salt.Goals as goal

-- the bytes of the word so many words on
bytes_on : (g h : ChaCha) (k word : ℕ) (bytes copied : List ℕ) → h ≡ moved_by g k → word ≡ word_of h h.word_pos
    → bytes ≡ to_le_bytes w32 word → copied ≡ bytes → copied ≡ to_le_bytes w32 (word_of g (g.word_pos + k))
bytes_on g h k word bytes copied at is are copy = copy ∙ are ∙ ap (to_le_bytes w32) (is ∙ word_moved g h k at)

pub returns-clause-salt : goal.returns-clause-salt
returns-clause-salt c =
    let g = c.args.words.now in
    let second : c.next_word.new.words ≡ moved_by g 1 = c.next_word.ensures.moved in
    let third : c.next_word-2.new.words ≡ moved_by g 2 = c.next_word-2.ensures.moved ∙ moved_more g c.next_word.new.words 1 1 second in
    let fourth : c.next_word-3.new.words ≡ moved_by g 3 = c.next_word-3.ensures.moved ∙ moved_more g c.next_word-2.new.words 2 1 third in
    let b = bytes_on g c.next_word.new.words 1 _ _ _ second c.next_word-2.ensures.word c.to_le_bytes-2.ensures c.copy_from_slice-2.ensures.after in
    let d = bytes_on g c.next_word-2.new.words 2 _ _ _ third c.next_word-3.ensures.word c.to_le_bytes-3.ensures c.copy_from_slice-3.ensures.after in
    let e = bytes_on g c.next_word-3.new.words 3 _ _ _ fourth c.next_word-4.ensures.word c.to_le_bytes-4.ensures c.copy_from_slice-4.ensures.after in
    rw (c.copy_from_slice.ensures.after, c.to_le_bytes.ensures, c.next_word.ensures.word, b, d, e)
