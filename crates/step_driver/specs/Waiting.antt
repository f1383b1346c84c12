-- The envelopes that wait, and in which order they are taken.
use Rattle.std.specs.Prelude.{ℕ, ◌+◌, ◌%◌, List, [], ◌∷◌, ◌++◌, length, remove, Option, slice_get}
use Rattle.rand_chacha.specs.ChaCha.{ChaCha}
use Rattle.seed_words.specs.Words.{moved_by, word_of}
use Rattle.net_script.specs.declared.script.Order.{Order}
use Rattle.net_script.specs.declared.script.Order.TheVariants.{Fifo, Mixed}
use Rattle.net_script.specs.declared.script.Shape.{Shape}
use Rattle.net_script.specs.declared.script.Shape.TheVariants.{Once, Twice, Late, Drop}
use Rattle.step_driver.specs.declared.envelope.Envelope.{Envelope}

-- the envelopes that are not late, and those that are, each in the order in which they came
pub record Waiting : Type 0 where
  pub prompt : List Envelope
  pub late : List Envelope

abbrev pub nothing_waits : Waiting
nothing_waits = record { prompt = []; late = [] }

abbrev pub envelope : ℕ → ℕ → Envelope
envelope post place = record { post = post; place = place }

-- one envelope more, by its shape
abbrev pub with_envelope : Shape → Envelope → Waiting → Waiting
with_envelope Once e w = record w { prompt = w.prompt ++ e ∷ [] }
with_envelope Twice e w = record w { prompt = w.prompt ++ e ∷ e ∷ [] }
with_envelope Late e w = record w { late = w.late ++ e ∷ [] }
with_envelope Drop e w = w

-- how many wait
abbrev pub count_waiting : Waiting → ℕ
count_waiting w = length w.prompt + length w.late

-- the place of the next among so many: the first, or as a word tells
abbrev pub next_place : Order → ChaCha → ℕ → ℕ
next_place Fifo words count = 0
next_place Mixed words count = word_of words words.word_pos % count

abbrev pub words_after : Order → ChaCha → ChaCha
words_after Fifo words = words
words_after Mixed words = moved_by words 1

-- the next one, among the prompt ones, and where there are none, among the late ones
abbrev pub next_in : Order → ChaCha → List Envelope → List Envelope → Option Envelope
next_in order words [] late = slice_get late (next_place order words (length late))
next_in order words (e ∷ es) late = slice_get (e ∷ es) (next_place order words (length (e ∷ es)))

abbrev pub next_of : Order → ChaCha → Waiting → Option Envelope
next_of order words w = next_in order words w.prompt w.late

-- what waits after it was taken
abbrev pub rest_in : Order → ChaCha → List Envelope → List Envelope → Waiting
rest_in order words [] late = record { prompt = []; late = remove late (next_place order words (length late)) }
rest_in order words (e ∷ es) late = record { prompt = remove (e ∷ es) (next_place order words (length (e ∷ es))); late = late }

abbrev pub after_next : Order → ChaCha → Waiting → Waiting
after_next order words w = rest_in order words w.prompt w.late
