-- What a source had left, by what was taken of it.
use Rattle.std.proofs.Common.{◌≡◌, ℕ, ◌<◌, List, ◌++◌, length, Option, None, Some, ap, sym, ◌∙◌, arith, append-nil, length-append}
use Rattle.std.specs.Io.KnownBytes.{Consumes, IsAtEnd}
use Rattle.hb_wire.proofs.FieldLemmas.{some_is}
use Rattle.input_reader.specs.Input.{ReadsMost}
use Rattle.input_reader.specs.Streams.{SourceView, ReadsAll}

-- where all was read, it is what was left
pub all_left : (old new : SourceView) (input read : List ℕ) → ReadsAll old new read → old.left ≡ Some input → input ≡ read
all_left old new input read all is = by old.left new.left is all.0 all.1
  where
    by : (left left_after : Option (List ℕ)) → left ≡ Some input → Consumes left left_after read → IsAtEnd left_after → input ≡ read
    by None left_after is taken at_end = absurd (cc (is))
    by (Some xs) None is taken at_end = absurd taken
    by (Some xs) (Some ys) is taken at_end = sym (some_is xs input is) ∙ taken ∙ ap (λ (rest : List ℕ). read ++ rest) at_end ∙ append-nil read

-- where more was taken than there may be, more was left
pub more_left : (longest : ℕ) (old new : SourceView) (input : List ℕ) → ReadsMost longest old new → old.left ≡ Some input → longest < length input
more_left longest old new input most is = by old.left new.left is most.2
  where
    by : (left left_after : Option (List ℕ)) → left ≡ Some input → Consumes left left_after most.0 → longest < length input
    by None left_after is taken = absurd (cc (is))
    by (Some xs) None is taken = absurd taken
    by (Some xs) (Some ys) is taken =
        let whole : input ≡ most.0 ++ ys = sym (some_is xs input is) ∙ taken in
        omega (arith, most.1, ap (λ (zs : List ℕ). length zs) whole, length-append most.0 ys)
