-- The laws of a shared book: a seat is of one book, and a count that rose is not what it was.
use Rattle.std.proofs.Common.{◌≡◌, ◌<◌, sym, ◌∙◌, arith}
use Rattle.hb_rules.specs.Ledger.{IsPrefix}
use Rattle.post_book.specs.SharedSeats.{SharedView}

pub same_twice : {A : Type 0} (a b c : A) → b ≡ a → c ≡ b → c ≡ a
same_twice a b c one two = two ∙ one

pub same_for_both : {A : Type 0} (a b s : A) → b ≡ a → s ≡ a → s ≡ b
same_for_both a b s moved knows = knows ∙ sym moved

-- a call that shows its seat the whole history does not leave it as it was
pub looks_twice : (s t : SharedView) → s.looks < s.looks → IsPrefix t.seat.seen s.seat.seen
looks_twice s t looks = absurd (omega (arith, looks))
