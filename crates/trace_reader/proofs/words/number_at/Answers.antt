use Rattle.std.proofs.Common.{ℕ, sym, subst, take, ap, ◌∙◌, arith}
use Rattle.std.specs.Char.{is_ascii_digit}
use Rattle.std.specs.Str.Parse.{AllDigits}
use Rattle.std.proofs.lemmas.List.Sums.{prefix_len-le-length}
use Rattle.trace_reader.proofs.Numbers.{are_digits}
use Rattle.trace_reader.proofs.words.number_at.Goals as goal

pub split_at-requires : goal.split_at-requires
split_at-requires c = omega (arith, prefix_len-le-length is_ascii_digit c.args.bytes.now)

pub value_of-requires : goal.value_of-requires
value_of-requires c = subst (AllDigits 10) (sym (c.split_at.ensures.front ∙ ap (λ (n : ℕ). take n c.args.bytes.now) c.count_digits.ensures)) (are_digits c.args.bytes.now)
