use Rattle.std.proofs.Common.{ℕ, arith, subst}
use Rattle.atomic_table.specs.Table.{Splits}
use Rattle.turn_book.specs.Kept.{Kept}
use Rattle.turn_book.specs.Told.{left_of, right_of}
use Rattle.turn_book.proofs.Seating.{splits}
use Rattle.turn_book.proofs.steps.split_as.Goals as goal

pub split_seat-requires : goal.split_seat-requires
split_seat-requires g c =
    let v = c.args.place.now.me.0 in
    let id : ℕ = c.args.place.now.id in (
      c.requires.table.0,
      omega arith,
      subst (λ (k : ℕ). Splits (Kept g.S.History.entries g.S.History.names) id v (left_of k v) (right_of k v)) c.requires.number.0
          (splits g.S.History.entries g.S.History.names c.args.number id v c.requires.first c.requires.number.1 c.requires.number.2),
    )
