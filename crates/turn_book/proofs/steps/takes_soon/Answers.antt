use Rattle.std.proofs.Common.{arith, ap, ◌∙◌, eqb}
use prog.Atomic.{either}
use Rattle.turn_book.proofs.Turning.{sees, held_from_then}
use Rattle.turn_book.proofs.steps.takes_soon.Goals as goal

pub compare_exchange-requires : goal.compare_exchange-requires
compare_exchange-requires g c =
    let same = c.loop.invariant.1 in (
      c.loop.invariant.0 ∙ c.requires.table.0,
      omega arith,
      sees g.S.History.entries g.S.History.names c.requires.number.0 _ _ 0 1 (λ x. either (eqb x 0) 1 x) c.loop.place.me
          (ap (λ m. m.0.number) same ∙ c.requires.number.1)
          (ap (λ m. m.0.in_turn) same ∙ c.requires.out.0)
          (ap (λ m. m.1) same ∙ c.requires.out.1)
          held_from_then,
    )
