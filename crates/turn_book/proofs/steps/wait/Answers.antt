use Rattle.std.proofs.Common.{arith, ap, ◌∙◌}
use Rattle.turn_book.proofs.Turning.{sees}
use Rattle.turn_book.proofs.steps.wait.Goals as goal

pub swap-requires : goal.swap-requires
swap-requires g c =
    let same = c.loop.invariant.1 ∙ c.takes_soon.ensures.same c.if-takes_soon.false in (
      c.loop.invariant.0 ∙ (c.takes_soon.ensures.table ∙ c.requires.table.0),
      omega arith,
      sees g.S.History.entries g.S.History.names c.requires.number.0 _ _ 2 0 (λ x. 2) c.loop.place.me
          (ap (λ m. m.0.number) same ∙ c.requires.number.1)
          (ap (λ m. m.0.in_turn) same ∙ c.requires.out.0)
          (ap (λ m. m.1) same ∙ c.requires.out.1)
          (λ x e. cc e),
    )
