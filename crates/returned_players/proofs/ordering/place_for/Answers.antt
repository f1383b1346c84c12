use Rattle.std.proofs.Common.{◌-◌, ◌≤◌, arith}
use Rattle.returned_players.specs.Ordering.{place_number}
use Rattle.returned_players.proofs.Orders.{none_above}
use Rattle.returned_players.proofs.ordering.place_for.Goals as goal

pub returns-then-place_number-number-clause-before : goal.returns-then-place_number-number-clause-before
returns-then-place_number-number-clause-before g c = λ k d below.
    let number = place_number g.B.Book.node g.B.Book.actor g.A.Actor.seat in
    let all = c.args.players.now in
    let found = c.index-players-place.result in
    let low : number found ≤ c.args.number = omega (arith, c.place_number.ensures, c.if-place_number-number.true) in
    none_above number all (c.loop-place.place - 1) found c.args.number c.requires.in_order (omega (arith, c.loop-place-test.true, c.loop-place.auto.place))
    c.index-players-place.is low k d (omega (arith, below))
