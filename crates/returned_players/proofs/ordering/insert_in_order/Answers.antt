use Rattle.std.proofs.Common.{List, sym, subst}
use Rattle.std.specs.List.Sorted.{IsNonDecreasingBy}
use Rattle.step_driver.specs.declared.player.Player.{Player}
use Rattle.returned_players.specs.Ordering.{place_number}
use Rattle.returned_players.proofs.Orders.{order_inserted}
use Rattle.returned_players.proofs.ordering.insert_in_order.Goals as goal

pub place_for-place-requires : goal.place_for-place-requires
place_for-place-requires g c =
    record {
      in_order =
          subst (λ (all : List (Player _)). IsNonDecreasingBy (place_number g.B.Book.node g.B.Book.actor g.A.Actor.seat) all) (sym c.as_slice.ensures.value)
          c.requires.in_order;
    }

pub returns-clause-in_order : goal.returns-clause-in_order
returns-clause-in_order g c =
    let place = c.place_for-place.ensures in
    order_inserted (place_number g.B.Book.node g.B.Book.actor g.A.Actor.seat) c.args.players.now.items c.as_slice.result.now c.insert.new.self.items c.args.player
    c.place_for-place.result c.place_number.result c.as_slice.ensures.value c.place_number.ensures c.requires.in_order place.within place.before place.after
    c.in_ok-insert.ensures.items
