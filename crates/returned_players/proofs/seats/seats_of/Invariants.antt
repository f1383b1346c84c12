use Rattle.std.proofs.Common.{◌≡◌, ◌++◌, map}
use Rattle.std.specs.Vec.Iter.{into_iter_items}
use Rattle.returned_players.proofs.seats.seats_of.Given as goal

-- the seats of the actors so far
abbrev pub invariant-loop-player : goal.invariant-loop-player
invariant-loop-player g l = record {
  split : l.yielded ++ into_iter_items l.player-iterator ≡ l.fn.players.items;
  seats : l.seats.items ≡ map (λ player. g.A.Actor.seat player.actor) l.yielded;
}

-- behind those of all actors those of the nodes that lie, so far
abbrev pub invariant-loop-seat : goal.invariant-loop-seat
invariant-loop-seat g l = record {
  split : l.yielded ++ into_iter_items l.seat-iterator ≡ l.fn.liars.items;
  seats : l.seats.items ≡ map (λ player. g.A.Actor.seat player.actor) l.fn.players.items ++ l.yielded;
}
