use Rattle.std.proofs.Common.{◌≡◌, ◌++◌, map, take, drop}
use Rattle.returned_players.specs.Marking.{ended_by}
use Rattle.returned_players.proofs.marking.end_noted.Given as goal

-- of those so far each noted one has ended
abbrev pub invariant-loop-player : goal.invariant-loop-player
invariant-loop-player g l =
    l.player-items
    ≡ map (ended_by g.B.Book.node g.B.Book.actor g.A.Actor.seat l.noted) (take l.player-index l.fn.players.items) ++ drop l.player-index l.fn.players.items
