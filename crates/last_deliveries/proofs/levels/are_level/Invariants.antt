use Rattle.std.proofs.Common.{◌≡◌, true}
use Rattle.std.specs.List.{All, AllWithin, AllZip}
use Rattle.last_deliveries.specs.Catching.{HasLooked, IsLevelWith}
use Rattle.last_deliveries.specs.Settling.{players_of, IsOfRun}
use Rattle.last_deliveries.proofs.levels.are_level.Given as goal

-- the actors so far have looked, and are level unless one of them is not
abbrev pub invariant-loop-number : goal.invariant-loop-number
invariant-loop-number g l =
    let b = g.B.Book in
    let n = g.B.NamedBook in
    let a = g.A.Actor in
    record {
      book : n.name l.book ≡ n.name l.fn.book;
      seats : All (λ player. b.knows l.book (a.seat player.actor)) l.players.items;
      players : All (IsOfRun l.script) (players_of b.config b.node b.actor b.seen a.seat a.view l.players.items);
      looked : AllZip HasLooked (players_of b.config b.node b.actor b.seen a.seat a.view l.fn.players.items) (players_of b.config b.node b.actor b.seen a.seat a.view l.players.items);
      level : l.level ≡ true → AllWithin (IsLevelWith l.count) (players_of b.config b.node b.actor b.seen a.seat a.view l.players.items) 0 l.number;
    }
