use Rattle.std.proofs.Common.{◌≡◌, length}
use Rattle.std.specs.List.{All, AllWithin, AllZip}
use Rattle.last_deliveries.specs.Catching.{HasHeardTo}
use Rattle.last_deliveries.specs.Settling.{players_of, IsOfRun, HasGoneOn, HasHeardNothing}
use Rattle.last_deliveries.proofs.settling.catch_up_each.Given as goal

-- the actors so far have caught up
abbrev pub invariant-loop-number : goal.invariant-loop-number
invariant-loop-number g l =
    let b = g.B.Book in
    let n = g.B.NamedBook in
    let a = g.A.Actor in
    record {
      book : n.name l.book ≡ n.name l.fn.book;
      seats : All (λ player. b.knows l.book (a.seat player.actor)) l.players.items;
      players : All (IsOfRun l.script) (players_of b.config b.node b.actor b.seen a.seat a.view l.players.items);
      went : AllZip HasGoneOn (players_of b.config b.node b.actor b.seen a.seat a.view l.fn.players.items) (players_of b.config b.node b.actor b.seen a.seat a.view l.players.items);
      before : All (HasHeardTo l.script l.posts.posts l.posts.first) (players_of b.config b.node b.actor b.seen a.seat a.view l.players.items);
      all : AllWithin (HasHeardTo l.script l.posts.posts (length l.posts.posts)) (players_of b.config b.node b.actor b.seen a.seat a.view l.players.items) 0 l.number;
      unheard : l.deliveries ≡ 0 → (l.fn.deliveries ≡ 0) × AllZip HasHeardNothing (players_of b.config b.node b.actor b.seen a.seat a.view l.fn.players.items) (players_of b.config b.node b.actor b.seen a.seat a.view l.players.items);
    }
