use Rattle.std.proofs.Common.{◌≡◌, ◌≤◌, ◌<◌, ◌-◌, length}
use Rattle.std.specs.List.{All, AllZip}
use Rattle.hb_base.specs.Limits.{most_posts}
use Rattle.last_deliveries.specs.Catching.{HasHeardTo, HasReadFront}
use Rattle.last_deliveries.specs.Settling.{players_of, IsOfRun, HasGoneOn, HasHeardNothing}
use Rattle.last_deliveries.proofs.settling.deliver_all.Given as goal

-- these posts were read, and the actors have caught up with them
abbrev pub invariant-rounds : goal.invariant-rounds
invariant-rounds g l =
    let b = g.B.Book in
    let n = g.B.NamedBook in
    let a = g.A.Actor in
    record {
      book : n.name l.book ≡ n.name l.fn.book;
      seats : All (λ player. b.knows l.book (a.seat player.actor)) l.players.items;
      players : All (IsOfRun l.script) (players_of b.config b.node b.actor b.seen a.seat a.view l.players.items);
      went : AllZip HasGoneOn (players_of b.config b.node b.actor b.seen a.seat a.view l.fn.players.items) (players_of b.config b.node b.actor b.seen a.seat a.view l.players.items);
      within : l.reader < length l.players.items;
      front : HasReadFront l.posts.posts l.reader (players_of b.config b.node b.actor b.seen a.seat a.view l.players.items);
      few : length l.posts.posts ≤ most_posts;
      before : All (HasHeardTo l.script l.posts.posts (length l.posts.posts)) (players_of b.config b.node b.actor b.seen a.seat a.view l.players.items);
      unheard : l.deliveries ≡ 0 → (l.fn.deliveries ≡ 0) × AllZip HasHeardNothing (players_of b.config b.node b.actor b.seen a.seat a.view l.fn.players.items) (players_of b.config b.node b.actor b.seen a.seat a.view l.players.items);
    }

-- how many posts may still be read
abbrev pub decreases-rounds : goal.decreases-rounds
decreases-rounds g l = most_posts - length l.posts.posts
