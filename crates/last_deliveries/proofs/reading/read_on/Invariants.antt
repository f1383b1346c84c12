use Rattle.std.proofs.Common.{◌≡◌, length}
use Rattle.hb_rules.specs.declared.report.Fate.TheVariants.{Running}
use Rattle.hb_rules.specs.Ledger.{IsPrefix}
use Rattle.actor_cell.specs.Held.{player_at}
use Rattle.actor_cell.specs.Turning.{IsShown}
use Rattle.last_deliveries.proofs.reading.read_on.Given as goal

-- the posts that were read, now and before, are the beginning of what the seat has seen
abbrev pub invariant-loop-k : goal.invariant-loop-k
invariant-loop-k g l =
    let b = g.B.Book in
    let a = g.A.Actor in
    record {
      count : length l.posts.posts ≡ l.k;
      more : IsPrefix l.fn.posts.posts l.posts.posts;
      first : l.posts.first ≡ l.fn.posts.first;
      front : IsPrefix l.posts.posts (b.seen (a.seat l.actor));
      seat : b.knows l.book (a.seat l.actor);
      moved : b.moved (b.node (a.seat l.fn.actor)) (b.actor (a.seat l.fn.actor)) l.fn.book l.book;
      shown : IsShown (player_at b.config b.node b.actor b.seen a.seat a.view l.fn.actor Running) (player_at b.config b.node b.actor b.seen a.seat a.view l.actor Running);
    }
