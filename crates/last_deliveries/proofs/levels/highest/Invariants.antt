use Rattle.std.proofs.Common.{◌≡◌, ◌≤◌, length}
use Rattle.std.specs.List.{All, AllWithin, AllZip}
use Rattle.hb_rules.specs.Book.{SeatView}
use Rattle.last_deliveries.specs.Settling.{seats_at, HasWatched}
use Rattle.last_deliveries.proofs.levels.highest.Given as goal

-- the seats so far have looked
abbrev pub invariant-loop-number : goal.invariant-loop-number
invariant-loop-number g l =
    let b = g.B.Book in
    let n = g.B.NamedBook in
    record {
      book : n.name l.book ≡ n.name l.fn.book;
      seats : All (λ seat. b.knows l.book seat) l.seats.items;
      watched : AllZip HasWatched (seats_at b.config b.node b.actor b.seen l.fn.seats.items) (seats_at b.config b.node b.actor b.seen l.seats.items);
      least : l.least ≤ l.most;
      most : AllWithin (λ (seat : SeatView). length seat.seen ≤ l.most) (seats_at b.config b.node b.actor b.seen l.seats.items) 0 l.number;
    }
