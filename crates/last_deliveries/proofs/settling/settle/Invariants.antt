use Rattle.std.proofs.Common.{◌≡◌}
use Rattle.std.specs.List.{All, AllWithin, AllZip}
use Rattle.hb_rules.specs.declared.report.Fate.TheVariants.{Full}
use Rattle.step_driver.specs.Places.{PlayerView}
use Rattle.last_deliveries.specs.Settling.{players_of, seats_at, IsOfRun, HasGoneOn, HasWatched, HasHeardNothing}
use Rattle.last_deliveries.proofs.settling.settle.Given as goal

-- the actors before this one have ended by a full book
abbrev pub invariant-loop-reader : goal.invariant-loop-reader
invariant-loop-reader g l =
    let b = g.B.Book in
    let n = g.B.NamedBook in
    let a = g.A.Actor in
    record {
      book : n.name l.book ≡ n.name l.fn.book;
      seats : All (λ player. b.knows l.book (a.seat player.actor)) l.players.items;
      players : All (IsOfRun l.script) (players_of b.config b.node b.actor b.seen a.seat a.view l.players.items);
      went : AllZip HasGoneOn (players_of b.config b.node b.actor b.seen a.seat a.view l.fn.players.items) (players_of b.config b.node b.actor b.seen a.seat a.view l.players.items);
      liars : All (λ seat. b.knows l.book seat) l.liars.items;
      watched : AllZip HasWatched (seats_at b.config b.node b.actor b.seen l.fn.liars.items) (seats_at b.config b.node b.actor b.seen l.liars.items);
      full : AllWithin (λ (p : PlayerView). p.fate ≡ Full) (players_of b.config b.node b.actor b.seen a.seat a.view l.players.items) 0 l.reader;
      unheard : l.deliveries ≡ 0 → AllZip HasHeardNothing (players_of b.config b.node b.actor b.seen a.seat a.view l.fn.players.items) (players_of b.config b.node b.actor b.seen a.seat a.view l.players.items);
    }
