use Rattle.std.proofs.Common.{◌≡◌, ◌<◌, length, refl, ◌∙◌, arith}
use Rattle.hb_rules.specs.declared.report.Fate.TheVariants.{Full}
use Rattle.step_driver.specs.Places.{PlayerView}
use Rattle.last_deliveries.specs.Settling.{player_of, players_of, seats_at, HasGoneOn, HasWatched, HasHeardNothing}
use Rattle.last_deliveries.proofs.Catches.{HasHeardNothing-refl, HasHeardNothing-then}
use Rattle.last_deliveries.proofs.Players.{HasGoneOn-refl, HasGoneOn-then, HasWatched-refl, HasWatched-then}
use Rattle.last_deliveries.proofs.Settles.{IsSettled-full, full_more, All-views, served_count}
use Rattle.last_deliveries.proofs.Zips.{AllZip-refl, AllZip-then}
use Rattle.last_deliveries.proofs.settling.settle.Goals as goal

pub loop-reader-init : goal.loop-reader-init
loop-reader-init g c =
    let b = g.B.Book in
    let a = g.A.Actor in
    let players = players_of b.config b.node b.actor b.seen a.seat a.view c.args.players.now.items in
    record {
      book = refl;
      seats = c.requires.seats;
      players = c.requires.players;
      went = AllZip-refl HasGoneOn HasGoneOn-refl players;
      liars = c.requires.liars;
      watched = AllZip-refl HasWatched HasWatched-refl (seats_at b.config b.node b.actor b.seen c.args.liars.now.items);
      full = λ k d low below. absurd (omega (arith, below));
      unheard = λ none. AllZip-refl HasHeardNothing HasHeardNothing-refl players;
    }

pub settle_by_one-requires-clause-within : goal.settle_by_one-requires-clause-within
settle_by_one-requires-clause-within g c κs within =
    let b = g.B.Book in
    let a = g.A.Actor in
    omega (arith, c.loop-reader-test.true, c.len-reader-end.ensures, served_count HasGoneOn (player_of b.config b.node b.actor b.seen a.seat a.view) c.args.players.now.items c.loop-reader.players.items c.loop-reader.invariant.went)

pub loop-reader-preserved : goal.loop-reader-preserved
loop-reader-preserved g c =
    let b = g.B.Book in
    let a = g.A.Actor in
    let was = c.loop-reader.invariant in
    let settled = c.settle_by_one.ensures in
    let first = players_of b.config b.node b.actor b.seen a.seat a.view c.args.players.now.items in
    let old = players_of b.config b.node b.actor b.seen a.seat a.view c.loop-reader.players.items in
    let items = c.settle_by_one.new.players.items in
    let new = players_of b.config b.node b.actor b.seen a.seat a.view items in
    let went = AllZip-then HasGoneOn HasGoneOn-then first old new was.went settled.went in
    let within : c.loop-reader.reader < length items =
    omega (arith, c.loop-reader-test.true, c.len-reader-end.ensures, served_count HasGoneOn (player_of b.config b.node b.actor b.seen a.seat a.view) c.args.players.now.items items went) in
    record {
      book = settled.book ∙ was.book;
      seats = settled.seats;
      players = settled.players;
      went = went;
      liars = settled.liars;
      watched =
          AllZip-then HasWatched HasWatched-then (seats_at b.config b.node b.actor b.seen c.args.liars.now.items) (seats_at b.config b.node b.actor b.seen c.loop-reader.liars.items)
          (seats_at b.config b.node b.actor b.seen c.settle_by_one.new.liars.items) was.watched settled.watched;
      full = full_more (player_of b.config b.node b.actor b.seen a.seat a.view) (λ player. player.fate) (λ player. refl) old items c.loop-reader.reader was.full settled.went (c.in_ok-settle_by_one.ensures.full c.in-None.is) within;
      unheard = λ none.
          let still = settled.unheard none in
          AllZip-then HasHeardNothing HasHeardNothing-then first old new (was.unheard still.0) still.1;
    }

pub returns-in_err-settle_by_one-clause-went : goal.returns-in_err-settle_by_one-clause-went
returns-in_err-settle_by_one-clause-went g c =
    let b = g.B.Book in
    let a = g.A.Actor in
    AllZip-then HasGoneOn HasGoneOn-then (players_of b.config b.node b.actor b.seen a.seat a.view c.args.players.now.items) (players_of b.config b.node b.actor b.seen a.seat a.view c.loop-reader.players.items)
    (players_of b.config b.node b.actor b.seen a.seat a.view c.settle_by_one.new.players.items) c.loop-reader.invariant.went c.settle_by_one.ensures.went

pub returns-in_err-settle_by_one-clause-watched : goal.returns-in_err-settle_by_one-clause-watched
returns-in_err-settle_by_one-clause-watched g c =
    let b = g.B.Book in
    AllZip-then HasWatched HasWatched-then (seats_at b.config b.node b.actor b.seen c.args.liars.now.items) (seats_at b.config b.node b.actor b.seen c.loop-reader.liars.items)
    (seats_at b.config b.node b.actor b.seen c.settle_by_one.new.liars.items) c.loop-reader.invariant.watched c.settle_by_one.ensures.watched

pub returns-in-Some-clause-went : goal.returns-in-Some-clause-went
returns-in-Some-clause-went g c =
    let b = g.B.Book in
    let a = g.A.Actor in
    AllZip-then HasGoneOn HasGoneOn-then (players_of b.config b.node b.actor b.seen a.seat a.view c.args.players.now.items) (players_of b.config b.node b.actor b.seen a.seat a.view c.loop-reader.players.items)
    (players_of b.config b.node b.actor b.seen a.seat a.view c.settle_by_one.new.players.items) c.loop-reader.invariant.went c.settle_by_one.ensures.went

pub returns-in-Some-clause-watched : goal.returns-in-Some-clause-watched
returns-in-Some-clause-watched g c =
    let b = g.B.Book in
    AllZip-then HasWatched HasWatched-then (seats_at b.config b.node b.actor b.seen c.args.liars.now.items) (seats_at b.config b.node b.actor b.seen c.loop-reader.liars.items)
    (seats_at b.config b.node b.actor b.seen c.settle_by_one.new.liars.items) c.loop-reader.invariant.watched c.settle_by_one.ensures.watched

pub returns-in-Some-clause-unheard : goal.returns-in-Some-clause-unheard
returns-in-Some-clause-unheard g c =
    let b = g.B.Book in
    let a = g.A.Actor in
    λ none.
    let still = c.settle_by_one.ensures.unheard none in
    AllZip-then HasHeardNothing HasHeardNothing-then (players_of b.config b.node b.actor b.seen a.seat a.view c.args.players.now.items) (players_of b.config b.node b.actor b.seen a.seat a.view c.loop-reader.players.items)
    (players_of b.config b.node b.actor b.seen a.seat a.view c.settle_by_one.new.players.items) (c.loop-reader.invariant.unheard still.0) still.1

pub returns-clause-settled : goal.returns-clause-settled
returns-clause-settled g c =
    let b = g.B.Book in
    let a = g.A.Actor in
    let items = c.loop-reader.players.items in
    IsSettled-full c.args.script.now c.highest-posts.result (players_of b.config b.node b.actor b.seen a.seat a.view items) (seats_at b.config b.node b.actor b.seen c.highest-posts.new.seats.items)
    (All-views (λ (p : PlayerView). p.fate ≡ Full) (player_of b.config b.node b.actor b.seen a.seat a.view) items (λ k d low below. c.loop-reader.invariant.full k d low
    (omega (arith, below, c.loop-reader-test.false, c.len-reader-end.ensures, served_count HasGoneOn (player_of b.config b.node b.actor b.seen a.seat a.view) c.args.players.now.items items c.loop-reader.invariant.went))))
    c.loop-reader.invariant.players c.highest-posts.ensures.least c.highest-posts.ensures.most

pub returns-clause-watched : goal.returns-clause-watched
returns-clause-watched g c =
    let b = g.B.Book in
    AllZip-then HasWatched HasWatched-then (seats_at b.config b.node b.actor b.seen c.args.liars.now.items) (seats_at b.config b.node b.actor b.seen c.loop-reader.liars.items)
    (seats_at b.config b.node b.actor b.seen c.highest-posts.new.seats.items) c.loop-reader.invariant.watched c.highest-posts.ensures.watched
