use Rattle.std.proofs.Common.{◌<◌, length, refl, ◌∙◌, arith}
use Rattle.std.proofs.lemmas.List.Elements.{All-set}
use Rattle.last_deliveries.specs.Catching.{HasHeardTo}
use Rattle.last_deliveries.specs.Settling.{player_of, players_of, IsOfRun, HasGoneOn, HasHeardNothing}
use Rattle.last_deliveries.proofs.Catches.{HasHeardNothing-refl, HasHeardNothing-then, HasHeardTo-any}
use Rattle.last_deliveries.proofs.Players.{HasGoneOn-refl, HasGoneOn-then}
use Rattle.last_deliveries.proofs.Settles.{known_on, All-served, All-view, AllZip-served, AllWithin-served, served_count}
use Rattle.last_deliveries.proofs.Zips.{AllZip-refl}
use Rattle.last_deliveries.proofs.settling.catch_up_each.Goals as goal

pub loop-number-init : goal.loop-number-init
loop-number-init g c =
    let b = g.B.Book in
    let a = g.A.Actor in
    let players = players_of b.config b.node b.actor b.seen a.seat a.view c.args.players.now.items in
    record {
      book = refl;
      seats = c.requires.seats;
      players = c.requires.players;
      went = AllZip-refl HasGoneOn HasGoneOn-refl players;
      before = c.requires.before;
      all = λ k d low below. absurd (omega (arith, below));
      unheard = λ none. (none, AllZip-refl HasHeardNothing HasHeardNothing-refl players);
    }

pub catch_up-requires-clause-of_run : goal.catch_up-requires-clause-of_run
catch_up-requires-clause-of_run g c lifetimes outlive =
    let b = g.B.Book in
    let a = g.A.Actor in
    let items = c.loop-number.players.items in
    let within : c.loop-number.number < length items =
    omega (arith, c.loop-number-test.true, c.len-number-end.ensures, served_count HasGoneOn (player_of b.config b.node b.actor b.seen a.seat a.view) c.args.players.now.items items c.loop-number.invariant.went) in
    All-view (IsOfRun c.args.script.now) (player_of b.config b.node b.actor b.seen a.seat a.view) items c.loop-number.number c.index_mut-player.result.now within c.index_mut-player.ensures.value
    c.loop-number.invariant.players

pub catch_up-requires-clause-before : goal.catch_up-requires-clause-before
catch_up-requires-clause-before g c lifetimes outlive =
    let b = g.B.Book in
    let a = g.A.Actor in
    let items = c.loop-number.players.items in
    let within : c.loop-number.number < length items =
    omega (arith, c.loop-number-test.true, c.len-number-end.ensures, served_count HasGoneOn (player_of b.config b.node b.actor b.seen a.seat a.view) c.args.players.now.items items c.loop-number.invariant.went) in
    All-view (HasHeardTo c.args.script.now c.args.posts.now.posts c.args.posts.now.first) (player_of b.config b.node b.actor b.seen a.seat a.view) items c.loop-number.number c.index_mut-player.result.now within c.index_mut-player.ensures.value
    c.loop-number.invariant.before

pub loop-number-preserved : goal.loop-number-preserved
loop-number-preserved g c =
    let b = g.B.Book in
    let a = g.A.Actor in
    let n = g.met.B.NamedBook in
    let s = c.args.script.now in
    let posts = c.args.posts.now.posts in
    let items = c.loop-number.players.items in
    let number = c.loop-number.number in
    let was = c.loop-number.invariant in
    let old = c.index_mut-player.result.now in
    let new = c.catch_up.new.player in
    let book = c.catch_up.new.book in
    let caught = c.catch_up.ensures in
    let first = players_of b.config b.node b.actor b.seen a.seat a.view c.args.players.now.items in
    let same = n.stays_named (b.node (a.seat old.actor)) (b.actor (a.seat old.actor)) c.loop-number.book book caught.moved in
    let within : number < length items =
    omega (arith, c.loop-number-test.true, c.len-number-end.ensures, served_count HasGoneOn (player_of b.config b.node b.actor b.seen a.seat a.view) c.args.players.now.items items was.went) in
    record {
      book = same ∙ was.book;
      seats =
          All-set (λ player. b.knows book (a.seat player.actor)) items number new caught.seat
          (known_on b.knows (λ player. a.seat player.actor) c.loop-number.book book (λ seat known. n.by_name c.loop-number.book book seat same known) items was.seats);
      players = All-served (IsOfRun s) (player_of b.config b.node b.actor b.seen a.seat a.view) items number new caught.of_run was.players;
      went = AllZip-served HasGoneOn HasGoneOn-then (player_of b.config b.node b.actor b.seen a.seat a.view) first items number old new within c.index_mut-player.ensures.value was.went caught.went;
      before = All-served (HasHeardTo s posts c.args.posts.now.first) (player_of b.config b.node b.actor b.seen a.seat a.view) items number new
          (HasHeardTo-any s posts c.args.posts.now.first (player_of b.config b.node b.actor b.seen a.seat a.view new) caught.all) was.before;
      all = AllWithin-served (HasHeardTo s posts (length posts)) (player_of b.config b.node b.actor b.seen a.seat a.view) items number new within was.all caught.all;
      unheard = λ none.
          let still = caught.unheard none in
          let before = was.unheard still.0 in
          (before.0, AllZip-served HasHeardNothing HasHeardNothing-then (player_of b.config b.node b.actor b.seen a.seat a.view) first items number old new within c.index_mut-player.ensures.value before.1 still.1);
    }
