use Rattle.std.proofs.Common.{◌≡◌, ◌<◌, true, false, length, refl, sym, ◌∙◌, arith}
use Rattle.std.proofs.lemmas.List.Elements.{All-set}
use Rattle.last_deliveries.specs.Catching.{HasLooked, IsLevelWith}
use Rattle.last_deliveries.specs.Settling.{player_of, players_of, IsOfRun}
use Rattle.last_deliveries.proofs.Catches.{HasLooked-refl, HasLooked-then}
use Rattle.last_deliveries.proofs.Settles.{known_on, All-served, All-view, AllZip-served, AllWithin-served, served_count}
use Rattle.last_deliveries.proofs.Zips.{AllZip-refl}
use Rattle.last_deliveries.proofs.levels.are_level.Goals as goal
use Rattle.last_deliveries.proofs.levels.are_level.Goals.{then-not-stands_by, else-not-stands_by}

unlevel : false ≡ true → ⊥
unlevel is = cc (is)

pub loop-number-init : goal.loop-number-init
loop-number-init g c =
    let b = g.B.Book in
    let a = g.A.Actor in
    record {
      book = refl;
      seats = c.requires.seats;
      players = c.requires.players;
      looked = AllZip-refl HasLooked HasLooked-refl (players_of b.config b.node b.actor b.seen a.seat a.view c.args.players.now.items);
      level = λ _ k d low below. absurd (omega (arith, below));
    }

pub stands_by-requires-clause-of_run : goal.stands_by-requires-clause-of_run
stands_by-requires-clause-of_run g c =
    let b = g.B.Book in
    let a = g.A.Actor in
    let items = c.loop-number.players.items in
    let within : c.loop-number.number < length items =
    omega (arith, c.loop-number-test.true, c.len-number-end.ensures, served_count HasLooked (player_of b.config b.node b.actor b.seen a.seat a.view) c.args.players.now.items items c.loop-number.invariant.looked) in
    All-view (IsOfRun c.args.script.now) (player_of b.config b.node b.actor b.seen a.seat a.view) items c.loop-number.number c.index_mut-player.result.now within c.index_mut-player.ensures.value
    c.loop-number.invariant.players

pub loop-number-preserved : goal.loop-number-preserved
loop-number-preserved g c =
    let b = g.B.Book in
    let a = g.A.Actor in
    let n = g.met.B.NamedBook in
    let s = c.args.script.now in
    let items = c.loop-number.players.items in
    let number = c.loop-number.number in
    let was = c.loop-number.invariant in
    let old = c.index_mut-player.result.now in
    let new = c.stands_by.new.player in
    let book = c.stands_by.new.book in
    let stood = c.stands_by.ensures in
    let same = n.stays_named (b.node (a.seat old.actor)) (b.actor (a.seat old.actor)) c.loop-number.book book stood.moved in
    let within : number < length items =
    omega (arith, c.loop-number-test.true, c.len-number-end.ensures, served_count HasLooked (player_of b.config b.node b.actor b.seen a.seat a.view) c.args.players.now.items items was.looked) in
    record {
      book = same ∙ was.book;
      seats =
          All-set (λ player. b.knows book (a.seat player.actor)) items number new stood.seat
          (known_on b.knows (λ player. a.seat player.actor) c.loop-number.book book (λ seat known. n.by_name c.loop-number.book book seat same known) items was.seats);
      players = All-served (IsOfRun s) (player_of b.config b.node b.actor b.seen a.seat a.view) items number new stood.of_run was.players;
      looked =
          AllZip-served HasLooked HasLooked-then (player_of b.config b.node b.actor b.seen a.seat a.view) (players_of b.config b.node b.actor b.seen a.seat a.view c.args.players.now.items) items
          number old new within c.index_mut-player.ensures.value was.looked stood.looked;
      level = λ level. elim c.if-not-stands_by.branch [
        | then-not-stands_by w ↦ absurd (unlevel (sym w.level-is ∙ level))
        | else-not-stands_by w ↦
            AllWithin-served (IsLevelWith c.args.count) (player_of b.config b.node b.actor b.seen a.seat a.view) items number new within (was.level (sym w.level-is ∙ level))
            (stood.level w.if-not-stands_by.false)
      ];
    }
