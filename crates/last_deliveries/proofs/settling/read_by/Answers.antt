use Rattle.std.proofs.Common.{◌≢◌, Some, refl, sym, ap, ◌∙◌, slice_get}
use Rattle.std.proofs.lemmas.Option.{slice_get-get_or}
use Rattle.hb_rules.specs.declared.report.Fate.TheVariants.{Running, Full}
use Rattle.step_driver.specs.declared.player.Player.{Player}
use Rattle.actor_cell.specs.Held.{player_at}
use Rattle.actor_cell.specs.Turning.{IsShown}
use Rattle.actor_cell.proofs.Turnings.{IsShown-fates}
use Rattle.last_deliveries.specs.Catching.{HasLooked}
use Rattle.last_deliveries.specs.Settling.{player_of, players_of, IsOfRun}
use Rattle.last_deliveries.proofs.Catches.{IfOk-on, HasLooked-refl, HasLooked-then}
use Rattle.last_deliveries.proofs.Players.{IsOfRun-shown}
use Rattle.last_deliveries.proofs.Settles.{view_at, All-served, All-view, AllZip-served, view_served, some_at}
use Rattle.last_deliveries.proofs.Zips.{AllZip-refl}
use Rattle.last_deliveries.proofs.settling.read_by.Goals as goal

pub returns-clause-players : goal.returns-clause-players
returns-clause-players g c =
    let b = g.B.Book in
    let a = g.A.Actor in
    let items = c.args.players.now.items in
    let old = c.index_mut-player.result.now in
    let new : Player _ = record { actor = c.read_on.new.actor; fate = old.fate } in
    let o = player_at b.config b.node b.actor b.seen a.seat a.view old.actor Running in
    let m = player_at b.config b.node b.actor b.seen a.seat a.view c.read_on.new.actor Running in
    let p = player_of b.config b.node b.actor b.seen a.seat a.view old in
    let q = player_of b.config b.node b.actor b.seen a.seat a.view new in
    let shown : IsShown p q = IsShown-fates o m old.fate old.fate c.read_on.ensures.shown in
    let other : old.fate ≢ Full =
    some_at (λ (player : Player _). player.fate ≢ Full) (slice_get items c.args.reader) old
    (slice_get-get_or items c.args.reader old c.requires.within ∙ ap (λ (x : Player _). Some x) (sym c.index_mut-player.ensures.value)) c.requires.reads in
    All-served (IsOfRun c.args._script.now) (player_of b.config b.node b.actor b.seen a.seat a.view) items c.args.reader new
    (IsOfRun-shown c.args._script.now p q shown refl other
    (All-view (IsOfRun c.args._script.now) (player_of b.config b.node b.actor b.seen a.seat a.view) items c.args.reader old c.requires.within c.index_mut-player.ensures.value c.requires.players))
    c.requires.players

pub returns-clause-looked : goal.returns-clause-looked
returns-clause-looked g c =
    let b = g.B.Book in
    let a = g.A.Actor in
    let items = c.args.players.now.items in
    let old = c.index_mut-player.result.now in
    let new : Player _ = record { actor = c.read_on.new.actor; fate = old.fate } in
    let o = player_at b.config b.node b.actor b.seen a.seat a.view old.actor Running in
    let m = player_at b.config b.node b.actor b.seen a.seat a.view c.read_on.new.actor Running in
    let p = player_of b.config b.node b.actor b.seen a.seat a.view old in
    let q = player_of b.config b.node b.actor b.seen a.seat a.view new in
    let shown : IsShown p q = IsShown-fates o m old.fate old.fate c.read_on.ensures.shown in
    AllZip-served HasLooked HasLooked-then (player_of b.config b.node b.actor b.seen a.seat a.view) (players_of b.config b.node b.actor b.seen a.seat a.view items) items c.args.reader old new
    c.requires.within c.index_mut-player.ensures.value (AllZip-refl HasLooked HasLooked-refl (players_of b.config b.node b.actor b.seen a.seat a.view items)) (record { shown = shown; fate = refl })

pub returns-clause-read : goal.returns-clause-read
returns-clause-read g c =
    let b = g.B.Book in
    let a = g.A.Actor in
    let items = c.args.players.now.items in
    let old = c.index_mut-player.result.now in
    let new : Player _ = record { actor = c.read_on.new.actor; fate = old.fate } in
    let o = player_at b.config b.node b.actor b.seen a.seat a.view old.actor Running in
    let m = player_at b.config b.node b.actor b.seen a.seat a.view c.read_on.new.actor Running in
    let p = player_of b.config b.node b.actor b.seen a.seat a.view old in
    let q = player_of b.config b.node b.actor b.seen a.seat a.view new in
    let shown : IsShown p q = IsShown-fates o m old.fate old.fate c.read_on.ensures.shown in
    IfOk-on _ _ c.read_on.result (λ _ is. record {
      player = q;
      stands = view_served (player_of b.config b.node b.actor b.seen a.seat a.view) items c.args.reader new c.requires.within;
      seen = sym is;
    }) c.read_on.ensures.all

pub read_on-requires-clause-front : goal.read_on-requires-clause-front
read_on-requires-clause-front g c =
    let b = g.B.Book in
    let a = g.A.Actor in
    let items = c.args.players.now.items in
    let old = c.index_mut-player.result.now in
    c.requires.front (player_of b.config b.node b.actor b.seen a.seat a.view old)
    (view_at (player_of b.config b.node b.actor b.seen a.seat a.view) items c.args.reader old c.requires.within c.index_mut-player.ensures.value)
