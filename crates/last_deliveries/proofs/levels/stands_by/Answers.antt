use Rattle.std.proofs.Common.{refl}
use Rattle.hb_rules.specs.declared.report.Fate.TheVariants.{Running}
use Rattle.actor_cell.specs.Held.{player_at}
use Rattle.actor_cell.specs.Turning.{IsShown}
use Rattle.actor_cell.proofs.Turnings.{IsShown-fates}
use Rattle.last_deliveries.specs.Settling.{player_of}
use Rattle.last_deliveries.proofs.Players.{IsOfRun-shown, works_not_full, ended_not_full}
use Rattle.last_deliveries.proofs.levels.stands_by.Goals as goal

pub returns-in-Running-clause-of_run : goal.returns-in-Running-clause-of_run
returns-in-Running-clause-of_run g c =
    let b = g.B.Book in
    let a = g.A.Actor in
    let f = c.args.player.now.fate in
    let o = player_at b.config b.node b.actor b.seen a.seat a.view c.args.player.now.actor Running in
    let m = player_at b.config b.node b.actor b.seen a.seat a.view c.is_level.new.actor Running in
    let p = player_of b.config b.node b.actor b.seen a.seat a.view c.args.player.now in
    let q = player_at b.config b.node b.actor b.seen a.seat a.view c.is_level.new.actor f in
    let shown : IsShown p q = IsShown-fates o m f f c.is_level.ensures.shown in
    IsOfRun-shown c.args._script.now p q shown refl (works_not_full f c.in-Running.is) c.requires.of_run

pub returns-in-Running-clause-looked : goal.returns-in-Running-clause-looked
returns-in-Running-clause-looked g c =
    let b = g.B.Book in
    let a = g.A.Actor in
    let f = c.args.player.now.fate in
    let o = player_at b.config b.node b.actor b.seen a.seat a.view c.args.player.now.actor Running in
    let m = player_at b.config b.node b.actor b.seen a.seat a.view c.is_level.new.actor Running in
    record { shown = IsShown-fates o m f f c.is_level.ensures.shown; fate = refl }

pub returns-in-Memory-clause-of_run : goal.returns-in-Memory-clause-of_run
returns-in-Memory-clause-of_run g c =
    let b = g.B.Book in
    let a = g.A.Actor in
    let f = c.args.player.now.fate in
    let o = player_at b.config b.node b.actor b.seen a.seat a.view c.args.player.now.actor Running in
    let m = player_at b.config b.node b.actor b.seen a.seat a.view c.ends_by.new.actor Running in
    let p = player_of b.config b.node b.actor b.seen a.seat a.view c.args.player.now in
    let q = player_at b.config b.node b.actor b.seen a.seat a.view c.ends_by.new.actor f in
    let shown : IsShown p q = IsShown-fates o m f f c.ends_by.ensures.shown in
    IsOfRun-shown c.args._script.now p q shown refl (ended_not_full f c.in-Memory.is) c.requires.of_run

pub returns-in-Memory-clause-looked : goal.returns-in-Memory-clause-looked
returns-in-Memory-clause-looked g c =
    let b = g.B.Book in
    let a = g.A.Actor in
    let f = c.args.player.now.fate in
    let o = player_at b.config b.node b.actor b.seen a.seat a.view c.args.player.now.actor Running in
    let m = player_at b.config b.node b.actor b.seen a.seat a.view c.ends_by.new.actor Running in
    record { shown = IsShown-fates o m f f c.ends_by.ensures.shown; fate = refl }
