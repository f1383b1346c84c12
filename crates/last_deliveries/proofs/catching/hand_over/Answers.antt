use Rattle.std.proofs.Common.{refl, subst}
use Rattle.hb_rules.specs.declared.report.Fate.TheVariants.{Running}
use Rattle.actor_cell.specs.Held.{player_at}
use Rattle.actor_cell.specs.Turning.{IsShown}
use Rattle.actor_cell.proofs.Turnings.{IsShown-fates}
use Rattle.hb_rules.specs.Actor.{ActorView}
use Rattle.last_deliveries.specs.Catching.{HasTaken, WasRestarted}
use Rattle.last_deliveries.specs.Settling.{player_of}
use Rattle.last_deliveries.proofs.Catches.{counted}
use Rattle.last_deliveries.proofs.Players.{IsOfRun-shown, IsOfRun-memory, works_not_full}
use Rattle.last_deliveries.proofs.catching.hand_over.Goals as goal

pub listen-requires-clause-of_run : goal.listen-requires-clause-of_run
listen-requires-clause-of_run g c =
    let b = g.B.Book in
    let a = g.A.Actor in
    let o = player_at b.config b.node b.actor b.seen a.seat a.view c.args.player.now.actor Running in
    let m = player_at b.config b.node b.actor b.seen a.seat a.view c.look.new.actor Running in
    let p = player_of b.config b.node b.actor b.seen a.seat a.view c.args.player.now in
    let q = player_at b.config b.node b.actor b.seen a.seat a.view c.look.new.actor c.args.player.now.fate in
    let shown : IsShown p q = IsShown-fates o m c.args.player.now.fate c.args.player.now.fate c.look.ensures.shown in
    IsOfRun-shown c.args.script.now p q shown refl (works_not_full c.args.player.now.fate c.requires.running) c.requires.of_run

pub returns-in-Err-clause-of_run : goal.returns-in-Err-clause-of_run
returns-in-Err-clause-of_run g c =
    let b = g.B.Book in
    let a = g.A.Actor in
    let o = player_at b.config b.node b.actor b.seen a.seat a.view c.args.player.now.actor Running in
    let m = player_at b.config b.node b.actor b.seen a.seat a.view c.look.new.actor Running in
    let p = player_of b.config b.node b.actor b.seen a.seat a.view c.args.player.now in
    let q = player_at b.config b.node b.actor b.seen a.seat a.view c.look.new.actor c.args.player.now.fate in
    let shown : IsShown p q = IsShown-fates o m c.args.player.now.fate c.args.player.now.fate c.look.ensures.shown in
    IsOfRun-memory c.args.script.now q (IsOfRun-shown c.args.script.now p q shown refl (works_not_full c.args.player.now.fate c.requires.running) c.requires.of_run)

pub returns-in-Err-clause-unheard : goal.returns-in-Err-clause-unheard
returns-in-Err-clause-unheard g c = λ none. (none, refl, c.look.ensures.shown.view)

pub returns-in-Ok-Prompt-clause-heard : goal.returns-in-Ok-Prompt-clause-heard
returns-in-Ok-Prompt-clause-heard g c =
    let a = g.A.Actor in
    λ kept. subst (λ (v : ActorView). HasTaken c.args.k v (a.view c.listen.new.player.actor)) c.look.ensures.shown.view (c.listen.ensures.heard kept)

pub returns-in-Ok-Prompt-clause-again : goal.returns-in-Ok-Prompt-clause-again
returns-in-Ok-Prompt-clause-again g c =
    let a = g.A.Actor in
    λ lost running. subst (λ (v : ActorView). WasRestarted v (a.view c.listen.new.player.actor)) c.look.ensures.shown.view (c.listen.ensures.again lost running)

pub returns-in-Ok-Prompt-clause-unheard : goal.returns-in-Ok-Prompt-clause-unheard
returns-in-Ok-Prompt-clause-unheard g c = λ none. absurd (counted c.args.deliveries.now c.saturating_add.result c.saturating_add.ensures none)
