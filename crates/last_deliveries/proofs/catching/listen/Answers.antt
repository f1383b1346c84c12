use Rattle.std.proofs.Common.{◌==◌, sym, ◌∙◌}
use Rattle.std.proofs.lemmas.Bool.{and_parts, eqb-true}
use Rattle.hb_rules.specs.declared.report.Fate.TheVariants.{Running}
use Rattle.hb_rules.specs.Report.{is_running_fate}
use Rattle.actor_cell.specs.Held.{player_at}
use Rattle.actor_cell.specs.Turning.{Hears}
use Rattle.actor_cell.proofs.Turnings.{Hears-fates}
use Rattle.last_deliveries.specs.Settling.{player_of}
use Rattle.last_deliveries.proofs.Players.{IsOfRun-hears}
use Rattle.last_deliveries.proofs.Catches.{HasTaken-kept, WasRestarted-lost, running_fate, kept_not}
use Rattle.last_deliveries.proofs.catching.listen.Goals as goal

pub returns-clause-of_run : goal.returns-clause-of_run
returns-clause-of_run g c =
    let b = g.B.Book in
    let a = g.A.Actor in
    let o = player_at b.config b.node b.actor b.seen a.seat a.view c.args.player.now.actor Running in
    let p = player_of b.config b.node b.actor b.seen a.seat a.view c.args.player.now in
    let q = player_at b.config b.node b.actor b.seen a.seat a.view c.hear-player.new.actor c.hear-player.result in
    let hears : Hears c.args.k p q c.new-out.result c.hear-player.new.out =
    Hears-fates c.args.k o q c.args.player.now.fate c.new-out.result c.hear-player.new.out c.hear-player.ensures.hears in
    IsOfRun-hears c.args._script.now c.args.k p q c.new-out.result c.hear-player.new.out c.requires.of_run c.requires.comes hears

pub returns-clause-heard : goal.returns-clause-heard
returns-clause-heard g c =
    let a = g.A.Actor in
    λ kept.
    let parts = and_parts (is_running_fate c.hear-player.result) (c.restarts-restarts.result == c.restarts.result) (sym c.has_kept.ensures ∙ kept) in
    HasTaken-kept c.args.k (a.view c.args.player.now.actor) (a.view c.hear-player.new.actor) (c.hear-player.ensures.hears.received (running_fate c.hear-player.result parts.0))
    (sym c.restarts-restarts.ensures ∙ eqb-true c.restarts-restarts.result c.restarts.result parts.1 ∙ c.restarts.ensures)

pub returns-clause-again : goal.returns-clause-again
returns-clause-again g c =
    let a = g.A.Actor in
    λ lost running. WasRestarted-lost c.args.k (a.view c.args.player.now.actor) (a.view c.hear-player.new.actor) (c.hear-player.ensures.hears.received running)
    (λ same. kept_not c.hear-player.result c.restarts-restarts.result c.restarts.result running (c.restarts-restarts.ensures ∙ same ∙ sym c.restarts.ensures) (sym c.has_kept.ensures ∙ lost))
