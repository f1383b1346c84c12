use Rattle.std.proofs.Common.{◌<◌, length, sym, ap, ◌∙◌, set, arith}
use Rattle.std.proofs.lemmas.List.Edits.{map_over_more}
use Rattle.step_driver.specs.declared.player.Player.{Player}
use Rattle.returned_players.specs.Marking.{ended_by}
use Rattle.returned_players.proofs.marking.end_noted.Goals as goal

pub loop-player-preserved : goal.loop-player-preserved
loop-player-preserved g c =
    let ended = ended_by g.B.Book.node g.B.Book.actor g.A.Actor.seat c.args.noted.now in
    let all = c.args.players.now.items in
    let place = c.loop-player.player-index in
    let within : place < length all = omega (arith, c.loop-player-test.true, ap length c.deref_mut-player-items.ensures.value) in
    ap (λ (p : Player _). set c.loop-player.player-items place p) c.end_if_noted.ensures
    ∙ ap (λ (p : Player _). set c.loop-player.player-items place (ended p)) (sym c.player-item.is)
    ∙ map_over_more ended all c.loop-player.player-items place c.player-item.result within c.loop-player.invariant c.player-item.is
