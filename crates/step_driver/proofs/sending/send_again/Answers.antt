use Rattle.std.proofs.lemmas.Result.{on_ok_weaker}
use Rattle.step_driver.specs.Places.{spots, player_view, hired_view}
use Rattle.step_driver.proofs.Sendings.{AreResent-of, AreResent-liar}
use Rattle.step_driver.proofs.Occupants.{correct_at, lying_at}
use Rattle.step_driver.proofs.sending.send_again.Goals as goal

pub returns-in-Correct : goal.returns-in-Correct
returns-in-Correct g c =
    let all = spots g.A.Actor.seat g.A.Actor.view c.args.places.now in
    let player = c.in-Correct.player in
    on_ok_weaker c.resend.result (λ sent. AreResent-of c.args.config.now c.args.script.now c.args.posts.now all c.args.number c.node-node.result c.actor-actor.result c.args.stood c.args.line.now c.resend.new.line
    (player_view g.A.Actor.seat g.A.Actor.view player)
    (correct_at g.A.Actor.seat g.A.Actor.view c.args.places.now c.args.number c.index-places-number.result player c.requires.number c.index-places-number.is c.in-Correct.is)
    c.node-node.ensures c.actor-actor.ensures sent) c.resend.ensures

pub returns-in-Lying : goal.returns-in-Lying
returns-in-Lying g c =
    let hired = c.in-Lying.field-0 in
    AreResent-liar c.args.config.now c.args.script.now c.args.posts.now (spots g.A.Actor.seat g.A.Actor.view c.args.places.now) c.args.number c.args.stood c.args.line.now (hired_view hired)
    (lying_at g.A.Actor.seat g.A.Actor.view c.args.places.now c.args.number c.index-places-number.result hired c.requires.number c.index-places-number.is c.in-Lying.is)
