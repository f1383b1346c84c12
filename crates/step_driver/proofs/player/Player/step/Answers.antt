use Rattle.std.proofs.Common.{◌∙◌}
use Rattle.step_driver.specs.Places.{player_view}
use Rattle.step_driver.proofs.Playing.{Plays-stepped, Plays-failed, IsSound-stepped, ReachesActor-ready}
use Rattle.step_driver.proofs.player.Player.step.Goals as goal

pub call_step-requires : goal.call_step-requires
call_step-requires g c =
    let p = player_view g.A.Actor.seat g.A.Actor.view c.args.self.now in
    record {
      seat = c.requires.ready.seat;
      live = c.requires.ready.live;
      reaches = ReachesActor-ready c.args.script.now c.args.k c.args.book.now p c.requires.ready;
    }

pub returns-in-Ok : goal.returns-in-Ok
returns-in-Ok g c =
    let p = player_view g.A.Actor.seat g.A.Actor.view c.args.self.now in
    let q = player_view g.A.Actor.seat g.A.Actor.view c.call_step.new.self in
    record {
      plays = Plays-stepped c.args.script.now c.args.k c.args.book.now c.call_step.new.book p q c.requires.ready c.in-Ok.ensures.called c.in-Ok.ensures.got c.in-Ok.ensures.live;
      works = λ _. c.in-Ok.ensures.called.fate ∙ c.requires.ready.running;
    }

pub fail-requires : goal.fail-requires
fail-requires g c = record {
  seat = c.in-Err.ensures.called.passes.seat;
  running = c.in-Err.ensures.called.fate ∙ c.requires.ready.running;
  refused = c.in-Err.ensures.refused;
}

pub returns-in-Err : goal.returns-in-Err
returns-in-Err g c =
    let p = player_view g.A.Actor.seat g.A.Actor.view c.args.self.now in
    let q = player_view g.A.Actor.seat g.A.Actor.view c.call_step.new.self in
    let r = player_view g.A.Actor.seat g.A.Actor.view c.fail.new.self in
    record {
      plays = Plays-failed c.args.script.now c.args.k c.args.book.now c.call_step.new.book c.fail.new.book p q r c.fail.result c.in-Err.ensures.called.passes
          (IsSound-stepped c.args.script.now c.args.k c.args.book.now c.call_step.new.book p q c.requires.ready c.in-Err.ensures.called c.in-Err.ensures.kept)
          c.requires.ready.running c.fail.ensures;
      works = λ live. c.fail.ensures.live live;
    }
