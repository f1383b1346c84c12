use Rattle.std.proofs.Common.{length, sym, ◌∙◌, false}
use Rattle.step_driver.specs.Places.{player_view}
use Rattle.step_driver.specs.Delivering.{IsSound}
use Rattle.hb_rules.proofs.Reports.{running_of}
use Rattle.step_driver.proofs.Playing.{Plays-ended, Plays-started, Plays-failed, IsSound-called, HasGot-none, fresh_of}
use Rattle.step_driver.proofs.player.Player.start.Goals as goal

pub returns-then-not-is_running : goal.returns-then-not-is_running
returns-then-not-is_running g c =
    let p = player_view g.A.Actor.seat g.A.Actor.view c.args.self.now in
    let not = sym c.is_running.ensures ∙ c.if-not-is_running.true in
    record {
      plays = Plays-ended c.args._script.now (length c.args.book.now.posts) false c.args.book.now p c.requires.seat not c.requires.player;
      works = λ running _. running;
    }

pub call_start-requires-clause-fresh : goal.call_start-requires-clause-fresh
call_start-requires-clause-fresh g c =
    let p = player_view g.A.Actor.seat g.A.Actor.view c.args.self.now in
    fresh_of p.fate p.seat p.view (running_of p.fate (sym c.is_running.ensures ∙ c.if-not-is_running.false)) c.requires.player.fate

pub returns-in-Ok : goal.returns-in-Ok
returns-in-Ok g c =
    let p = player_view g.A.Actor.seat g.A.Actor.view c.args.self.now in
    let q = player_view g.A.Actor.seat g.A.Actor.view c.call_start.new.self in
    let running = running_of p.fate (sym c.is_running.ensures ∙ c.if-not-is_running.false) in
    record {
      plays = Plays-started c.args._script.now c.args.book.now c.call_start.new.book p q c.requires.player running c.in-Ok.ensures.called c.in-Ok.ensures.had c.in-Ok.ensures.got c.in-Ok.ensures.live;
      works = λ _ _. c.in-Ok.ensures.called.fate ∙ running;
    }

pub fail-requires : goal.fail-requires
fail-requires g c =
    let p = player_view g.A.Actor.seat g.A.Actor.view c.args.self.now in
    record {
      seat = c.in-Err.ensures.called.passes.seat;
      running = c.in-Err.ensures.called.fate ∙ running_of p.fate (sym c.is_running.ensures ∙ c.if-not-is_running.false);
      refused = c.in-Err.ensures.refused;
    }

pub returns-in-Err : goal.returns-in-Err
returns-in-Err g c =
    let p = player_view g.A.Actor.seat g.A.Actor.view c.args.self.now in
    let q = player_view g.A.Actor.seat g.A.Actor.view c.call_start.new.self in
    let r = player_view g.A.Actor.seat g.A.Actor.view c.fail.new.self in
    let called = c.in-Err.ensures.called in
    let sound : IsSound c.args.book.now.config c.args._script.now q =
    IsSound-called c.args.book.now.config c.args._script.now c.args.book.now c.call_start.new.book p q called
    (HasGot-none c.args.book.now.config c.args._script.now p q c.in-Err.ensures.got) c.requires.player.sound in
    record {
      plays = Plays-failed c.args._script.now (length c.fail.new.book.posts) c.args.book.now c.call_start.new.book c.fail.new.book p q r c.fail.result called.passes sound
          (running_of p.fate (sym c.is_running.ensures ∙ c.if-not-is_running.false)) c.fail.ensures;
      works = λ _ live. c.fail.ensures.live live;
    }
