use Rattle.std.proofs.Common.{sym, ◌∙◌, true}
use Rattle.step_driver.specs.Places.{player_view}
use Rattle.hb_rules.proofs.Reports.{running_of}
use Rattle.step_driver.proofs.Playing.{Plays-ended, Plays-unread, Plays-looked, Plays-after, IsReady-looked}
use Rattle.step_driver.proofs.player.Player.hear.Goals as goal

pub returns-then-not-is_running : goal.returns-then-not-is_running
returns-then-not-is_running g c =
    let p = player_view g.A.Actor.seat g.A.Actor.view c.args.self.now in
    Plays-ended c.args.script.now c.args.k true c.args.book.now p c.requires.seat (sym c.is_running.ensures ∙ c.if-not-is_running.true) c.requires.player

pub returns-in-Err : goal.returns-in-Err
returns-in-Err g c =
    let p = player_view g.A.Actor.seat g.A.Actor.view c.args.self.now in
    let q = player_view g.A.Actor.seat g.A.Actor.view c.look.new.self in
    Plays-unread c.args.script.now c.args.k c.args.book.now c.look.new.book p q c.in-Err.ensures.looked c.requires.player

pub returns-then-not-comes : goal.returns-then-not-comes
returns-then-not-comes g c =
    let p = player_view g.A.Actor.seat g.A.Actor.view c.args.self.now in
    let q = player_view g.A.Actor.seat g.A.Actor.view c.look.new.self in
    Plays-looked c.args.script.now c.args.k c.args.book.now c.look.new.book p q c.in-Ok.ensures.looked c.requires.player
    (running_of p.fate (sym c.is_running.ensures ∙ c.if-not-is_running.false)) (c.in-Ok.ensures.stays c.if-not-comes.true)

pub step-requires : goal.step-requires
step-requires g c =
    let p = player_view g.A.Actor.seat g.A.Actor.view c.args.self.now in
    let q = player_view g.A.Actor.seat g.A.Actor.view c.look.new.self in
    record {
      ready = IsReady-looked c.args.script.now c.args.k c.args.book.now c.look.new.book p q c.in-Ok.ensures.looked c.requires.player
          (running_of p.fate (sym c.is_running.ensures ∙ c.if-not-is_running.false)) (c.in-Ok.ensures.comes c.if-not-comes.false);
    }

pub returns-else-not-comes : goal.returns-else-not-comes
returns-else-not-comes g c =
    let p = player_view g.A.Actor.seat g.A.Actor.view c.args.self.now in
    let q = player_view g.A.Actor.seat g.A.Actor.view c.look.new.self in
    let r = player_view g.A.Actor.seat g.A.Actor.view c.step.new.self in
    Plays-after c.args.script.now c.args.k c.args.book.now c.look.new.book c.step.new.book p q r c.step.result c.in-Ok.ensures.looked c.step.ensures.plays
