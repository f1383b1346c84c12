use Rattle.std.proofs.Common.{◌≡◌, false, None, sym, ap, ◌∙◌, subst, Bool}
use Rattle.hb_rules.specs.declared.report.Fate.{Fate}
use Rattle.step_driver.specs.Places.{player_view}
use Rattle.step_driver.specs.Playing.{EndsOr, may_restart}
use Rattle.step_driver.proofs.Playing.{IsFailing-start, IsFailing-on, EndsOr-again, EndsOr-ended, fails_left-falls, with_fate}
use Rattle.step_driver.proofs.player.Player.fail.Goals as goal

pub off-init : goal.off-init
off-init g c = IsFailing-start c.args.book.now (player_view g.A.Actor.seat g.A.Actor.view c.args.self.now) c.args.fault c.requires.seat c.requires.running c.requires.refused

pub call_restart-requires-clause-seat : goal.call_restart-requires-clause-seat
call_restart-requires-clause-seat g c = c.off.invariant.passes.seat

pub returns-in-Ok : goal.returns-in-Ok
returns-in-Ok g c =
    let p = player_view g.A.Actor.seat g.A.Actor.view c.off.self in
    let q = player_view g.A.Actor.seat g.A.Actor.view c.call_restart.new.self in
    EndsOr-again c.args.book.now c.off.book c.call_restart.new.book (player_view g.A.Actor.seat g.A.Actor.view c.args.self.now) p q c.count_posts-stood.result c.off.fault
    c.off.invariant c.in-Ok.ensures.called c.in-Ok.ensures.on c.in-Ok.ensures.live c.requires.running c.count_posts-stood.ensures

pub off-smaller : goal.off-smaller
off-smaller g c =
    fails_left-falls c.off.fault c.in-Err.next c.is_off.result (player_view g.A.Actor.seat g.A.Actor.view c.off.self) (player_view g.A.Actor.seat g.A.Actor.view c.call_restart.new.self)
    (sym c.may_restart.ensures ∙ c.off-test.true) c.in-Err.ensures.called.goes c.in-Err.ensures.again

pub off-preserved : goal.off-preserved
off-preserved g c =
    IsFailing-on c.args.book.now c.off.book c.call_restart.new.book (player_view g.A.Actor.seat g.A.Actor.view c.args.self.now) (player_view g.A.Actor.seat g.A.Actor.view c.off.self)
    (player_view g.A.Actor.seat g.A.Actor.view c.call_restart.new.self) c.off.fault c.in-Err.next c.off.invariant c.in-Err.ensures.called c.in-Err.ensures.either c.in-Err.ensures.refused

pub returns : goal.returns
returns g c =
    let p0 = player_view g.A.Actor.seat g.A.Actor.view c.args.self.now in
    let p = player_view g.A.Actor.seat g.A.Actor.view c.off.self in
    let not : may_restart c.off.fault p.view.supply.off ≡ false =
    ap (λ (off : Bool). may_restart c.off.fault off) (sym c.is_off.ensures) ∙ sym c.may_restart.ensures ∙ c.off-test.false in
    subst (λ (fate : Fate). EndsOr c.args.book.now c.off.book p0 (with_fate p fate) None) (sym c.fate_of-self.ensures)
    (EndsOr-ended c.args.book.now c.off.book p0 p c.off.fault c.off.invariant not)
