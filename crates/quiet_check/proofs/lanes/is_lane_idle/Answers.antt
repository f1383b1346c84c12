use Rattle.std.proofs.Common.{ℕ, refl, below_more, arith}
use Rattle.hb_rules.specs.Slots.{IsIdle}
use Rattle.quiet_check.specs.Lanes.{epoch_slots}
use Rattle.quiet_check.proofs.LaneEpochs.{lane_epochs, not_told}
use Rattle.quiet_check.proofs.lanes.is_lane_idle.Goals as goal

pub loop-epoch-init : goal.loop-epoch-init
loop-epoch-init c = λ e below. absurd (omega arith)

pub loop-epoch-preserved : goal.loop-epoch-preserved
loop-epoch-preserved c =
    below_more (λ (e : ℕ). IsIdle (epoch_slots c.args.config.now c.args.node c.args.lane e) c.args.own.now c.args.heard.now) c.loop-epoch.epoch
    c.loop-epoch.invariant (c.in_ok-is_idle.ensures.0 c.if-not-is_idle.false)

pub returns-then-not-is_idle : goal.returns-then-not-is_idle
returns-then-not-is_idle c =
    let all = lane_epochs c.args.config.now c.args.node c.args.lane c.args.own.now c.args.heard.now in (
      λ fails. absurd (cc (fails)),
      λ idle. absurd (not_told c.in_ok-is_idle.is_idle
          (IsIdle (epoch_slots c.args.config.now c.args.node c.args.lane c.loop-epoch.epoch) c.args.own.now c.args.heard.now)
          c.in_ok-is_idle.ensures c.if-not-is_idle.true (all.0 idle c.loop-epoch.epoch (omega (arith, c.epochs-epoch-end.ensures.value)))),
    )

pub returns : goal.returns
returns c =
    let all = lane_epochs c.args.config.now c.args.node c.args.lane c.args.own.now c.args.heard.now in (
      λ told. all.1 (λ e below. c.loop-epoch.invariant e (omega (arith, c.epochs-epoch-end.ensures.value))),
      λ idle. refl,
    )
