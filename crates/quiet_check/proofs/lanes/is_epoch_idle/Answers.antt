use Rattle.std.proofs.Common.{◌≡◌, ◌↔◌, Bool, true}
use Rattle.hb_rules.specs.Owing.{agreement_slots}
use Rattle.hb_rules.specs.Slots.{IsIdle}
use Rattle.quiet_check.specs.Lanes.{epoch_slots}
use Rattle.quiet_check.proofs.LaneEpochs.{broadcast_owes, agreement_tells}
use Rattle.quiet_check.proofs.Noting.{if_ok}
use Rattle.quiet_check.proofs.lanes.is_epoch_idle.Goals as goal

pub returns-then-not-is_idle : goal.returns-then-not-is_idle
returns-then-not-is_idle c = (
  λ fails. absurd (cc (fails)),
  λ idle. absurd (broadcast_owes c.args.place.now.config c.args.place.now.node c.args.place.now.lane c.args.place.now.epoch c.args.own.now c.args.heard.now
      c.in_ok-is_idle.is_idle c.in_ok-is_idle.ensures c.if-not-is_idle.true idle),
)

pub returns : goal.returns
returns c =
    if_ok c.is_agreement_idle.result
    (λ (answer : Bool). (answer ≡ true) ↔ IsIdle (agreement_slots c.args.place.now.config c.args.place.now.node c.args.place.now.lane c.args.place.now.epoch) c.args.own.now c.args.heard.now)
    (λ (answer : Bool). (answer ≡ true) ↔ IsIdle (epoch_slots c.args.place.now.config c.args.place.now.node c.args.place.now.lane c.args.place.now.epoch) c.args.own.now c.args.heard.now)
    (λ answer exact.
    agreement_tells c.args.place.now.config c.args.place.now.node c.args.place.now.lane c.args.place.now.epoch c.args.own.now c.args.heard.now
    c.in_ok-is_idle.is_idle answer c.in_ok-is_idle.ensures c.if-not-is_idle.false exact)
    c.is_agreement_idle.ensures
