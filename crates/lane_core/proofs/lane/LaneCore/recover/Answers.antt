use Rattle.std.proofs.Common.{◌<◌, [], sym, subst, ◌∙◌}
use Rattle.hb_rules.specs.Slots.{IsIdle}
use Rattle.lane_core.specs.Lane.{LaneView, slots_at}
use Rattle.lane_core.proofs.Lanes.{untouched_by, recovered_rests}
use Rattle.lane_core.proofs.lane.LaneCore.recover.Goals as goal

pub returns-then-not-has_vote-clause-stands : goal.returns-then-not-has_vote-clause-stands
returns-then-not-has_vote-clause-stands c = λ idle.
    untouched_by c.args.epoch c.args.own.now (sym c.has_vote.ensures ∙ c.if-not-has_vote.true)

pub returns-clause-stands : goal.returns-clause-stands
returns-clause-stands c = λ idle.
    c.in_ok-cores.ensures.stands
    (recovered_rests c.self.inside.config c.self.inside.node c.self.inside.lane c.args.epoch c.args.own.now
    (subst (λ (l : LaneView). c.args.epoch < l.config.epochs) (sym c.self.view_is) c.requires.epoch)
    (subst (λ (l : LaneView). IsIdle (slots_at l) c.args.own.now []) (sym c.self.view_is) idle))
