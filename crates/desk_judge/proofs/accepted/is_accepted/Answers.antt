use Rattle.std.proofs.Common.{◌-◌, false, sym, ap, ◌∙◌, arith}
use Rattle.std.specs.Option.{option_map}
use Rattle.desk_judge.proofs.Accepting.{accepted_by, lane_more, lane_none, lanes_end, ends_empty}
use Rattle.desk_judge.proofs.accepted.is_accepted.Goals as goal

pub returns-in-None : goal.returns-in-None
returns-in-None c =
    accepted_by c.args.n c.args.epoch c.args.heard.now c.args.list.now false
    (c.loop-lane.invariant ∙ lane_none c.args.epoch c.args.n c.loop-lane.lane c.args.heard.now c.loop-lane.rest.now (omega (arith, c.loop-lane-test.true))
    (sym c.after_lane.ensures ∙ ap (option_map (λ rest. rest.now)) c.in-None.is))

pub loop-lane-preserved : goal.loop-lane-preserved
loop-lane-preserved c =
    c.loop-lane.invariant
    ∙ lane_more c.args.epoch c.args.n c.loop-lane.lane c.args.heard.now c.loop-lane.rest.now c.in-Some.later.now (omega (arith, c.loop-lane-test.true))
    (sym c.after_lane.ensures ∙ ap (option_map (λ rest. rest.now)) c.in-Some.is)

pub returns : goal.returns
returns c =
    accepted_by c.args.n c.args.epoch c.args.heard.now c.args.list.now c.is_empty.result
    (c.loop-lane.invariant
    ∙ lanes_end c.args.epoch c.args.n c.loop-lane.lane c.args.heard.now c.loop-lane.rest.now (omega (arith, c.loop-lane-test.false)) ∙ ends_empty c.loop-lane.rest.now ∙ sym c.is_empty.ensures)
