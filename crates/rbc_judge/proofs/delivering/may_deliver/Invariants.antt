use Rattle.std.proofs.Common.{◌≡◌, drop}
use Rattle.std.specs.List.{list_any}
use Rattle.rbc_judge.specs.Tests.{is_delivered_by}
use Rattle.rbc_judge.proofs.delivering.may_deliver.Given as goal

-- one that shows the delivery is among the hearings from here on, if there is one
abbrev pub invariant-loop-said : goal.invariant-loop-said
invariant-loop-said l =
    list_any (is_delivered_by l.lane.config l.fn.epoch l.heard l.value) l.heard
    ≡ list_any (is_delivered_by l.lane.config l.fn.epoch l.heard l.value) (drop l.said-index l.heard)
