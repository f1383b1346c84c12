use Rattle.std.proofs.Common.{◌≡◌, drop}
use Rattle.std.specs.List.{list_any}
use Rattle.rbc_judge.specs.Tests.{is_source}
use Rattle.rbc_judge.proofs.sending.may_send.Given as goal

-- a source is among the hearings from here on, if there is one
abbrev pub invariant-loop-said : goal.invariant-loop-said
invariant-loop-said l =
    list_any (is_source l.lane.config l.lane.node l.fn.epoch l.fn.target l.vote) l.heard
    ≡ list_any (is_source l.lane.config l.lane.node l.fn.epoch l.fn.target l.vote) (drop l.said-index l.heard)
