use Rattle.std.proofs.Common.{◌≡◌, take}
use Rattle.hb_rules.specs.Hearing.{heard_of}
use Rattle.quiet_check.proofs.votes.hearings_of.Given as goal

-- what was heard of the posts before this one is there
abbrev pub invariant-loop-number : goal.invariant-loop-number
invariant-loop-number l =
    l.heard.items ≡ heard_of l.report.config l.end.node l.end.actor l.report.history.items (take l.number-index l.end.got.items)
