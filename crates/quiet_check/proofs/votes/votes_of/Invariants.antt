use Rattle.std.proofs.Common.{◌≡◌, take}
use Rattle.hb_rules.specs.Hearing.{own_in}
use Rattle.quiet_check.proofs.votes.votes_of.Given as goal

-- the votes of the posts before this one are there
abbrev pub invariant-loop-post : goal.invariant-loop-post
invariant-loop-post l = l.votes.items ≡ own_in l.report.config l.end.node l.end.actor (take l.post-index l.report.history.items)
