use Rattle.std.proofs.Common.{◌≡◌, map, take}
use Rattle.quiet_check.specs.Receipts.{is_sent}
use Rattle.quiet_check.proofs.receipts.sent_posts.Given as goal

-- the posts before this one are told
abbrev pub invariant-loop-post : goal.invariant-loop-post
invariant-loop-post l = l.sent.items ≡ map (is_sent l.report) (take l.post-index l.report.history.items)
