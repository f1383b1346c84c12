use Rattle.std.proofs.Common.{sym, ◌∙◌}
use Rattle.hb_rules.proofs.LaneVotes.{correct_from}
use Rattle.hb_rules.proofs.Reports.{running_correct}
use Rattle.acs_world.proofs.Running.{one_more_runs, one_more_rests}
use Rattle.acs_world.proofs.common.with_node.Goals as goal

pub count_at-count-requires-clause-correct : goal.count_at-count-requires-clause-correct
count_at-count-requires-clause-correct c =
    correct_from c.args.report.now.config c.args.node
    (running_correct c.args.report.now c.args.node (sym c.running.ensures ∙ c.if-not-running.false))

pub returns-then-not-running : goal.returns-then-not-running
returns-then-not-running c =
    one_more_rests c.args.report.now c.args.node c.args.least c.requires.least (sym c.running.ensures ∙ c.if-not-running.true)

pub returns : goal.returns
returns c =
    let low = rw (c.count_at-count.ensures, c.as_slice-posts.ensures.value) at c.lower.ensures in
    low ∙ one_more_runs c.args.report.now c.args.node c.args.least c.requires.least (sym c.running.ensures ∙ c.if-not-running.false)
