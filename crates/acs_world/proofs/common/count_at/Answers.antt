use Rattle.std.proofs.Common.{sym, ◌∙◌}
use Rattle.hb_rules.proofs.LaneVotes.{correct_is}
use Rattle.acs_world.proofs.Tables.{tabled_count}
use Rattle.acs_world.proofs.common.count_at.Goals as goal

pub returns-then-are_repeated : goal.returns-then-are_repeated
returns-then-are_repeated c =
    c.tabled_count.ensures
    ∙ tabled_count c.args.config.now c.args.posts.now c.args.table.now c.args.node (sym c.requires.repeated ∙ c.if-are_repeated.true)
    (correct_is c.args.config.now c.args.node c.requires.correct)
