use Rattle.std.proofs.Common.{sym, ◌∙◌}
use Rattle.acs_world.proofs.Tables.{all_agree, all_follow}
use Rattle.acs_world.proofs.Theorems.{comparable_by}
use Rattle.acs_world.proofs.comparing.agree_in_order.Goals as goal

pub returns : goal.returns
returns c = λ passes.
    let all = sym c.all_agree.ensures ∙ passes in
    comparable_by c.args.config.now c.args.posts.now
    (all_agree c.args.config.now c.args.posts.now c.first_numbers-table.result c.leading_numbers-leading.result all)
    (all_follow c.args.config.now c.args.posts.now c.first_numbers-table.result c.leading_numbers-leading.result all)
