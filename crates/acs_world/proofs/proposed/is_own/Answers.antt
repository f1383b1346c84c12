use Rattle.std.proofs.Common.{sym, ◌∙◌}
use Rattle.acs_world.proofs.Items.{own_liar, own_correct}
use Rattle.acs_world.proofs.proposed.is_own.Goals as goal

pub returns-then-not-is_correct : goal.returns-then-not-is_correct
returns-then-not-is_correct c = λ items closed d.
    own_liar c.args.config.now c.args.posts.now c.args.epoch c.item-node.result.0 c.item-node.result.1.now _ (c.item-node.ensures items closed d)
    (sym c.is_correct.ensures ∙ c.if-not-is_correct.true)

pub returns : goal.returns
returns c = λ items closed d.
    own_correct c.args.config.now c.args.posts.now c.args.epoch c.item-node.result.0 c.item-node.result.1.now _ c.is_proposed.result
    (c.item-node.ensures items closed d) (sym c.is_correct.ensures ∙ c.if-not-is_correct.false) c.is_proposed.ensures
