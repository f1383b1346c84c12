use Rattle.hb_rules.proofs.ValidEchoes.{valid_echo}
use Rattle.hb_rules.proofs.posts.Posts.spell_for.Goals as goal

pub spell_for-requires-clause-valid : goal.spell_for-requires-clause-valid
spell_for-requires-clause-valid c =
    valid_echo c.self.inside.config c.args.node c.args.actor c.self.inside.items.items c.self.invariant.legal c.args.vote.now
    (rw (← c.self.view_is) at c.requires.allowed)
