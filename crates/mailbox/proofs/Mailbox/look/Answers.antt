use Rattle.std.proofs.Common.{ap, ◌∙◌}
use Rattle.mailbox.specs.declared.rule.View.{View}
use Rattle.mailbox.proofs.Forks.{forks_witness}
use Rattle.mailbox.proofs.Mailbox.look.Goals as goal

pub another-front-requires-clause-rule : goal.another-front-requires-clause-rule
another-front-requires-clause-rule c = forks_witness _ _ (ap (λ (v : View). v.takes) c.requires.2)

pub another-back-requires-clause-rule : goal.another-back-requires-clause-rule
another-back-requires-clause-rule c =
    forks_witness _ _ (ap (λ (v : View). v.takes) c.another-front.ensures.rule.0 ∙ ap (λ (v : View). v.takes) c.requires.2)
