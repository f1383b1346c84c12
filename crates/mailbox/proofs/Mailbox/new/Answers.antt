use Rattle.std.proofs.Common.{ap, ◌∙◌}
use Rattle.mailbox.specs.declared.rule.View.{View}
use Rattle.mailbox.proofs.Moves.{begins}
use Rattle.mailbox.proofs.Forks.{forks_sides, forks_witness}
use Rattle.mailbox.proofs.Mailbox.new.Goals as goal

pub with_rule-requires : goal.with_rule-requires
with_rule-requires c = begins

pub another-second-requires-clause-rule : goal.another-second-requires-clause-rule
another-second-requires-clause-rule c = forks_sides _ _ (ap (λ (v : View). v.takes) c.in_ok-line.ensures.2)

pub another-front-requires-clause-rule : goal.another-front-requires-clause-rule
another-front-requires-clause-rule c = forks_witness _ _ (ap (λ (v : View). v.takes) c.another-second.ensures.rule.1)

pub another-back-requires-clause-rule : goal.another-back-requires-clause-rule
another-back-requires-clause-rule c =
    forks_witness _ _
    (ap (λ (v : View). v.takes) c.another-front.ensures.rule.0 ∙ ap (λ (v : View). v.takes) c.another-second.ensures.rule.1)
