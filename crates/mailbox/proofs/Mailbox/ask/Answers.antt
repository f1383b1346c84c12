use Rattle.std.proofs.Common.{ap}
use Rattle.mailbox.specs.declared.rule.View.{View}
use Rattle.mailbox.proofs.Forks.{forks_asked}
use Rattle.mailbox.proofs.Mailbox.ask.Goals as goal

pub another-requires-clause-rule : goal.another-requires-clause-rule
another-requires-clause-rule c = forks_asked _ _ (ap (λ (v : View). v.takes) c.requires.2)
