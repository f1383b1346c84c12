use Rattle.mailbox.proofs.Moves.{puts, still_puts}
use Rattle.mailbox.proofs.Forks.{forks_asked_put}
use Rattle.mailbox.proofs.Mailbox.push.Goals as goal

pub another-requires-clause-rule : goal.another-requires-clause-rule
another-requires-clause-rule g c = forks_asked_put _ _ _ c.requires.1.1

pub push_as-requires-clause-rule : goal.push_as-requires-clause-rule
push_as-requires-clause-rule g c = λ n. puts n _ _ _ _ (still_puts _ _ _ c.requires.1.1 c.another.ensures.rule.0)
