use Rattle.std.proofs.Common.{ap}
use Rattle.mailbox.specs.declared.rule.View.{View}
use Rattle.mailbox.proofs.Moves.{takes, learns}
use Rattle.mailbox.proofs.Mailbox.pop.Goals as goal

pub pop_as-requires-clause-rule : goal.pop_as-requires-clause-rule
pop_as-requires-clause-rule g c = (takes _ _ (ap (λ (v : View). v.takes) c.requires.2), learns _ _)
