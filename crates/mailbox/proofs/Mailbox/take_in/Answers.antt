use Rattle.std.proofs.Common.{ap}
use Rattle.mailbox.specs.declared.rule.View.{View}
use Rattle.mailbox.proofs.Moves.{merges}
use Rattle.mailbox.proofs.Mailbox.take_in.Goals as goal

pub absorb-requires-clause-rule : goal.absorb-requires-clause-rule
absorb-requires-clause-rule c = merges _ _ _ _ (ap (λ (v : View). v.takes) c.requires.taker.2) (ap (λ (v : View). v.takes) c.put.invariant.1)
