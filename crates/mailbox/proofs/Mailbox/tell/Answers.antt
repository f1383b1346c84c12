use Rattle.mailbox.proofs.Moves.{merges_receipt}
use Rattle.mailbox.proofs.Forks.{forks_receipt}
use Rattle.mailbox.proofs.Mailbox.tell.Goals as goal

pub another-receipt-requires-clause-rule : goal.another-receipt-requires-clause-rule
another-receipt-requires-clause-rule c = forks_receipt _ _

pub absorb-requires-clause-rule : goal.absorb-requires-clause-rule
absorb-requires-clause-rule c =
    merges_receipt c.take.inside.seat.id c.take.inside.seat.me.view.client c.another-receipt.result.id c.another-receipt.result.me.view.client
    c.own.inside.seat.me.view.client c.another-receipt.ensures.rule.1
