use Rattle.mailbox.specs.Passes.{known_to}
use Rattle.mailbox.proofs.Moves.{was_left}
use Rattle.mailbox.proofs.Mailbox.drain.Goals as goal

pub returns-in_err-push-in-Some-pop-clause-left : goal.returns-in_err-push-in-Some-pop-clause-left
returns-in_err-push-in-Some-pop-clause-left g c =
    was_left c.from_residual.result (known_to c.args.seat.now) (known_to c.loop.seat) c.loop.rest.items _ _ c.loop.invariant.2
    c.requires.whole c.in-Some-pop.ensures.more
