use Rattle.std.proofs.Common.{◌++◌}
use Rattle.mailbox.specs.Ordered.{taker}
use Rattle.mailbox.specs.Passes.{IsTaker, known_to}
use Rattle.mailbox.proofs.Mailbox.drain.Given as goal

abbrev pub invariant-loop : goal.invariant-loop
invariant-loop g l =
    let known = known_to l.initial.seat in
    IsTaker l.self (taker known.splits (known.taken ++ l.rest.items) known.joined (known_to l.seat).asked (known_to l.seat).own) l.seat
