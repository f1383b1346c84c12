use Rattle.mailbox.specs.Passes.{IsTaker, known_to}
use Rattle.mailbox.proofs.Mailbox.search.Given as goal

abbrev pub invariant-loop : goal.invariant-loop
invariant-loop g l = IsTaker l.self (known_to l.initial.seat) l.seat
