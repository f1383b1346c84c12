use Rattle.std.proofs.Common.{◌≡◌, ◌++◌, map}
use Rattle.std.specs.Vec.Iter.{into_iter_items}
use Rattle.mailbox.specs.Ordered.{taker}
use Rattle.mailbox.specs.Passes.{IsTaker, known_to}
use Rattle.mailbox.proofs.Mailbox.join_all.Given as goal

abbrev pub invariant-loop-put : goal.invariant-loop-put
invariant-loop-put l = record {
  going : IsTaker l.self (taker ((known_to l.initial.seat).splits ++ map (λ p. p.splits) l.yielded) (known_to l.initial.seat).taken
      ((known_to l.initial.seat).joined ++ map (λ p. p.put) l.yielded) (known_to l.initial.seat).asked (known_to l.initial.seat).own) l.seat;
  split : l.yielded ++ into_iter_items l.put-iterator ≡ l.fn.puts.items;
}
