use Rattle.std.proofs.Common.{◌≡◌, ◌+◌, length}
use Rattle.acs_world.proofs.Searching.{closures_below}
use Rattle.acs_world.proofs.ledger_finder.LedgerFinder.at.Given as goal

-- the place behind the lists of the epochs so far
abbrev pub invariant-loop-epoch : goal.invariant-loop-epoch
invariant-loop-epoch l = length (closures_below l.self.config l.node l.self.posts l.epoch) + l.left ≡ l.place
