use Rattle.ledger_text.specs.Seen.{txs_of}
use Rattle.ledger_text.proofs.Chains.{IsWalked}
use Rattle.ledger_text.proofs.seen.Seen.has.Given as goal

-- the chain was walked down to this number
abbrev pub invariant-loop-number : goal.invariant-loop-number
invariant-loop-number l = IsWalked (txs_of l.self) l.tx l.number

abbrev pub decreases-loop-number : goal.decreases-loop-number
decreases-loop-number l = l.number
