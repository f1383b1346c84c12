use Rattle.std.proofs.Common.{◌≡◌, ◌<◌, fold, take}
use Rattle.ledger_text.specs.Chains.{chains, hash_step}
use Rattle.ledger_text.proofs.seen.chain_of.Given as goal

-- the hash of the bytes so far
abbrev pub invariant-loop-byte : goal.invariant-loop-byte
invariant-loop-byte l = record { value : l.hash ≡ fold hash_step 0 (take l.byte-index l.tx); low : l.hash < chains }
