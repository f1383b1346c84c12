use Rattle.std.proofs.Common.{◌≡◌, ◌++◌, take}
use Rattle.merkle_branch.specs.Branches.{siblings}
use Rattle.vote_words.specs.Words.{digests_text}
use Rattle.vote_words.proofs.fields.add_digests.Given as goal

-- the digests so far
abbrev pub invariant-loop-digest : goal.invariant-loop-digest
invariant-loop-digest l = l.line.items ≡ l.fn.line.items ++ digests_text l.detail (take l.digest-index (siblings l.branch))
