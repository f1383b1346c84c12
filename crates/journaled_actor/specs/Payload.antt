-- The bytes of votes in a journal.
use Rattle.std.specs.Prelude.{ℕ, ◌^◌, List}
use Rattle.std.specs.List.{flat_map, AllByRecursion}
use Rattle.hb_base.specs.Numbers.{Numbers}
use Rattle.hb_wire.specs.declared.vote.Vote.{Vote}
use Rattle.hb_wire.specs.Votes.{Spells, spelling, sized_bytes}

-- a vote's one spelling, with its length before it in four bytes
abbrev pub vote_bytes : Vote → List ℕ
vote_bytes vote = sized_bytes (spelling vote)

-- the votes in order
abbrev pub payload : List Vote → List ℕ
payload votes = flat_map vote_bytes votes

-- votes whose spellings are bytes that spell them
abbrev pub AreWritten : Numbers → List Vote → Type 0
AreWritten c votes = AllByRecursion (λ vote. Spells c.n c.version (spelling vote) vote) votes

-- no spelling of a vote is longer
abbrev pub longest_spelling : ℕ
longest_spelling = 2 ^ 21
