-- Whether two votes are the same, and lists of votes by it.
use Rattle.std.specs.Prelude.{◌≡◌, Bool, ℕ, List, [], ◌∷◌, ◌++◌, if◌then◌else◌, fold, count_by}
use Rattle.std.specs.List.{list_any}
use Rattle.hb_wire.specs.declared.vote.Vote.{Vote}
use Rattle.hb_wire.specs.contracts.vote.VotePartialEq.TheImpl.{ghosts as votes}

-- whether two votes are the same: what `==` answers, of which `equality_laws` of the votes say that it is true exactly there
abbrev pub same_vote : Vote → Vote → Bool
same_vote v w = votes.eq v w

-- the votes with one more, where it is not among them
abbrev pub with_vote : List Vote → Vote → List Vote
with_vote votes vote = if list_any (same_vote vote) votes then votes else votes ++ vote ∷ []

-- each vote at its first place
abbrev pub firsts : List Vote → List Vote
firsts votes = fold with_vote [] votes

-- how often a vote stands among votes
abbrev pub count : Vote → List Vote → ℕ
count vote votes = count_by (same_vote vote) votes

-- no test of votes tells the lists apart
pub record AreSame (own other : List Vote) : Type 0 where
  pub tests : (test : Vote → Bool) → list_any test own ≡ list_any test other
