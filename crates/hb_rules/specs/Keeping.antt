-- Votes that an actor keeps, of which it posts one after another. The letters: t are the actor's terms, seen is what its seat has
-- seen.
use Rattle.std.specs.Prelude.{◌≤◌, List, ◌++◌, length}
use Rattle.hb_wire.specs.declared.vote.Vote.{Vote}
use Rattle.hb_wire.specs.declared.post.Post.{Post}
use Rattle.hb_rules.specs.Ledger.{IsPrefix}
use Rattle.hb_rules.specs.Same.{firsts}
use Rattle.hb_rules.specs.Terms.{Terms, AreVotes, cast_in}

-- votes that the actor may keep, and that begin with those that it has cast, each at its first place
pub record Covers (t : Terms) (seen : List Post) (votes : List Vote) : Type 0 where
  pub are : AreVotes t seen votes
  pub posted : IsPrefix (firsts (cast_in t seen)) votes

-- Votes are being posted in their order: those that are done were cast, and nothing beyond them all was.
pub record Turn (t : Terms) (seen : List Post) (done rest : List Vote) : Type 0 where
  pub covers : Covers t seen (done ++ rest)
  pub far : length done ≤ length (firsts (cast_in t seen))
