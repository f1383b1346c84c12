-- Votes to be cast, and room for more.
use Rattle.std.specs.Prelude.{◌≤◌, ◌+◌, ℕ, List, length}
use Rattle.hb_wire.specs.declared.vote.Vote.{Vote}

-- the votes that are due, and for how many more there is room
pub record DueView : Type 0 where
  pub votes : List Vote
  pub spare : ℕ

-- the room, with what the votes take of it, is no less
abbrev pub KeepsRoom : DueView → DueView → Type 0
KeepsRoom old new = old.spare + length old.votes ≤ new.spare + length new.votes
