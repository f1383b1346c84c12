-- The vote that a view is of.
use Rattle.std.specs.Prelude.{◌≡◌, ℕ, ◌+◌, ◌≤◌, List, length, take, drop}
use Rattle.hb_wire.specs.Votes.{Spells}
use Rattle.hb_wire.specs.declared.vote_view.VoteView.{VoteView}
use Rattle.hb_wire.specs.declared.vote_view.VoteView.TheVariants as views
use Rattle.hb_wire.specs.declared.vote.Vote.{Vote}
use Rattle.hb_wire.specs.declared.vote.Vote.TheVariants.{Val, Echo, Ready, Delivered, Est, Bval, Aux, Pick, Coin, Decided, Propose, NoMore, Closed}
use Rattle.hb_wire.specs.declared.vote.Vote.TheVariants.{Conf}

abbrev pub vote_of : VoteView → Vote
vote_of (views.Val epoch target root shard branch) = Val epoch target root shard.now branch
vote_of (views.Echo epoch root shard branch) = Echo epoch root shard.now branch
vote_of (views.Ready epoch root) = Ready epoch root
vote_of (views.Delivered epoch value) = Delivered epoch value.now
vote_of (views.Est epoch round bit) = Est epoch round bit
vote_of (views.Bval epoch round bit) = Bval epoch round bit
vote_of (views.Aux epoch round bit) = Aux epoch round bit
vote_of (views.Pick epoch round vals) = Pick epoch round vals
vote_of (views.Coin epoch round share salt branch) = Coin epoch round share salt branch
vote_of (views.Decided epoch bit) = Decided epoch bit
vote_of (views.Conf epoch round vals) = Conf epoch round vals
vote_of (views.Propose epoch value) = Propose epoch value.now
vote_of (views.NoMore epoch) = NoMore epoch
vote_of (views.Closed epoch list) = Closed epoch list

-- these bytes stand in others, from a place on
pub record StandsAt (at : ℕ) (bytes whole : List ℕ) : Type 0 where
  pub inside : at + length bytes ≤ length whole
  pub same : take (length bytes) (drop at whole) ≡ bytes

-- the bytes spell the vote, among some number of nodes and under some version of the rules
abbrev pub IsSpelling : Vote → List ℕ → Type 0
IsSpelling vote bytes = (n : ℕ) × (version : ℕ) × Spells n version bytes vote
