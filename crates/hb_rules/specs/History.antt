-- Histories of posts, and which are legal.
use Rattle.std.specs.Prelude.{◌≡◌, ℕ, ◌<◌, ◌≤◌, ◌⊎◌, false, List, [], ◌∷◌, ◌++◌, length, Contains}
use Rattle.hb_base.specs.Numbers.{Numbers}
use Rattle.hb_base.specs.NodeSet.{is_in}
use Rattle.hb_wire.specs.declared.vote.Vote.{Vote}
use Rattle.hb_wire.specs.declared.post.Post.{Post}
use Rattle.hb_wire.specs.Votes.{address_of, IsVote, Spells}
use Rattle.hb_base.specs.Limits.{most_posts}
use Rattle.hb_rules.specs.Hearing.{heard_in, own_in}
use Rattle.hb_rules.specs.Rules.{MayCast}

-- a vote that has a spelling under the run's version of the rules
abbrev pub HasSpelling : Numbers → Vote → Type 0
HasSpelling c vote = IsVote c.n c.version vote

-- a vote that actor x of node i has cast before, as after a restart, or may cast now
abbrev pub IsAllowed : Numbers → ℕ → ℕ → List Post → Vote → Type 0
IsAllowed c i x history vote =
    Contains (own_in c i x history) vote ⊎ MayCast c i x (own_in c i x history) (heard_in c i x history) vote

-- a post of a correct node spells a vote, goes where the vote goes, and the vote was allowed
pub record IsCorrectPost (c : Numbers) (history : List Post) (post : Post) : Type 0 where
  pub vote : Vote
  pub spells : Spells c.n c.version post.bytes vote
  pub address : post.to ≡ address_of vote
  pub allowed : IsAllowed c post.from post.actor history vote

-- a post that may come next: from one of the n nodes, and by the rules unless its node is a liar
pub record MayFollow (c : Numbers) (history : List Post) (post : Post) : Type 0 where
  pub known : post.from < c.n
  pub correct : is_in c.liars post.from ≡ false → IsCorrectPost c history post

-- posts of which each may follow those before it
abbrev pub AreLegalAfter : Numbers → List Post → List Post → Type 0
AreLegalAfter c before [] = Unit {0}
AreLegalAfter c before (post ∷ posts) = MayFollow c before post × AreLegalAfter c (before ++ post ∷ []) posts

-- a history that a run may have: few enough posts, each of which may follow those before it
pub record IsLegal (c : Numbers) (history : List Post) : Type 0 where
  pub short : length history ≤ most_posts
  pub each : AreLegalAfter c [] history
