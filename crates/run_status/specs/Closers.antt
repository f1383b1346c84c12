-- Which desks have closed the last epoch of a run. The letter i is a node.
use Rattle.std.specs.Prelude.{◌≡◌, ℕ, ◌-◌, ◌<◌, Bool, ◌||◌, ◌&&◌, ◌==◌, nat_lt, List, Option, Some, None, if◌then◌else◌}
use Rattle.std.specs.List.{list_any}
use Rattle.hb_base.specs.Limits.{most_nodes}
use Rattle.hb_base.specs.NodeSet.{is_in}
use Rattle.hb_base.specs.Numbers.{Numbers}
use Rattle.hb_wire.specs.declared.vote.Vote.{Vote}
use Rattle.hb_wire.specs.declared.post.Post.{Post}
use Rattle.hb_rules.specs.Claims.{is_any_closing}
use Rattle.hb_rules.specs.Hearing.{spelled, own_in}
use Rattle.run_status.specs.Shown.{passes, is_number}

-- whether a vote closes the last epoch
abbrev pub is_last_closing : Numbers → Vote → Bool
is_last_closing c vote = is_any_closing (c.epochs - 1) vote

-- the node whose desk closes the last epoch by a post
abbrev pub closer_of : Numbers → Post → Option ℕ
closer_of c post =
    if (nat_lt post.from most_nodes && (post.actor == c.n)) && passes (is_last_closing c) (spelled c post) then Some post.from else None

-- the nodes in the set are those whose desks have closed the last epoch
pub record AreClosers (c : Numbers) (posts : List Post) (nodes : List Bool) : Type 0 where
  pub each : (i : ℕ) → i < most_nodes → is_in nodes i ≡ list_any (is_last_closing c) (own_in c i c.n posts)

-- beside those of the old set, the new one has the node whose desk closes the last epoch by one more post
pub record AreClosersBy (c : Numbers) (post : Post) (old new : List Bool) : Type 0 where
  pub each : (i : ℕ) → is_in new i ≡ (is_in old i || is_number i (closer_of c post))
