-- Posts of lanes of correct nodes.
use Rattle.std.specs.Prelude.{ℕ, Bool, ◌&&◌, not, nat_lt, Option, Some, None, if◌then◌else◌}
use Rattle.std.specs.Option.{option_and_then}
use Rattle.hb_base.specs.Numbers.{Numbers}
use Rattle.hb_base.specs.NodeSet.{is_in}
use Rattle.hb_wire.specs.declared.vote.Vote.{Vote}
use Rattle.hb_wire.specs.declared.post.Post.{Post}
use Rattle.hb_rules.specs.Hearing.{spelled}

-- whether a node is of the run and no liar
abbrev pub is_correct : Numbers → ℕ → Bool
is_correct c i = nat_lt i c.n && not (is_in c.liars i)

-- the lane that has posted a post, if its node is correct
abbrev pub posting_lane : Numbers → Post → Option ℕ
posting_lane c post = if is_correct c post.from && nat_lt post.actor c.n then Some post.actor else None

-- what a post of a lane of a correct node says, by what the lane's vote says
abbrev pub said_by_lane : {A : Type 0} → Numbers → (ℕ → Vote → Option A) → Post → Option A
said_by_lane c says post = option_and_then (λ lane. option_and_then (says lane) (spelled c post)) (posting_lane c post)
