-- Which nodes' own posts contradict each other, with the first two that do. The letters: c is the config of a run, i a node,
-- p and q are numbers of posts.
use Rattle.std.specs.Prelude.{ℕ, zero, suc, Bool, false, ◌&&◌, ◌==◌, List, length, Option, None, Some, if◌then◌else◌, is_some, filter_map, slice_get}
use Rattle.std.specs.Option.{option_map, option_and_then, option_or}
use Rattle.std.specs.List.{range_with_len}
use Rattle.hb_base.specs.Numbers.{Numbers}
use Rattle.hb_wire.specs.declared.vote.Vote.{Vote}
use Rattle.hb_wire.specs.declared.post.Post.{Post}
use Rattle.hb_rules.specs.Hearing.{spelled}
use Rattle.hb_rules.specs.Slots.{when}
use Rattle.accuse.specs.declared.accusation.Accusation.{Accusation}
use Rattle.accuse.specs.Conflicts.{conflicts}

-- the least number below n that passes a test, if there is one
abbrev pub least_below : ℕ → (ℕ → Bool) → Option ℕ
least_below zero test = None
least_below (suc n) test = option_or (least_below n test) (when (test n) n)

-- what a post says, if it is of node i: the actor that posted it, and the vote that its bytes spell, if they spell one
abbrev pub said : Numbers → ℕ → Post → Option (ℕ × Vote)
said c i post = if post.from == i then option_map (λ v. (post.actor, v)) (spelled c post) else None

-- the same of post p of a history
abbrev pub said_at : Numbers → ℕ → List Post → ℕ → Option (ℕ × Vote)
said_at c i history p = option_and_then (said c i) (slice_get history p)

-- whether two posts contradict each other: they are of one actor, and their votes do
abbrev pub contradict : Option (ℕ × Vote) → Option (ℕ × Vote) → Bool
contradict (Some a) (Some b) = (a.0 == b.0) && conflicts a.1 b.1
contradict _ _ = false

-- the first post before post q that contradicts it, both of node i
unfoldable pub first_against : Numbers → ℕ → List Post → ℕ → Option ℕ
first_against c i history q = least_below q (λ p. contradict (said_at c i history p) (said_at c i history q))

-- the first post of node i that contradicts an earlier one
unfoldable pub first_contradiction : Numbers → ℕ → List Post → ℕ → Option ℕ
first_contradiction c i history n = least_below n (λ q. is_some (first_against c i history q))

-- that post, with the first of those that it contradicts
unfoldable pub accusation : Numbers → List Post → ℕ → Option Accusation
accusation c history i =
    option_and_then (λ q. option_map (λ p. record { node = i; first = p; second = q }) (first_against c i history q))
    (first_contradiction c i history (length history))

-- the nodes whose posts contradict each other, rising
abbrev pub accused : Numbers → List Post → List Accusation
accused c history = filter_map (accusation c history) (range_with_len 0 c.n)
