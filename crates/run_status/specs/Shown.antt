-- What a post shows of an actor, by a test of votes. The letters: actor x of node i.
use Rattle.std.specs.Prelude.{ℕ, Bool, false, ◌==◌, Option, None, Some}
use Rattle.hb_base.specs.Numbers.{Numbers}
use Rattle.hb_wire.specs.declared.vote.Vote.{Vote}
use Rattle.hb_wire.specs.declared.post.Post.{Post}
use Rattle.hb_rules.specs.Hearing.{vote_by}

-- whether there is a vote, and it passes the test
abbrev pub passes : (Vote → Bool) → Option Vote → Bool
passes test None = false
passes test (Some vote) = test vote

-- whether a post is of actor x of node i, and spells a vote that passes the test
abbrev pub shows : Numbers → ℕ → ℕ → (Vote → Bool) → Post → Bool
shows c i x test post = passes test (vote_by c i x post)

-- whether a number, if there is one, is this one
abbrev pub is_number : ℕ → Option ℕ → Bool
is_number k None = false
is_number k (Some m) = m == k
