-- The numbers of seats and posts in the turn book. The letters: actor x of node i, in a run of config c.
use Rattle.std.specs.Prelude.{◌≡◌, ℕ, ◌+◌, ◌*◌, ◌<◌, nat_lt, true, if◌then◌else◌}
use Rattle.hb_base.specs.Numbers.{Numbers}
use Rattle.hb_base.specs.NodeSet.{is_in}
use Rattle.hb_wire.specs.declared.post.Post.{Post}

-- a place for a seat: each actor of a correct node has one, and a liar's node has one alone, of actor 255
pub record IsPlace (c : Numbers) (i x : ℕ) : Type 0 where
  pub small : x < 256
  pub liar : is_in c.liars i ≡ true → x ≡ 255

-- the number of a seat
abbrev pub seat_number : ℕ → ℕ → ℕ
seat_number i x = 1 + 256 * i + x

-- the number of the seat that a post is of, whichever actor a liar names. An actor above 255, which no post of a book
-- has, has no place, and 0 stands for that.
abbrev pub post_number : Numbers → Post → ℕ
post_number c post =
    if is_in c.liars post.from then seat_number post.from 255 else (if nat_lt post.actor 256 then seat_number post.from post.actor else 0)
