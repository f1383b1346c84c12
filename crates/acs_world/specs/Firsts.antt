-- Tables that lead to posts with which desks closed epochs. The letters: e is an epoch, i a node.
use Rattle.std.specs.Prelude.{ℕ, ◌+◌, ◌-◌, ◌*◌, Bool, true, false, ◌&&◌, ◌||◌, ◌==◌, bytes_eq, List, Option, Some, None, slice_get, slice_index_or}
use Rattle.std.specs.Option.{option_and_then}
use Rattle.hb_base.specs.Limits.{most_epochs}
use Rattle.hb_base.specs.Numbers.{Numbers}
use Rattle.hb_wire.specs.declared.post.Post.{Post}
use Rattle.acs_world.specs.Closed.{Closure, closing_by}
use Rattle.acs_world.specs.Common.{is_like}

-- the place of a desk and an epoch in a table of all
abbrev pub place_of : ℕ → ℕ → ℕ
place_of i e = i * most_epochs + e

-- the post to which a table leads at a place
abbrev pub post_at : List Post → List (Option ℕ) → ℕ → Option Post
post_at posts table place = option_and_then (slice_get posts) (slice_index_or table place None)

-- whether what a post closes is this epoch
abbrev pub is_epoch : ℕ → Option Closure → Bool
is_epoch e None = false
is_epoch e (Some closure) = closure.0 == e

-- whether there is a post, of the desk of the correct node i, that closes epoch e
abbrev pub is_closing : Numbers → ℕ → ℕ → Option Post → Bool
is_closing c i e None = false
is_closing c i e (Some post) = (post.from == i) && is_epoch e (closing_by c post)

-- whether the table leads to such a post
abbrev pub has_closed : Numbers → List Post → List (Option ℕ) → ℕ → ℕ → Bool
has_closed c posts table i e = is_closing c i e (post_at posts table (place_of i e))

-- whether there is a post, and it has these bytes
abbrev pub has_bytes : List ℕ → Option Post → Bool
has_bytes bytes None = false
has_bytes bytes (Some post) = bytes_eq bytes post.bytes

-- whether a post closes an epoch with the bytes to which a table of epochs leads, and its desk has closed the epoch before
abbrev pub agrees_at : Numbers → List Post → List (Option ℕ) → List (Option ℕ) → Post → Option Closure → Bool
agrees_at c posts table leading post None = true
agrees_at c posts table leading post (Some closure) =
    has_bytes post.bytes (post_at posts leading closure.0)
    && ((closure.0 == 0) || has_closed c posts table post.from (closure.0 - 1))

abbrev pub agrees : Numbers → List Post → List (Option ℕ) → List (Option ℕ) → Post → Bool
agrees c posts table leading post = agrees_at c posts table leading post (closing_by c post)

-- whether there is a post of the desk of this node with these bytes
abbrev pub is_like_one : Numbers → ℕ → List ℕ → Option Post → Bool
is_like_one c i bytes None = false
is_like_one c i bytes (Some post) = is_like c i bytes post

-- whether a post closes an epoch as its desk did before, by a table
abbrev pub repeats_at : Numbers → List Post → List (Option ℕ) → Post → Option Closure → Bool
repeats_at c posts table post None = true
repeats_at c posts table post (Some closure) = is_like_one c post.from post.bytes (post_at posts table (place_of post.from closure.0))

abbrev pub repeats : Numbers → List Post → List (Option ℕ) → Post → Bool
repeats c posts table post = repeats_at c posts table post (closing_by c post)
