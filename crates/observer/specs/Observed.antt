-- What an observer takes from the posts that it hears: of each epoch the list that f + 1 nodes claim first. The letters: e is
-- an epoch, a a node of a run with config c; heard are posts in the order in which they are heard.
use Rattle.std.specs.Prelude.{ℕ, zero, suc, ◌+◌, ◌&&◌, ◌==◌, not, nat_lt, nat_le, Bool, false, List, [], ◌∷◌, ◌++◌, Option, Some, None, if◌then◌else◌}
use Rattle.std.specs.Option.{option_and_then, option_or}
use Rattle.hb_base.specs.Counting.{count_nodes}
use Rattle.hb_base.specs.Numbers.{Numbers}
use Rattle.hb_wire.specs.declared.items.Item.{Item}
use Rattle.hb_wire.specs.declared.vote.Vote.TheVariants.{Closed}
use Rattle.hb_wire.specs.declared.post.Post.{Post}
use Rattle.hb_rules.specs.Hearing.{spelled, said_in}
use Rattle.hb_rules.specs.Same.{same_vote}
use Rattle.acs_world.specs.Closed.{Closure, closing}

-- ---- claims

-- a claim that the run has the epoch of
abbrev pub in_run : Numbers → Option Closure → Option Closure
in_run c None = None
in_run c (Some claim) = if nat_lt claim.0 c.epochs then Some claim else None

-- What a post claims: that an epoch of the run has been closed with a list. It is a post of the desk of a node of the run, with a
-- vote that closes the epoch so.
abbrev pub claim_of : Numbers → Post → Option Closure
claim_of c post =
    if nat_lt post.from c.n && (post.actor == c.n) then in_run c (option_and_then closing (spelled c post)) else None

-- whether node a has claimed it
abbrev pub has_claimed : Numbers → List Post → Closure → ℕ → Bool
has_claimed c heard claim a = said_in c c.n heard a (same_vote (Closed claim.0 claim.1))

-- how many nodes have
abbrev pub claim_count : Numbers → List Post → Closure → ℕ
claim_count c heard claim = count_nodes c.n (has_claimed c heard claim)

-- whether a claim of node a is one that the node has not made before
abbrev pub is_new : Numbers → List Post → ℕ → Option Closure → Bool
is_new c heard a None = false
is_new c heard a (Some claim) = not (has_claimed c heard claim a)

-- whether a post adds its node to those that make a claim
abbrev pub adds_node : Numbers → List Post → Post → Bool
adds_node c heard post = is_new c heard post.from (claim_of c post)

-- ---- lists

-- the list of a claim of epoch e, where f + 1 nodes have made it
abbrev pub taken_list : Numbers → List Post → ℕ → Closure → Option (List Item)
taken_list c heard e claim = if (claim.0 == e) && nat_le (c.f + 1) (claim_count c heard claim) then Some claim.1 else None

-- the list of epoch e that a post claims, the last one that was heard, where f + 1 nodes have claimed it
abbrev pub reached : Numbers → List Post → ℕ → Post → Option (List Item)
reached c heard e post = option_and_then (taken_list c heard e) (claim_of c post)

-- the first such list, as posts are heard behind others
abbrev pub first_reached : Numbers → ℕ → List Post → List Post → Option (List Item)
first_reached c e before [] = None
first_reached c e before (post ∷ posts) =
    option_or (reached c (before ++ post ∷ []) e post) (first_reached c e (before ++ post ∷ []) posts)

-- the list of epoch e: that of the claim that f + 1 nodes made first
abbrev pub observed_list : Numbers → List Post → ℕ → Option (List Item)
observed_list c heard e = first_reached c e [] heard

-- a list, if there is one, and others behind it; nothing where there is none
abbrev pub with_list : Option (List Item) → List (List Item) → List (List Item)
with_list None rest = []
with_list (Some list) rest = list ∷ rest

-- the lists of so many epochs from e on, up to the first epoch without one
abbrev pub lists_from : (ℕ → Option (List Item)) → ℕ → ℕ → List (List Item)
lists_from at e zero = []
lists_from at e (suc count) = with_list (at e) (lists_from at (e + 1) count)

-- the observed ledger: the lists from epoch 0 up to the first epoch without one
abbrev pub observed : Numbers → List Post → List (List Item)
observed c heard = lists_from (observed_list c heard) 0 c.epochs
