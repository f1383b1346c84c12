-- What an actor hears of a post, and who has shown what. The letters: actor x of node i hears actor y of node a, among
-- the nodes of config c. Lanes are the actors below n, the desk is actor n.
use Rattle.std.specs.Prelude.{ℕ, Bool, true, false, ◌&&◌, ◌==◌, nat_lt, List, Option, None, Some, if◌then◌else◌, filter_map, slice_get}
use Rattle.std.specs.List.{list_any}
use Rattle.hb_base.specs.Counting.{count_nodes}
use Rattle.hb_base.specs.Numbers.{Numbers}
use Rattle.hb_wire.specs.declared.vote.Vote.{Vote}
use Rattle.hb_wire.specs.declared.vote.Vote.TheVariants.{Val, Echo, Ready, Delivered, Est, Bval, Aux, Conf, Pick, Coin, Decided, Propose, NoMore}
use Rattle.hb_wire.specs.declared.post.Post.{Post}
use Rattle.hb_wire.specs.Votes.{epoch_of}
use Rattle.hb_wire.specs.Reading.{vote_at}
use Rattle.hb_wire.specs.Addresses.{reaches}

-- A vote as an actor hears it. At a lane `from` is the node that cast the vote; at a desk, which hears its own node
-- alone, it is the lane.
pub record Hearing : Type 0 where
  pub from : ℕ
  pub vote : Vote

abbrev pub hearing : ℕ → Vote → Hearing
hearing from vote = record { from = from; vote = vote }

-- the round that a vote is about, if it is about one
abbrev pub round_of : Vote → Option ℕ
round_of (Est e r bit) = Some r
round_of (Bval e r bit) = Some r
round_of (Aux e r bit) = Some r
round_of (Conf e r vals) = Some r
round_of (Pick e r vals) = Some r
round_of (Coin e r share salt branch) = Some r
round_of _ = None

-- whether a number, if there is one, is below the limit
abbrev pub is_below : ℕ → Option ℕ → Bool
is_below limit None = true
is_below limit (Some number) = nat_lt number limit

-- whether a vote is of an epoch and a round that the run has
abbrev pub is_within : Numbers → Vote → Bool
is_within c vote = nat_lt (epoch_of vote) c.epochs && is_below c.rounds (round_of vote)

-- Whether actor x of node i, among n nodes, takes heed of this vote of actor y of node a. A lane takes a Val from the
-- node of its own number alone, and for its own node alone; an Echo, a Ready and the agreement's votes from any node; a
-- proposal and NoMore from its own node's desk. A desk takes deliveries and decisions from its own node's lanes.
abbrev pub heeds : ℕ → ℕ → ℕ → ℕ → ℕ → Vote → Bool
heeds n i x a y (Val e m root shard branch) = nat_lt x n && ((a == x) && (m == i))
heeds n i x a y (Echo e root shard branch) = nat_lt x n
heeds n i x a y (Ready e root) = nat_lt x n
heeds n i x a y (Bval e r bit) = nat_lt x n
heeds n i x a y (Aux e r bit) = nat_lt x n
heeds n i x a y (Conf e r vals) = nat_lt x n
heeds n i x a y (Coin e r share salt branch) = nat_lt x n
heeds n i x a y (Propose e value) = nat_lt x n && ((a == i) && (y == n))
heeds n i x a y (NoMore e) = nat_lt x n && ((a == i) && (y == n))
heeds n i x a y (Delivered e value) = (x == n) && ((a == i) && nat_lt y n)
heeds n i x a y (Decided e bit) = (x == n) && ((a == i) && nat_lt y n)
heeds n i x a y _ = false

-- the vote that a post spells, if it spells one under the run's version of the rules
abbrev pub spelled : Numbers → Post → Option Vote
spelled c post = vote_at c.n c.version post.bytes

-- under which number actor x knows who posted
abbrev pub name_at : Numbers → ℕ → Post → ℕ
name_at c x post = if x == c.n then post.actor else post.from

-- what actor x of node i hears of a post that spells this vote, or none
abbrev pub hearing_at : Numbers → ℕ → ℕ → Post → Option Vote → Option Hearing
hearing_at c i x post None = None
hearing_at c i x post (Some vote) =
    if reaches c.n post i x && (heeds c.n i x post.from post.actor vote && is_within c vote)
    then Some (hearing (name_at c x post) vote)
    else None

-- What actor x of node i hears of a post, if anything: a vote that the post spells, that reaches the actor, that it
-- takes heed of, and whose epoch and round the run has.
abbrev pub hearing_of : Numbers → ℕ → ℕ → Post → Option Hearing
hearing_of c i x post = hearing_at c i x post (spelled c post)

-- what actor x of node i hears of a history, in order
abbrev pub heard_in : Numbers → ℕ → ℕ → List Post → List Hearing
heard_in c i x history = filter_map (hearing_of c i x) history

-- what actor x of node i heard of the posts with these numbers, in order
abbrev pub heard_of : Numbers → ℕ → ℕ → List Post → List ℕ → List Hearing
heard_of c i x history got = heard_in c i x (filter_map (slice_get history) got)

-- whether a post is of actor x of node i
abbrev pub is_by : ℕ → ℕ → Post → Bool
is_by i x post = (post.from == i) && (post.actor == x)

-- the vote of a post of actor x of node i
abbrev pub vote_by : Numbers → ℕ → ℕ → Post → Option Vote
vote_by c i x post = if is_by i x post then spelled c post else None

-- What actor x of node i has cast in a history, in order, with a vote that it posted again at each of its places. Rules
-- ask only whether a vote with some mark is among them.
abbrev pub own_in : Numbers → ℕ → ℕ → List Post → List Vote
own_in c i x history = filter_map (vote_by c i x) history

-- ---- Who has shown a vote that passes a test: a function of the node and the test.

-- by what was heard
abbrev pub heard_by : List Hearing → ℕ → (Vote → Bool) → Bool
heard_by heard a test = list_any (λ h. (h.from == a) && test h.vote) heard

-- by what the actors x have cast in a history
abbrev pub said_in : Numbers → ℕ → List Post → ℕ → (Vote → Bool) → Bool
said_in c x history a test = list_any test (own_in c a x history)

-- how many of n nodes have shown a vote that passes the test
abbrev pub count_shown : ℕ → (ℕ → (Vote → Bool) → Bool) → (Vote → Bool) → ℕ
count_shown n shown test = count_nodes n (λ a. shown a test)
