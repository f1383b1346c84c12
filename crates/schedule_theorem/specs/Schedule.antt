-- Runs as schedules: events over a world that knows no links, no disks and no threads. An event may come at any time; where its
-- condition does not hold it changes nothing. The letters: actor x of node i, post k.
use Rattle.std.specs.Prelude.{ℕ, Bool, true, false, ◌&&◌, ◌==◌, nat_lt, nat_le, List, [], ◌∷◌, ◌++◌, length, Option, None, Some, if◌then◌else◌, fold, slice_get}
use Rattle.std.specs.List.{AllByRecursion}
use Rattle.hb_base.specs.ByteLists.{AreBytes}
use Rattle.hb_base.specs.Limits.{most_posts, IsTransaction}
use Rattle.hb_base.specs.NodeSet.{is_in}
use Rattle.hb_base.specs.Numbers.{Numbers}
use Rattle.hb_wire.specs.Addresses.{reaches}
use Rattle.hb_wire.specs.declared.vote.To.{To}
use Rattle.hb_wire.specs.declared.vote.Vote.{Vote}
use Rattle.hb_wire.specs.declared.post.Post.{Post}
use Rattle.hb_rules.specs.Book.{post_of, lie_of}
use Rattle.hb_rules.specs.Hearing.{heard_of}
use Rattle.hb_rules.specs.Lanes.{is_correct}
use Rattle.hb_rules.specs.Terms.{terms_of}

-- the transactions that were submitted at each node are ones that may be submitted
abbrev pub AreSubmittable : (ℕ → List (List ℕ)) → Type 0
AreSubmittable submitted = (i : ℕ) → AllByRecursion IsTransaction (submitted i) × AllByRecursion AreBytes (submitted i)

-- ---- the world

-- the votes that an actor keeps, as in a journal, those of them that wait to be posted, and the numbers of the posts that it got
pub record ActorState : Type 0 where
  pub kept : List Vote
  pub pending : List Vote
  pub got : List ℕ

-- the history, and the state of each actor of each node
pub record World : Type 0 where
  pub history : List Post
  pub actors : ℕ → ℕ → ActorState

abbrev pub nothing_done : ActorState
nothing_done = record { kept = []; pending = []; got = [] }

abbrev pub new_world : World
new_world = record { history = []; actors = λ i x. nothing_done }

-- the same world, but for actor x of node i
abbrev pub with_state : ℕ → ℕ → ActorState → World → World
with_state i x state w = record { history = w.history; actors = λ a y. if (a == i) && (y == x) then state else w.actors a y }

-- the same world with one post more
abbrev pub with_post : Post → World → World
with_post post w = record { history = w.history ++ post ∷ []; actors = w.actors }

-- ---- what an actor does

-- what it owes, by the votes that it keeps and the posts that it got
abbrev pub owed_by : Numbers → (ℕ → List (List ℕ)) → List Post → ℕ → ℕ → ActorState → List Vote
owed_by c submitted history i x state = (terms_of c (submitted i) i x).owed state.kept (heard_of c i x history state.got)

-- these votes are kept, and wait
abbrev pub with_votes : List Vote → ActorState → ActorState
with_votes votes state = record { kept = state.kept ++ votes; pending = state.pending ++ votes; got = state.got }

-- what it owes is kept, and waits
abbrev pub with_owed : Numbers → (ℕ → List (List ℕ)) → List Post → ℕ → ℕ → ActorState → ActorState
with_owed c submitted history i x state = with_votes (owed_by c submitted history i x state) state

-- it got one post more
abbrev pub with_got : ℕ → ActorState → ActorState
with_got k state = record { kept = state.kept; pending = state.pending; got = state.got ++ k ∷ [] }

-- only these votes wait
abbrev pub with_pending : List Vote → ActorState → ActorState
with_pending votes state = record { kept = state.kept; pending = votes; got = state.got }

-- it forgot what it got, and all that it keeps waits to be posted again
abbrev pub stopped : ActorState → ActorState
stopped state = record { kept = state.kept; pending = state.kept; got = [] }

-- ---- events

pub data Event : Type 0 where
  -- an actor casts what it owes
  starts : ℕ → ℕ → Event
  -- an actor hears a post, for the first time or again, and casts what it owes
  hears : ℕ → ℕ → ℕ → Event
  -- the first of the votes that wait at an actor is posted
  posts : ℕ → ℕ → Event
  -- an actor stops and begins again
  stops : ℕ → ℕ → Event
  -- a liar posts anything
  lies : ℕ → ℕ → To → List ℕ → Event

-- whether it is an actor of a correct node
abbrev pub is_actor : Numbers → ℕ → ℕ → Bool
is_actor c i x = is_correct c i && nat_le x c.n

-- whether nothing waits
abbrev pub is_none : List Vote → Bool
is_none [] = true
is_none (vote ∷ votes) = false

-- whether a post, if it stands, reaches the actor
abbrev pub is_reached : Numbers → ℕ → ℕ → Option Post → Bool
is_reached c i x None = false
is_reached c i x (Some post) = reaches c.n post i x

-- whether one post more may stand
abbrev pub has_room : World → Bool
has_room w = nat_lt (length w.history) most_posts

-- the first of these votes is posted by actor x of node i, and the others wait
abbrev pub with_first : ℕ → ℕ → List Vote → World → World
with_first i x [] w = w
with_first i x (vote ∷ rest) w = with_state i x (with_pending rest (w.actors i x)) (with_post (post_of i x vote) w)

-- the world after an event
abbrev pub after : Numbers → (ℕ → List (List ℕ)) → Event → World → World
after c submitted (starts i x) w =
    if is_actor c i x && is_none (w.actors i x).pending
    then with_state i x (with_owed c submitted w.history i x (w.actors i x)) w
    else w
after c submitted (hears i x k) w =
    if is_actor c i x && (is_none (w.actors i x).pending && is_reached c i x (slice_get w.history k))
    then with_state i x (with_owed c submitted w.history i x (with_got k (w.actors i x))) w
    else w
after c submitted (posts i x) w = if is_actor c i x && has_room w then with_first i x (w.actors i x).pending w else w
after c submitted (stops i x) w = if is_actor c i x then with_state i x (stopped (w.actors i x)) w else w
after c submitted (lies a y to bytes) w =
    if nat_lt a c.n && (is_in c.liars a && has_room w) then with_post (lie_of a y to bytes) w else w

-- the world after a list of events
abbrev pub world_after : Numbers → (ℕ → List (List ℕ)) → List Event → World
world_after c submitted events = fold (λ w event. after c submitted event w) new_world events
