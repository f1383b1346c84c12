-- What holds of the places and of what waits, from one delivery to the next. The letters: a run of config c and script s.
use Rattle.std.specs.Prelude.{◌≡◌, ◌≢◌, ◌⊎◌, ℕ, ◌+◌, ◌-◌, ◌*◌, ◌<◌, ◌≤◌, ◌==◌, Bool, true, false, List, length, map, Contains, Option, Some, None, IfSome, slice_get, nat_lt, count_by, sum_by}
use Rattle.hb_base.specs.Numbers.{Numbers}
use Rattle.hb_base.specs.NodeSet.{is_in}
use Rattle.hb_base.specs.Limits.{most_posts, most_stops, most_lies}
use Rattle.hb_wire.specs.declared.vote.Vote.{Vote}
use Rattle.hb_wire.specs.declared.post.Post.{Post}
use Rattle.hb_wire.specs.Addresses.{reaches}
use Rattle.net_script.specs.declared.script.Script.{Script}
use Rattle.net_script.specs.Delivery.{shape_of}
use Rattle.net_script.specs.declared.script.Shape.TheVariants.{Once}
use Rattle.hb_rules.specs.declared.report.Fate.{Fate}
use Rattle.hb_rules.specs.declared.report.Fate.TheVariants.{Running, Memory, Journal, Full}
use Rattle.hb_rules.specs.Actor.{ActorView, budget}
use Rattle.hb_rules.specs.Book.{SeatView, BookView, AreTwo, IsSeatOf, Moved}
use Rattle.hb_rules.specs.Hearing.{Hearing}
use Rattle.hb_rules.specs.Slots.{owed}
use Rattle.hb_rules.specs.Owing.{slots_of}
use Rattle.hb_rules.specs.Terms.{is_proper}
use Rattle.hb_rules.specs.Report.{submitted_at, stops_of, faults_of, comes_to, IsReceived}
use Rattle.step_driver.specs.Waiting.{Waiting, envelope, with_envelope, count_waiting}
use Rattle.step_driver.specs.Places.{PlayerView, HiredView, Spot, correct, lying, seat_of, name_of, left, left_at}

-- ---- one place

-- a fault is planned for the disk at a call that it has made
pub record HasMetFault (v : ActorView) : Type 0 where
  pub call : ℕ
  pub planned : Contains v.supply.planned call
  pub met : call ≤ v.supply.calls

-- What holds of an actor with this fate: it works once it was started, and ended only for a cause. Want of memory needs none.
abbrev pub HasFate : Bool → Fate → SeatView → ActorView → Type 0
HasFate true Running seat v = v.live ≡ true
HasFate false Running seat v = v.fresh ≡ true
HasFate started Memory seat v = Unit {0}
HasFate started Journal seat v = HasMetFault v
HasFate started Full seat v = length seat.seen ≡ most_posts

-- An actor of a correct node goes by the script: it owes by the submissions at its node, and if it is the desk its pool is of
-- these; its disk stops and fails as planned; and it received only what comes to it.
pub record IsSound (c : Numbers) (s : Script) (p : PlayerView) : Type 0 where
  pub honest : is_in c.liars p.seat.node ≡ false
  pub owes : (own : List Vote) (heard : List Hearing)
      → p.view.terms.owed own heard ≡ owed (slots_of c (submitted_at s p.seat.node) p.seat.node p.seat.actor) own heard
  pub proper : p.seat.actor ≡ c.n → (own : List Vote) (vote : Vote) → p.view.terms.proper own vote ≡ is_proper c (submitted_at s p.seat.node) own vote
  pub planned : p.view.supply.planned ≡ faults_of s p.seat.node p.seat.actor
  pub bound : budget p.view.restarts p.view.supply ≤ stops_of s p.seat.node p.seat.actor
  pub few : budget p.view.restarts p.view.supply ≤ most_stops
  pub got : (k : ℕ) → Contains p.view.got k → IsReceived c s p.seat.seen p.seat.node p.seat.actor k

pub record IsPlayer (c : Numbers) (s : Script) (started : Bool) (p : PlayerView) : Type 0 where
  pub sound : IsSound c s p
  pub fate : HasFate started p.fate p.seat p.view

abbrev pub is_from : ℕ → Post → Bool
is_from i post = post.from == i

-- a node that lies, and all lies that were posted under it are counted
pub record IsHired (c : Numbers) (h : HiredView) : Type 0 where
  pub liar : is_in c.liars h.seat.node ≡ true
  pub said : count_by (is_from h.seat.node) h.seat.seen ≡ h.said
  pub few : h.said ≤ most_lies

abbrev pub IsSpot : Numbers → Script → Bool → Spot → Type 0
IsSpot c s started (correct p) = IsPlayer c s started p
IsSpot c s started (lying h) = IsHired c h

-- ---- what a place does

-- an actor made calls on its seat alone, and is left with no more stops
pub record Passes (book book' : BookView) (old new : PlayerView) : Type 0 where
  pub moved : Moved old.seat.node old.seat.actor book book'
  pub seat : IsSeatOf book' new.seat
  pub node : new.seat.node ≡ old.seat.node
  pub actor : new.seat.actor ≡ old.seat.actor
  pub left : left new ≤ left old

-- after a delivery of post k an actor that was not restarted has what it had, and the post if it comes to it
abbrev pub HasHeard : Numbers → Script → ℕ → List Post → PlayerView → PlayerView → Option ℕ → Type 0
HasHeard c s k posts old new None =
    ((j : ℕ) → Contains old.view.got j → Contains new.view.got j)
    × (IsReceived c s posts new.seat.node new.seat.actor k → Contains new.view.got k)
HasHeard c s k posts old new (Some stood) = Unit {0}

-- it was restarted, when so many posts stood
pub record WasRestarted (book book' : BookView) (old new : PlayerView) (stood : ℕ) : Type 0 where
  pub left : left new + 1 ≤ left old
  pub before : length book.posts ≤ stood
  pub within : stood ≤ length book'.posts

-- post k was delivered to an actor; `again` tells how many posts stood when it was restarted, if it was
pub record Plays (s : Script) (k : ℕ) (book book' : BookView) (old new : PlayerView) (again : Option ℕ) : Type 0 where
  pub passes : Passes book book' old new
  pub player : IsPlayer book.config s true new
  pub worked : new.fate ≡ Running → (old.fate ≡ Running) × HasHeard book.config s k book'.posts old new again
  pub restarted : IfSome again (WasRestarted book book' old new)

-- a liar spoke: what it said stands under its own node
pub record Speaks (book book' : BookView) (old new : HiredView) : Type 0 where
  pub moved : Moved old.seat.node old.seat.actor book book'
  pub seat : IsSeatOf book' new.seat
  pub node : new.seat.node ≡ old.seat.node
  pub actor : new.seat.actor ≡ old.seat.actor
  pub hired : IsHired book.config new

abbrev pub Serves : Script → ℕ → BookView → BookView → Spot → Spot → Option ℕ → Type 0
Serves s k book book' (correct old) (correct new) again = Plays s k book book' old new again
Serves s k book book' (lying old) (lying new) again = Speaks book book' old new × (again ≡ None)
Serves s k book book' (correct old) (lying new) again = ⊥
Serves s k book book' (lying old) (correct new) again = ⊥

-- what is told of whether a post reaches a place
abbrev pub IsReachedBy : Numbers → Post → Spot → Bool → Type 0
IsReachedBy c post (correct p) told = told ≡ reaches c.n post p.seat.node p.seat.actor
IsReachedBy c post (lying h) told = Unit {0}

-- ---- all places

-- n nodes have at most so many places
abbrev pub most_places : ℕ
most_places = 272

-- the first `started` places were started, and each place is as it should be
pub record IsStage (c : Numbers) (s : Script) (started : ℕ) (posts : List Post) (all : List Spot) : Type 0 where
  pub few : length all ≤ most_places
  pub seats : (p : ℕ) (spot : Spot) → slice_get all p ≡ Some spot → IsSeatOf (record { config = c; posts = posts }) (seat_of spot)
  pub own : (p : ℕ) (spot : Spot) → slice_get all p ≡ Some spot → IsSpot c s (nat_lt p started) spot
  pub apart : (p q : ℕ) (a b : Spot) → slice_get all p ≡ Some a → slice_get all q ≡ Some b → p ≢ q
      → AreTwo c (seat_of a).node (seat_of a).actor (seat_of b).node (seat_of b).actor

-- an envelope waits
abbrev pub IsOut : Waiting → ℕ → ℕ → Type 0
IsOut w k p = Contains w.prompt (envelope k p) ⊎ Contains w.late (envelope k p)

-- Of the pairs of a place and a post that W tells: a post that comes to an actor that works was received, or is under way.
pub record IsSupplied (W : ℕ → ℕ → Type 0) (c : Numbers) (s : Script) (posts : List Post) (all : List Spot) (w : Waiting) : Type 0 where
  pub each : (p k : ℕ) (pl : PlayerView) → W p k → slice_get all p ≡ Some (correct pl) → pl.fate ≡ Running
      → IsReceived c s posts pl.seat.node pl.seat.actor k → Contains pl.view.got k ⊎ IsOut w k p

abbrev pub Always : ℕ → ℕ → Type 0
Always p k = Unit {0}

-- all but one
abbrev pub But : ℕ → ℕ → ℕ → ℕ → Type 0
But p0 k0 p k = (p ≢ p0) ⊎ (k ≢ k0)

-- posts before a number, and of the place p0 none where it was restarted
abbrev pub Before : ℕ → ℕ → Option ℕ → ℕ → ℕ → Type 0
Before first p0 again p k = (k < first) × ((p ≢ p0) ⊎ (again ≡ None))

-- how much is left to do at most: what waits, what posts may still come of it, and second deliveries
abbrev pub weight : List Post → List Spot → Waiting → ℕ
weight posts all w = count_waiting w + 544 * (most_posts - length posts) + most_posts * sum_by left_at all

-- what second deliveries may come of a restart
abbrev pub resent : Option ℕ → ℕ
resent None = 0
resent (Some stood) = stood

-- how many restarts were told of
abbrev pub ones : Option ℕ → ℕ
ones None = 0
ones (Some stood) = 1

-- a number of posts between two
abbrev pub IsBetween : ℕ → ℕ → ℕ → Type 0
IsBetween low high stood = (low ≤ stood) × (stood ≤ high)

-- The place p0 was served, by a delivery of post k.
pub record WasServed (s : Script) (k p0 : ℕ) (book book' : BookView) (old new : List Spot) (again : Option ℕ) : Type 0 where
  pub size : length new ≡ length old
  pub same_names : map name_of new ≡ map name_of old
  pub config : book'.config ≡ book.config
  pub longer : length book.posts ≤ length book'.posts
  pub stood : IfSome again (IsBetween (length book.posts) (length book'.posts))
  pub left : sum_by left_at new + ones again ≤ sum_by left_at old
  pub supplied : (w : Waiting) → IsSupplied (But p0 k) book.config s book.posts old w
      → IsSupplied (Before (length book.posts) p0 again) book.config s book'.posts new w

-- the envelopes of the posts from number first on were added, for each actor to which they come
pub record AreSent (c : Numbers) (s : Script) (posts : List Post) (all : List Spot) (first : ℕ) (old new : Waiting) : Type 0 where
  pub kept : (k p : ℕ) → IsOut old k p → IsOut new k p
  pub sent : (p k : ℕ) (pl : PlayerView) → first ≤ k → slice_get all p ≡ Some (correct pl)
      → IsReceived c s posts pl.seat.node pl.seat.actor k → IsOut new k p
  pub few : count_waiting new ≤ count_waiting old + 544 * (length posts - first)

-- the envelope of post k was added for place n, unless the post does not reach who is there
abbrev pub IsSentTo : Numbers → Script → Post → ℕ → ℕ → Spot → Waiting → Waiting → Type 0
IsSentTo c s post k n spot old new =
    (IsReachedBy c post spot false × (new ≡ old)) ⊎ (new ≡ with_envelope (shape_of s.links.items post.from (seat_of spot).node k) (envelope k n) old)

-- the envelope of post k was added once more for place p0, if the post comes to actor x of node i
abbrev pub IsResentTo : Numbers → Script → Post → ℕ → ℕ → ℕ → ℕ → Waiting → Waiting → Type 0
IsResentTo c s post k p0 i x old new =
    ((comes_to c s post i x k ≡ true) × (new ≡ with_envelope Once (envelope k p0) old)) ⊎ ((comes_to c s post i x k ≡ false) × (new ≡ old))

-- the envelopes of post k were added, for each actor at the first places to which it comes
pub record IsSent (c : Numbers) (s : Script) (post : Post) (k : ℕ) (all : List Spot) (places : ℕ) (old new : Waiting) : Type 0 where
  pub kept : (j p : ℕ) → IsOut old j p → IsOut new j p
  pub sent : (p : ℕ) (pl : PlayerView) → p < places → slice_get all p ≡ Some (correct pl)
      → comes_to c s post pl.seat.node pl.seat.actor k ≡ true → IsOut new k p
  pub few : count_waiting new ≤ count_waiting old + 2 * places

-- the envelopes of the posts below a number were added once more for the actor at p
pub record AreResent (c : Numbers) (s : Script) (posts : List Post) (all : List Spot) (p0 stood : ℕ) (old new : Waiting) : Type 0 where
  pub kept : (k p : ℕ) → IsOut old k p → IsOut new k p
  pub sent : (k : ℕ) (pl : PlayerView) → k < stood → slice_get all p0 ≡ Some (correct pl)
      → IsReceived c s posts pl.seat.node pl.seat.actor k → IsOut new k p0
  pub few : count_waiting new ≤ count_waiting old + stood

-- the envelopes of the posts below a number were added once more for place p0, of those that come to actor x of node i
pub record AreResentTo (c : Numbers) (s : Script) (posts : List Post) (p0 i x stood : ℕ) (old new : Waiting) : Type 0 where
  pub kept : (k p : ℕ) → IsOut old k p → IsOut new k p
  pub sent : (k : ℕ) → k < stood → IsReceived c s posts i x k → IsOut new k p0
  pub few : count_waiting new ≤ count_waiting old + stood

-- the envelopes of new posts, and of second deliveries, were added
pub record AreFollowed (c : Numbers) (s : Script) (posts : List Post) (all : List Spot) (first p0 : ℕ) (again : Option ℕ) (old new : Waiting) : Type 0 where
  pub supplied : IsSupplied (Before first p0 again) c s posts all old → IsSupplied Always c s posts all new
  pub few : count_waiting new ≤ count_waiting old + 544 * (length posts - first) + resent again
  pub short : length posts ≤ most_posts
