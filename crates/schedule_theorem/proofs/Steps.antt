-- Whatever events come, in whatever order, the history is legal.
use Rattle.std.proofs.Common.{◌≡◌, ℕ, ◌&&◌, nat_lt, nat_le, Bool, true, false, List, [], ◌∷◌, length, if◌then◌else◌, refl, slice_get}
use Rattle.std.specs.List.{fold}
use Rattle.std.proofs.lemmas.Bool.{and_parts, ltb-true}
use Rattle.hb_base.specs.Limits.{most_posts}
use Rattle.hb_base.specs.NodeSet.{is_in}
use Rattle.hb_base.specs.Numbers.{Numbers, AreSound}
use Rattle.hb_wire.specs.declared.vote.Vote.{Vote}
use Rattle.hb_rules.specs.Book.{lie_of}
use Rattle.hb_rules.specs.History.{IsLegal}
use Rattle.hb_rules.specs.Lanes.{is_correct}
use Rattle.hb_rules.specs.Ledger.{IsCorrect}
use Rattle.hb_rules.proofs.LaneVotes.{correct_is}
use Rattle.schedule_theorem.specs.Schedule.{AreSubmittable, World, new_world, with_state, with_post, with_owed, with_got, with_first, stopped, Event, starts, hears, posts, stops, lies, is_actor, is_none, is_reached, has_room, after, world_after}
use Rattle.schedule_theorem.proofs.Worlds.{IsWorld, world_begins, world_started, world_heard, world_first, world_stopped, world_lied}

none_of : (votes : List Vote) → is_none votes ≡ true → votes ≡ []
none_of [] h = refl
none_of (vote ∷ votes) h = absurd (cc (h))

-- an event whose condition does not hold changes nothing
if_allowed : (c : Numbers) (submitted : ℕ → List (List ℕ)) (b : Bool) (new w : World) → IsWorld c submitted w → (b ≡ true → IsWorld c submitted new)
    → IsWorld c submitted (if b then new else w)
if_allowed c submitted true new w world changed = changed refl
if_allowed c submitted false new w world changed = world

actor_of : (c : Numbers) (i x : ℕ) → is_actor c i x ≡ true → IsCorrect c i
actor_of c i x h = correct_is c i (and_parts (is_correct c i) (nat_le x c.n) h).0

world_next : (c : Numbers) (submitted : ℕ → List (List ℕ)) (event : Event) (w : World) → AreSound c → AreSubmittable submitted → IsWorld c submitted w
    → IsWorld c submitted (after c submitted event w)
world_next c submitted (starts i x) w sound fit world =
    if_allowed c submitted (is_actor c i x && is_none (w.actors i x).pending) (with_state i x (with_owed c submitted w.history i x (w.actors i x)) w) w world (λ h.
    let parts = and_parts (is_actor c i x) (is_none (w.actors i x).pending) h in
    world_started c submitted w i x sound fit (actor_of c i x parts.0) (none_of (w.actors i x).pending parts.1) world)
world_next c submitted (hears i x k) w sound fit world =
    if_allowed c submitted (is_actor c i x && (is_none (w.actors i x).pending && is_reached c i x (slice_get w.history k)))
    (with_state i x (with_owed c submitted w.history i x (with_got k (w.actors i x))) w) w world (λ h.
    let parts = and_parts (is_actor c i x) (is_none (w.actors i x).pending && is_reached c i x (slice_get w.history k)) h in
    let inner = and_parts (is_none (w.actors i x).pending) (is_reached c i x (slice_get w.history k)) parts.1 in
    world_heard c submitted w i x k sound fit (actor_of c i x parts.0) (none_of (w.actors i x).pending inner.0) world)
world_next c submitted (posts i x) w sound fit world =
    if_allowed c submitted (is_actor c i x && has_room w) (with_first i x (w.actors i x).pending w) w world (λ h.
    let parts = and_parts (is_actor c i x) (has_room w) h in
    world_first c submitted w i x sound (actor_of c i x parts.0) (ltb-true (length w.history) most_posts parts.1) world)
world_next c submitted (stops i x) w sound fit world =
    if_allowed c submitted (is_actor c i x) (with_state i x (stopped (w.actors i x)) w) w world (λ h.
    world_stopped c submitted w i x (actor_of c i x h) world)
world_next c submitted (lies a y to bytes) w sound fit world =
    if_allowed c submitted (nat_lt a c.n && (is_in c.liars a && has_room w)) (with_post (lie_of a y to bytes) w) w world (λ h.
    let parts = and_parts (nat_lt a c.n) (is_in c.liars a && has_room w) h in
    let inner = and_parts (is_in c.liars a) (has_room w) parts.1 in
    world_lied c submitted w a y to bytes (ltb-true a c.n parts.0) inner.0 (ltb-true (length w.history) most_posts inner.1) world)

world_from : (c : Numbers) (submitted : ℕ → List (List ℕ)) (events : List Event) (w : World) → AreSound c → AreSubmittable submitted → IsWorld c submitted w
    → IsWorld c submitted (fold (λ w event. after c submitted event w) w events)
world_from c submitted [] w sound fit world = world
world_from c submitted (event ∷ events) w sound fit world =
    world_from c submitted events (after c submitted event w) sound fit (world_next c submitted event w sound fit world)

pub always_legal : (c : Numbers) (submitted : ℕ → List (List ℕ)) (events : List Event) → AreSound c → AreSubmittable submitted
    → IsLegal c (world_after c submitted events).history
always_legal c submitted events sound fit = (world_from c submitted events new_world sound fit (world_begins c submitted)).legal
