-- Where the posts of a history are kept, so that what a rule looks at is found at few places. The letters: actor x of node i
-- hears actor y of node a, e is an epoch, r a round, m a target.
use Rattle.std.specs.Prelude.{ℕ, zero, suc, Bool, true, ◌&&◌, ◌==◌, nat_lt, List, [], ◌∷◌, map, Option, None, Some, if◌then◌else◌}
use Rattle.std.specs.List.{range_with_len}
use Rattle.hb_base.specs.Numbers.{Numbers}
use Rattle.merkle_branch.specs.Branches.{is_branch}
use Rattle.coin_deal.specs.Heard.{is_good_share}
use Rattle.hb_wire.specs.declared.vote.Vote.{Vote}
use Rattle.hb_wire.specs.declared.vote.Vote.TheVariants.{Val, Echo, Ready, Delivered, Est, Bval, Aux, Conf, Pick, Coin, Decided, Propose, NoMore, Closed}
use Rattle.hb_wire.specs.declared.post.Post.{Post}
use Rattle.hb_wire.specs.Votes.{epoch_of}
use Rattle.hb_rules.specs.Hearing.{is_within}
use Rattle.hb_rules.specs.Lanes.{is_correct}
use Rattle.hb_rules.specs.Slots.{when}
use Rattle.post_judge.specs.declared.place.Topic.{Topic}
use Rattle.post_judge.specs.declared.place.Topic.TheVariants as topics
use Rattle.post_judge.specs.declared.place.Place.{Place}

abbrev pub place : Topic → ℕ → ℕ → ℕ → Place
place topic owner e part = record { topic = topic; owner = owner; epoch = e; part = part }

-- The place of a vote of actor x of node i, one of n nodes, among those that it has cast: those of a lane by their epochs, since
-- it looks at those of one epoch alone.
abbrev pub own_place : ℕ → ℕ → ℕ → Vote → Place
own_place n i x vote = place topics.Own i (if nat_lt x n then epoch_of vote else 0) x

-- The place at which actor x of node i hears a vote: those of the lanes of its number by the lane, those of its own node's desk
-- and lanes by the node.
abbrev pub heard_place : ℕ → ℕ → Vote → Option Place
heard_place i x (Val e m root shard branch) = Some (place topics.Handed x e m)
heard_place i x (Echo e root shard branch) = Some (place topics.Spread x e 0)
heard_place i x (Ready e root) = Some (place topics.Spread x e 0)
heard_place i x (Bval e r bit) = Some (place topics.Claimed x e r)
heard_place i x (Aux e r bit) = Some (place topics.Claimed x e r)
heard_place i x (Conf e r vals) = Some (place topics.Claimed x e r)
heard_place i x (Coin e r share salt branch) = Some (place topics.Shared x e r)
heard_place i x (Propose e value) = Some (place topics.FromDesk i e 0)
heard_place i x (NoMore e) = Some (place topics.FromDesk i e 0)
heard_place i x (Delivered e value) = Some (place topics.FromLanes i e 0)
heard_place i x (Decided e bit) = Some (place topics.FromLanes i e 0)
heard_place i x _ = None

-- whether a vote is of such an actor, y of node a, that actors of correct nodes may take heed of it
abbrev pub is_told : ℕ → ℕ → ℕ → Vote → Bool
is_told n a y (Val e m root shard branch) = a == y
is_told n a y (Propose e value) = y == n
is_told n a y (NoMore e) = y == n
is_told n a y _ = nat_lt y n

-- whether it counts: the branch of an Echo or of a share is right
abbrev pub counts : Numbers → ℕ → ℕ → Vote → Bool
counts c a y (Echo e root shard branch) = nat_lt a c.n && is_branch root c.n a shard branch
counts c a y (Coin e r share salt branch) = is_good_share c e y r a share salt branch
counts c a y _ = true

-- the place of a post's vote among those that are heard, if it can be heard and counts
abbrev pub told_place : Numbers → Post → Vote → Option Place
told_place c post vote =
    if is_within c vote && (is_told c.n post.from post.actor vote && counts c post.from post.actor vote)
    then heard_place post.from post.actor vote
    else None

-- the place of a post's vote among those that its actor has cast, if its node is correct
abbrev pub cast_place : Numbers → Post → Vote → Option Place
cast_place c post vote = when (is_correct c post.from) (own_place c.n post.from post.actor vote)

-- whether actors of number x, of n nodes, cast votes of this kind: the desk, which is actor n, or the lanes
abbrev pub casts : ℕ → ℕ → Vote → Bool
casts n x (Propose e value) = x == n
casts n x (NoMore e) = x == n
casts n x (Closed e list) = x == n
casts n x _ = nat_lt x n

-- whether such a vote of such an actor is cast at all: actors of its number cast its kind, and the run has its epoch
abbrev pub is_cast_ever : Numbers → ℕ → Vote → Bool
is_cast_ever c x vote = casts c.n x vote && nat_lt (epoch_of vote) c.epochs

-- the places of the shares of each round of lane x
abbrev pub share_places : ℕ → ℕ → ℕ → List Place
share_places x e rounds = map (λ r. place topics.Shared x e r) (range_with_len 0 rounds)

-- The places of all that the rule for a vote of actor x of node i looks at: a Val at the proposals of the desk, an Echo at the
-- Val from the sender, and so on. A decision looks at the shares of each round.
abbrev pub looked_at : Numbers → ℕ → ℕ → Vote → List Place
looked_at c i x (Val e m root shard branch) = place topics.FromDesk i e 0 ∷ []
looked_at c i x (Echo e root shard branch) = place topics.Handed x e i ∷ []
looked_at c i x (Ready e root) = place topics.Spread x e 0 ∷ []
looked_at c i x (Delivered e value) = place topics.Spread x e 0 ∷ []
looked_at c i x (Est e zero bit) = place topics.FromDesk i e 0 ∷ []
looked_at c i x (Est e (suc r) bit) = place topics.Shared x e r ∷ []
looked_at c i x (Bval e r bit) = place topics.Claimed x e r ∷ []
looked_at c i x (Aux e r bit) = place topics.Claimed x e r ∷ []
looked_at c i x (Conf e r vals) = place topics.Claimed x e r ∷ []
looked_at c i x (Pick e r vals) = place topics.Claimed x e r ∷ []
looked_at c i x (Decided e bit) = share_places x e c.rounds
looked_at c i x (NoMore e) = place topics.FromLanes i e 0 ∷ []
looked_at c i x (Closed e list) = place topics.FromLanes i e 0 ∷ []
looked_at c i x _ = []
