-- Tables of posts by their places, and what of them an actor hears.
use Rattle.std.specs.Prelude.{◌≡◌, ℕ, ◌<◌, ◌⊎◌, Bool, false, if◌then◌else◌, List, [], ◌∷◌, ◌++◌, length, Option, Some, None, Contains, map, filter_map, slice_get, vec_len, vec_capacity}
use Rattle.std.specs.BTreeMap.{BTreeMap, get, is_at}
use Rattle.std.specs.List.{flat_map}
use Rattle.std.specs.Option.{option_and_then}
use Rattle.hb_base.specs.Numbers.{Numbers}
use Rattle.hb_wire.specs.Addresses.{reaches}
use Rattle.hb_wire.specs.contracts.post.PostPartialEq.TheImpl.{ghosts as posts}
use Rattle.hb_wire.specs.declared.post.Post.{Post}
use Rattle.hb_wire.specs.declared.vote.Vote.{Vote}
use Rattle.hb_rules.specs.Hearing.{Hearing, hearing, name_at, spelled}
use Rattle.hb_rules.specs.Slots.{when}
use Rattle.post_judge.specs.declared.buckets.Bucket.{Bucket}
use Rattle.post_judge.specs.declared.place.Place.{Place}
use Rattle.post_judge.specs.contracts.place.PlaceOrd.TheImpl.{ghosts as places}
use Rattle.post_judge.specs.Places.{own_place, told_place, cast_place}

-- for each place the numbers of the posts there, in a history, and their votes
abbrev pub Table : Type 0
Table = BTreeMap Place Bucket

-- whether two posts are the same
abbrev pub same_post : Post → Post → Bool
same_post p q = posts.eq p q

-- whether a post is the same as this, if there is one
abbrev pub is_same : Post → Option Post → Bool
is_same post None = false
is_same post (Some other) = same_post other post

-- whether the post of a number is the same as this
abbrev pub is_post : List Post → Post → ℕ → Bool
is_post seen post k = is_same post (slice_get seen k)

-- whether two places are the same
abbrev pub same_place : Place → Place → Bool
same_place a b = is_at (places.cmp a) b

-- the numbers of a bucket, if there is one
abbrev pub numbers_in : Option Bucket → List ℕ
numbers_in None = []
numbers_in (Some bucket) = bucket.numbers.items

-- the votes of a bucket, if there is one
abbrev pub votes_in : Option Bucket → List Vote
votes_in None = []
votes_in (Some bucket) = bucket.votes.items

-- the numbers at a place
abbrev pub numbers_at : Table → Place → List ℕ
numbers_at table p = numbers_in (get places.cmp table p)

-- the votes at a place
abbrev pub votes_at : Table → Place → List Vote
votes_at table p = votes_in (get places.cmp table p)

-- a bucket with room for one post more
abbrev pub HasRoom : Option Bucket → Type 0
HasRoom None = ⊥
HasRoom (Some bucket) = (vec_len bucket.numbers < vec_capacity bucket.numbers) × (vec_len bucket.votes < vec_capacity bucket.votes)

-- at a place there is one
abbrev pub HasRoomAt : Table → Place → Type 0
HasRoomAt table p = HasRoom (get places.cmp table p)

-- the posts of a history that have these numbers
abbrev pub posts_of : List Post → List ℕ → List Post
posts_of seen numbers = filter_map (slice_get seen) numbers

-- the posts at a place
abbrev pub posts_at : List Post → Table → Place → List Post
posts_at seen table p = posts_of seen (numbers_at table p)

-- the vote that the post of a number spells, if there is one that does
abbrev pub spelled_at : Numbers → List Post → ℕ → Option Vote
spelled_at c seen k = option_and_then (spelled c) (slice_get seen k)

-- the votes that actor x of node i has cast at the place of a vote
abbrev pub own_votes : Numbers → ℕ → ℕ → Vote → List Post → Table → List Vote
own_votes c i x vote seen table = filter_map (spelled c) (posts_at seen table (own_place c.n i x vote))

-- what lies at a place, with more behind it where that is this one
abbrev pub added_at : {A : Type 0} → (Place → List A) → Option Place → List A → Place → List A
added_at old None more p = old p
added_at old (Some place) more p = if same_place place p then old p ++ more else old p

-- a number was put at its place, if it has one, and a vote with it
pub record Adds (old new : Table) (o : Option Place) (k : ℕ) (vote : Vote) : Type 0 where
  pub adds : (p : Place) → numbers_at new p ≡ added_at (numbers_at old) o (k ∷ []) p
  pub votes : (p : Place) → votes_at new p ≡ added_at (votes_at old) o (vote ∷ []) p

-- what actor x of node i hears of a post that spells this vote, or none, if the post reaches it
abbrev pub told_as : Numbers → ℕ → ℕ → Post → Option Vote → Option Hearing
told_as c i x post None = None
told_as c i x post (Some vote) = when (reaches c.n post i x) (hearing (name_at c x post) vote)

-- what it hears of a post at a place where it listens, if the post reaches it
abbrev pub told_to : Numbers → ℕ → ℕ → Post → Option Hearing
told_to c i x post = told_as c i x post (spelled c post)

-- what it hears of the posts at some places
abbrev pub told_from : Numbers → ℕ → ℕ → List Post → Table → List Place → List Hearing
told_from c i x seen table wanted = flat_map (λ p. filter_map (told_to c i x) (posts_at seen table p)) wanted

-- a post of the history that spells a vote, and has this place among what was cast or what is heard
pub record IsTold (c : Numbers) (seen : List Post) (p : Place) (post : Post) : Type 0 where
  pub stands : Contains seen post
  pub vote : Vote
  pub is : spelled c post ≡ Some vote
  pub placed : (cast_place c post vote ≡ Some p) ⊎ (told_place c post vote ≡ Some p)

-- at each place the table has the posts of the history that have it, and the vote of each
pub record AreTold (c : Numbers) (seen : List Post) (table : Table) : Type 0 where
  pub known : (p : Place) (k : ℕ) → Contains (numbers_at table p) k → k < length seen
  pub right : (p : Place) (post : Post) → Contains (posts_at seen table p) post → IsTold c seen p post
  pub all : (p : Place) (post : Post) → IsTold c seen p post → Contains (posts_at seen table p) post
  pub votes : (p : Place) → map Some (votes_at table p) ≡ map (spelled_at c seen) (numbers_at table p)
