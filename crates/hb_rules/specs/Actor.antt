-- Actors as contracts see them.
use Rattle.std.specs.Prelude.{◌≡◌, ℕ, ◌+◌, ◌≤◌, Bool, true, false, List, [], ◌∷◌, ◌++◌, length, if◌then◌else◌, Contains, Some, slice_get}
use Rattle.hb_base.specs.Numbers.{Numbers}
use Rattle.disk_model.specs.Supply.{Supply}
use Rattle.hb_wire.specs.declared.vote.Vote.{Vote}
use Rattle.hb_wire.specs.declared.post.Post.{Post}
use Rattle.hb_wire.specs.Addresses.{reaches}
use Rattle.hb_rules.specs.Hearing.{is_by}
use Rattle.hb_rules.specs.Same.{count}
use Rattle.hb_rules.specs.Terms.{Terms, cast_in, heard_got}

-- what is known of an actor: by what it goes, the power and the faults of its disk, whether it was never started, whether
-- it is live, the numbers of the posts that it received, and how often it was switched on again
pub record ActorView : Type 0 where
  pub terms : Terms
  pub supply : Supply
  pub faults : ℕ
  pub fresh : Bool
  pub live : Bool
  pub got : List ℕ
  pub restarts : ℕ

-- the restarts that were made and those that are still to come
abbrev pub budget : ℕ → Supply → ℕ
budget restarts supply = restarts + supply.stops + (if supply.off then 1 else 0)

-- how an actor goes on in a call
pub record Goes (old new : ActorView) : Type 0 where
  pub terms : new.terms ≡ old.terms
  pub planned : new.supply.planned ≡ old.supply.planned
  pub stops : new.supply.stops ≤ old.supply.stops
  pub calls : old.supply.calls ≤ new.supply.calls
  pub faults : old.faults ≤ new.faults
  pub restarts : old.restarts ≤ new.restarts
  pub budget : budget new.restarts new.supply ≤ budget old.restarts old.supply
  -- where its disk is on after the call, no stop was met in it
  pub kept : new.supply.off ≡ false → new.supply.stops ≡ old.supply.stops
  pub begun : new.fresh ≡ false

-- it was not switched on, and its disk was left alone
pub record IsStillOff (old new : ActorView) : Type 0 where
  pub restarts : new.restarts ≡ old.restarts
  pub got : new.got ≡ old.got
  pub off : new.supply.off ≡ true
  pub supply : new.supply ≡ old.supply
  pub faults : new.faults ≡ old.faults

-- it was switched on, and has forgotten what it received
pub record IsOnAgain (old new : ActorView) : Type 0 where
  pub restarts : new.restarts ≡ old.restarts + 1
  pub got : new.got ≡ []

-- its disk has not failed, has its power as before, and met no stop
pub record IsUnfailed (old new : ActorView) : Type 0 where
  pub no_fault : new.faults ≡ old.faults
  pub power : new.supply.off ≡ old.supply.off
  pub stops : new.supply.stops ≡ old.supply.stops

-- its disk has not failed, has kept its power if it was switched on again, and met no stop
pub record IsUnfailedAgain (old new : ActorView) : Type 0 where
  pub no_fault : new.faults ≡ old.faults
  pub power : new.restarts ≡ old.restarts + 1 → new.supply.off ≡ false
  pub stops : new.supply.stops ≡ old.supply.stops

-- each vote that the actor had cast it has cast once more
pub record AreCastAgain (t : Terms) (old new : List Post) : Type 0 where
  pub each : (vote : Vote) → 1 ≤ count vote (cast_in t old) → count vote (cast_in t new) ≡ count vote (cast_in t old) + 1

-- each vote stands so often at most among what the actor has cast
pub record IsFew (t : Terms) (seen : List Post) (most : ℕ) : Type 0 where
  pub each : (vote : Vote) → count vote (cast_in t seen) ≤ most

-- nothing is owed, by what the actor has cast and the posts that it received
abbrev pub OwesNothing : Terms → List Post → List ℕ → Type 0
OwesNothing t seen got = t.owed (cast_in t seen) (heard_got t seen got) ≡ []

-- it has cast nothing, and left its disk alone; its seat has seen `before`, and then `after`
pub record LeavesAlone (old new : ActorView) (before after : List Post) : Type 0 where
  pub cast : cast_in old.terms after ≡ cast_in old.terms before
  pub supply : new.supply ≡ old.supply
  pub faults : new.faults ≡ old.faults

-- a post that stands and reaches actor x of node i
pub record ReachesActor (c : Numbers) (seen : List Post) (i x k : ℕ) : Type 0 where
  pub post : Post
  pub stands : slice_get seen k ≡ Some post
  pub reaches : reaches c.n post i x ≡ true

-- all that was received stands in what was seen, and reaches the actor
abbrev pub AreSeen : Terms → List Post → List ℕ → Type 0
AreSeen t seen got = (k : ℕ) → Contains got k → ReachesActor t.config seen t.node t.actor k

-- the numbers, in order, of those of some posts that are of this actor, the first of the posts being number k
abbrev pub numbers_from : Terms → ℕ → List Post → List ℕ
numbers_from t k [] = []
numbers_from t k (post ∷ posts) = (if is_by t.node t.actor post then k ∷ [] else []) ++ numbers_from t (k + 1) posts

-- the history went on, and the numbers of the actor's own posts by which it did were appended
pub record Told (t : Terms) (old new : List Post) (before after : List ℕ) : Type 0 where
  pub added : List Post
  pub grown : new ≡ old ++ added
  pub told : after ≡ before ++ numbers_from t (length old) added
