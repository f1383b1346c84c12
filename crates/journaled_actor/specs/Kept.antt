-- What an actor keeps in its journal: the votes that it may have posted, and maybe more. The letters: t are the actor's
-- terms, seen is what its seat has seen.
use Rattle.std.specs.Prelude.{◌≡◌, ℕ, ◌+◌, ◌≤◌, Bool, true, false, List, [], ◌++◌, length, take, Result, IsErrOf}
use Rattle.hb_base.specs.Numbers.{Numbers}
use Rattle.hb_base.specs.Limits.{most_stops}
use Rattle.disk_model.specs.Image.{Image}
use Rattle.disk_model.specs.Supply.{Supply}
use Rattle.hb_wire.specs.declared.vote.Vote.{Vote}
use Rattle.hb_wire.specs.declared.post.Post.{Post}
use Rattle.vote_journal.specs.Text.{IsSound, text_of, live_entries}
use Rattle.std.specs.Option.{option_to_list}
use Rattle.hb_rules.specs.Hearing.{Hearing, hearing_of}
pub use Rattle.hb_rules.specs.Keeping.{Covers, Turn}
use Rattle.hb_rules.specs.Same.{firsts}
use Rattle.hb_rules.specs.Terms.{Terms, AreVotes, AreLawful, cast_in}
use Rattle.hb_rules.specs.Actor.{ActorView, IsFew, AreSeen, budget}
use Rattle.hb_rules.specs.declared.actor.ActorFault.{ActorFault}
use Rattle.hb_rules.specs.declared.actor.ActorFault.TheVariants.{Full}
use Rattle.journaled_actor.specs.Folding.{AreFew}
use Rattle.journaled_actor.specs.Payload.{payload}

-- a seat of this config, node and actor is the one of the terms
pub record IsOf (t : Terms) (config : Numbers) (node actor : ℕ) : Type 0 where
  pub config_is : config ≡ t.config
  pub node_is : node ≡ t.node
  pub actor_is : actor ≡ t.actor

-- a sound image of a journal of such votes, in few entries
pub record IsCovered (t : Terms) (seen : List Post) (image : Image) : Type 0 where
  pub sound : IsSound image
  pub votes : List Vote
  pub says : text_of image ≡ payload votes
  pub few : AreFew (length (live_entries image)) (text_of image)
  pub covers : Covers t seen votes

-- whatever a crash leaves, it has all votes that the actor has cast
abbrev pub IsSafe : Terms → List Post → (Image → Type 0) → Type 0
IsSafe t seen may_leave = (image : Image) → may_leave image → IsCovered t seen image

-- a journal of this text has these votes, and the actor has cast each of them
pub record IsAll (t : Terms) (seen : List Post) (text : List ℕ) (votes : List Vote) : Type 0 where
  pub says : text ≡ payload votes
  pub are : AreVotes t seen votes
  pub complete : firsts (cast_in t seen) ≡ votes

-- The actor works: each vote of its journal is cast, its core stands for these votes and for what was heard, and nothing
-- is owed.
pub record IsOpen (t : Terms) (seen : List Post) (text : List ℕ) (stands : List Vote → List Hearing → Type 0) (heard : List Hearing) : Type 0 where
  pub votes : List Vote
  pub all : IsAll t seen text votes
  pub holds : stands votes heard
  pub idle : t.owed votes heard ≡ []

-- what the actor heard, and what it hears of a post
abbrev pub heard_with : Terms → List Hearing → Post → List Hearing
heard_with t heard post = heard ++ option_to_list (hearing_of t.config t.node t.actor post)

-- the votes that are owed once a post is heard become due, and the core stands for them
pub record HearsPost (t : Terms) (post : Post) (own : List Vote) (heard : List Hearing) (before after : List Vote)
    (stands : List Vote → List Hearing → Type 0) : Type 0 where
  pub due : after ≡ before ++ t.owed own (heard_with t heard post)
  pub holds : stands (own ++ t.owed own (heard_with t heard post)) (heard_with t heard post)

-- the votes of these that were cast are the first of them
pub record CastSome (t : Terms) (old new : List Post) (votes : List Vote) : Type 0 where
  pub count : ℕ
  pub cast : cast_in t new ≡ cast_in t old ++ take count votes

-- nothing was cast, so that no book was too full for it
pub record CastsNothing {T : Type 0} (t : Terms) (old new : List Post) (result : Result T ActorFault) : Type 0 where
  pub not_full : IsErrOf result Full → ⊥
  pub cast : cast_in t new ≡ cast_in t old

-- What holds of an actor in every state: whatever a crash leaves, it has what was cast; nothing was cast more often than
-- once for each time that the actor began; and while it works, `is_open` holds. Before it is started, and while it works, its
-- disk is on. Before it is started no image has a vote.
pub record IsKept (t : Terms) (config : Numbers) (node actor : ℕ) (seen : List Post) (may_leave : Image → Type 0) (supply : Supply)
    (is_open : Type 0) (is_fresh is_live : Bool) (got : List ℕ) (restarts : ℕ) : Type 0 where
  pub is : IsOf t config node actor
  pub lawful : AreLawful t
  pub safe : IsSafe t seen may_leave
  pub few : IsFew t seen (1 + restarts)
  pub bound : budget restarts supply ≤ most_stops
  pub received : AreSeen t seen got
  pub fresh : is_fresh ≡ true → (got ≡ []) × (restarts ≡ 0) × (cast_in t seen ≡ [])
  pub live : is_live ≡ true → is_open
  pub fresh_on : is_fresh ≡ true → supply.off ≡ false
  pub fresh_empty : is_fresh ≡ true → (image : Image) → may_leave image → text_of image ≡ []
  pub live_on : is_live ≡ true → supply.off ≡ false

-- the parts of an actor that clauses see
pub record ActorParts (S D C : Type 0) : Type 0 where
  pub seat : S
  pub disk : D
  pub core : C
  pub fresh : Bool
  pub live : Bool
  pub got : List ℕ
  pub restarts : ℕ

-- what is known of an actor of these parts
abbrev pub actor_view : {S D C : Type 0} → (C → Terms) → (D → Supply) → (D → ℕ) → ActorParts S D C → ActorView
actor_view terms supply faults a = record {
  terms = terms a.core;
  supply = supply a.disk;
  faults = faults a.disk;
  fresh = a.fresh;
  live = a.live;
  got = a.got;
  restarts = a.restarts;
}
