-- By what an actor goes, and the votes that an actor may keep in its journal.
use Rattle.std.specs.Prelude.{◌≡◌, ℕ, ◌⊎◌, Bool, true, List, [], ◌∷◌, ◌++◌, Contains, bytes_eq}
use Rattle.std.specs.List.{AllByRecursion}
use Rattle.hb_base.specs.Numbers.{Numbers}
use Rattle.hb_wire.specs.declared.vote.Vote.{Vote}
use Rattle.hb_wire.specs.declared.vote.Vote.TheVariants.{Propose}
use Rattle.hb_wire.specs.declared.post.Post.{Post}
use Rattle.hb_rules.specs.Hearing.{Hearing, heard_in, heard_of, own_in}
use Rattle.hb_rules.specs.Rules.{MayCast}
use Rattle.hb_rules.specs.History.{HasSpelling}
use Rattle.hb_rules.specs.Pool.{pool_value}
use Rattle.hb_rules.specs.Same.{AreSame}
use Rattle.hb_rules.specs.Slots.{owed as owed_of}
use Rattle.hb_rules.specs.Owing.{slots_of}

-- the config, whose actor it is, the votes that it owes by its own votes and what it heard, and whether a vote is one that
-- its pool gives, by the own votes before it
pub record Terms : Type 0 where
  pub config : Numbers
  pub node : ℕ
  pub actor : ℕ
  pub owed : List Vote → List Hearing → List Vote
  pub proper : List Vote → Vote → Bool

-- whether a proposal has the value that the pool gives, by the own votes before it
abbrev pub is_proper : Numbers → List (List ℕ) → List Vote → Vote → Bool
is_proper c submitted own (Propose e value) = bytes_eq value (pool_value c submitted e own)
is_proper c submitted own _ = true

-- the terms of actor x of node i, where these transactions were submitted
abbrev pub terms_of : Numbers → List (List ℕ) → ℕ → ℕ → Terms
terms_of c submitted i x = record {
  config = c;
  node = i;
  actor = x;
  owed = λ own heard. owed_of (slots_of c submitted i x) own heard;
  proper = is_proper c submitted;
}

-- what the actor has cast in a history, what it hears of it, and what it heard of the posts with these numbers
abbrev pub cast_in : Terms → List Post → List Vote
cast_in t history = own_in t.config t.node t.actor history

abbrev pub heard_all : Terms → List Post → List Hearing
heard_all t history = heard_in t.config t.node t.actor history

abbrev pub heard_got : Terms → List Post → List ℕ → List Hearing
heard_got t history got = heard_of t.config t.node t.actor history got

-- votes of which each may be cast after those before it, by what was heard
abbrev pub AreCastable : Terms → List Hearing → List Vote → List Vote → Type 0
AreCastable t heard before [] = Unit {0}
AreCastable t heard before (vote ∷ votes) =
    MayCast t.config t.node t.actor before heard vote × AreCastable t heard (before ++ vote ∷ []) votes

-- votes of which each is proper after those before it
abbrev pub AreProper : Terms → List Vote → List Vote → Type 0
AreProper t before [] = Unit {0}
AreProper t before (vote ∷ votes) = (t.proper before vote ≡ true) × AreProper t (before ++ vote ∷ []) votes

-- votes of which each has a spelling
abbrev pub AreSpelled : Numbers → List Vote → Type 0
AreSpelled c votes = AllByRecursion (HasSpelling c) votes

-- what was heard has spellings
abbrev pub AreHeardSpelled : Numbers → List Hearing → Type 0
AreHeardSpelled c heard = AllByRecursion (λ h. HasSpelling c h.vote) heard

-- all that was heard is among the other
pub record AreAmong (some all : List Hearing) : Type 0 where
  pub each : (h : Hearing) → Contains some h → Contains all h

-- What holds of what is owed, where what was heard has spellings: it may be cast one after another where that was so of
-- what was cast, it is proper, and it has spellings; after it nothing is owed; own votes count by tests alone; and where
-- nothing is owed, nothing is owed once what was heard is forgotten.
pub record AreLawful (t : Terms) : Type 0 where
  pub castable : (own : List Vote) (some all : List Hearing) → AreHeardSpelled t.config some → AreAmong some all
      → AreCastable t all [] own → AreCastable t all own (t.owed own some)
  pub proper : (own : List Vote) (heard : List Hearing) → AreProper t own (t.owed own heard)
  pub spelled : (own : List Vote) (heard : List Hearing) → AreHeardSpelled t.config heard → AreSpelled t.config (t.owed own heard)
  pub rests : (own : List Vote) (heard : List Hearing) → t.owed (own ++ t.owed own heard) heard ≡ []
  pub same : (own other : List Vote) (heard : List Hearing) → AreSame own other → t.owed own heard ≡ t.owed other heard
  pub same_proper : (own other : List Vote) (vote : Vote) → AreSame own other → t.proper own vote ≡ t.proper other vote
  pub less : (own : List Vote) (heard : List Hearing) → t.owed own heard ≡ [] → t.owed own [] ≡ []

-- Votes that an actor may keep, by what it has seen: each may be cast and is proper after those before it, and has a
-- spelling; and unless there are none, nothing is owed by them alone.
pub record AreVotes (t : Terms) (seen : List Post) (votes : List Vote) : Type 0 where
  pub castable : AreCastable t (heard_all t seen) [] votes
  pub proper : AreProper t [] votes
  pub spelled : AreSpelled t.config votes
  pub rest : (votes ≡ []) ⊎ (t.owed votes [] ≡ [])
