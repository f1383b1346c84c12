-- What a lane owes, by its terms: lane j of node i.
use Rattle.std.proofs.Common.{◌≡◌, ◌⊎◌, ◌<◌, inl, inr, List, [], ◌∷◌, ◌++◌, sym, ap, subst, ◌∙◌, append-nil}
use Rattle.hb_base.specs.Numbers.{Numbers}
use Rattle.hb_wire.specs.declared.vote.Vote.{Vote}
use Rattle.hb_wire.specs.declared.vote.Vote.TheVariants.{Echo, Propose}
use Rattle.hb_wire.specs.declared.post.Post.{Post}
use Rattle.hb_rules.specs.Hearing.{Hearing}
use Rattle.hb_rules.specs.History.{HasSpelling}
use Rattle.hb_rules.specs.Slots.{Slot, IsIdle, IsOwed, owed}
use Rattle.hb_rules.specs.Terms.{AreVotes}
use Rattle.hb_rules.proofs.Passing.{IsOwed-unique, owed_idle, idle_owed}
use Rattle.hb_rules.proofs.DeskParts.{slots_of-lane}
use Rattle.hb_rules.proofs.LaneSlots.{lane-guarded, lane-owed}
use Rattle.rbc_core.specs.Broadcast.{IsShort}
use Rattle.lane_core.specs.Lane.{LaneView, slots_at, lane_terms, IsSameLane, Stands, Hears}
use Rattle.hb_rules.proofs.Starting.{lane_starts}

-- what a vote with a spelling carries is short
pub short_by : (c : Numbers) (vote : Vote) → HasSpelling c vote → IsShort vote
short_by c (Propose e value) fits = fits.fields.0.1
short_by c (Echo e root shard branch) fits = fits.fields.1.0.1
short_by c vote fits = tt

-- by its terms a lane owes what its slots make owed
owed-lane : (l : LaneView) (own : List Vote) (heard : List Hearing) → l.lane < l.config.n → (lane_terms l).owed own heard ≡ owed (slots_at l) own heard
owed-lane l own heard below = ap (λ (slots : List (Slot Vote Hearing)). owed slots own heard) (slots_of-lane l.config [] l.node l.lane below)

-- votes that its slots make owed are those that it owes by its terms
owed_is : (l : LaneView) (own : List Vote) (heard : List Hearing) (votes : List Vote) → l.lane < l.config.n → IsOwed (slots_at l) own heard votes
    → votes ≡ (lane_terms l).owed own heard
owed_is l own heard votes below is =
    IsOwed-unique (slots_at l) own heard votes (owed (slots_at l) own heard) is (lane-owed l.config l.node l.lane own heard)
    ∙ sym (owed-lane l own heard below)

-- a hearing
pub hears_owed : (old new : LaneView) (h : Hearing) (before after : List Vote) → old.lane < old.config.n → Hears old new h before after
    → (own : List Vote) (heard : List Hearing) → Stands old own heard → after ≡ before ++ (lane_terms old).owed own (heard ++ h ∷ [])
hears_owed old new h before after below hears own heard stands =
    hears.due
    ∙ ap (λ (votes : List Vote). before ++ votes) (owed_is old own (heard ++ h ∷ []) hears.votes below (hears.owed own heard stands))

pub hears_stands : (old new : LaneView) (h : Hearing) (before after : List Vote) → old.lane < old.config.n → Hears old new h before after
    → (own : List Vote) (heard : List Hearing) → Stands old own heard
    → Stands new (own ++ (lane_terms old).owed own (heard ++ h ∷ [])) (heard ++ h ∷ [])
hears_stands old new h before after below hears own heard stands =
    subst (λ (votes : List Vote). Stands new (own ++ votes) (heard ++ h ∷ []))
    (owed_is old own (heard ++ h ∷ []) hears.votes below (hears.owed own heard stands)) (hears.stands own heard stands)

-- votes that a lane may keep leave nothing owed
pub kept_idle : (l : LaneView) (seen : List Post) (own : List Vote) → l.lane < l.config.n → AreVotes (lane_terms l) seen own → IsIdle (slots_at l) own []
kept_idle l seen own below votes = by votes.rest
  where
    by : ((own ≡ []) ⊎ ((lane_terms l).owed own [] ≡ [])) → IsIdle (slots_at l) own []
    by (inl none) = subst (λ (own : List Vote). IsIdle (slots_at l) own []) (sym none) (lane_starts l.config l.node l.lane)
    by (inr rests) =
        idle_owed (slots_at l) (lane-guarded l.config l.node l.lane) own [] (sym (owed-lane l own [] below) ∙ rests)

-- so what it owes of itself is nothing
kept_owes : (l : LaneView) (own : List Vote) → l.lane < l.config.n → IsIdle (slots_at l) own [] → (lane_terms l).owed own [] ≡ []
kept_owes l own below idle = owed-lane l own [] below ∙ owed_idle (slots_at l) own [] idle

pub kept_due : (l : LaneView) (own due : List Vote) → l.lane < l.config.n → IsIdle (slots_at l) own [] → due ≡ due ++ (lane_terms l).owed own []
kept_due l own due below idle =
    sym (ap (λ (votes : List Vote). due ++ votes) (kept_owes l own below idle) ∙ append-nil due)

pub kept_stands : (l new : LaneView) (own : List Vote) → l.lane < l.config.n → IsIdle (slots_at l) own [] → Stands new own []
    → Stands new (own ++ (lane_terms l).owed own []) []
kept_stands l new own below idle stands =
    subst (λ (own : List Vote). Stands new own []) (sym (ap (λ (votes : List Vote). own ++ votes) (kept_owes l own below idle) ∙ append-nil own)) stands

-- the terms stay
pub terms_same : (old new : LaneView) → IsSameLane old new → lane_terms new ≡ lane_terms old
terms_same old new same = ap lane_terms same
