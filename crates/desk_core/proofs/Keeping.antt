-- Votes that a desk may keep are in order.
use Rattle.std.proofs.Common.{◌≡◌, ◌⊎◌, ℕ, ◌<◌, List, [], ◌∷◌, ◌++◌, inl, inr, sym, subst, ◌∙◌, arith, nat_lt, Contains}
use Rattle.std.proofs.lemmas.Bool.{ltb-true, and_parts}
use Rattle.std.proofs.lemmas.List.Elements.{All-contains_itself, All-weaker, recursion_from_All}
use Rattle.hb_base.specs.Numbers.{Numbers}
use Rattle.hb_wire.specs.declared.vote.Vote.{Vote}
use Rattle.hb_wire.specs.declared.post.Post.{Post}
use Rattle.hb_wire.specs.Votes.{epoch_of}
use Rattle.hb_rules.specs.Hearing.{Hearing, heard_in, is_below, round_of}
use Rattle.hb_rules.specs.Desk.{MayAtDesk}
use Rattle.hb_rules.specs.Owing.{desk_slots}
use Rattle.hb_rules.specs.Rules.{MayCast}
use Rattle.hb_rules.specs.Slots.{IsIdle, IsOwed, owed}
use Rattle.hb_rules.specs.Terms.{terms_of, AreVotes, AreCastable}
use Rattle.hb_rules.specs.Turns.{InTurn}
use Rattle.hb_rules.proofs.Cast.{heard_from}
use Rattle.epoch_core.specs.Epochs.{AreInOrder, AreWithin}
use Rattle.desk_core.proofs.Owing.{owed-desk, idle_by_owed}

-- what is heard of a history is of epochs that the run has
heard_within : (c : Numbers) (i x : ℕ) (history : List Post) → AreWithin c (heard_in c i x history)
heard_within c i x history =
    let heard = heard_in c i x history in
    recursion_from_All (λ (h : Hearing). epoch_of h.vote < c.epochs) heard
    (All-weaker (Contains heard) (λ (h : Hearing). epoch_of h.vote < c.epochs) at heard (All-contains_itself heard))
  where
    at : (h : Hearing) → Contains (heard_in c i x history) h → epoch_of h.vote < c.epochs
    at h stands =
        let from = heard_from c i x history h stands in
        let parts = and_parts (nat_lt (epoch_of from.2.vote) c.epochs) (is_below c.rounds (round_of from.2.vote)) from.2.within in
        subst (λ (heard : Hearing). epoch_of heard.vote < c.epochs) from.2.hearing_is (ltb-true (epoch_of from.2.vote) c.epochs parts.0)

-- votes that actor n may cast one after another a desk may
at_desk : (c : Numbers) (submitted : List (List ℕ)) (i : ℕ) (heard : List Hearing) (before votes : List Vote)
    → AreCastable (terms_of c submitted i c.n) heard before votes → InTurn (λ own vote. MayAtDesk c own heard vote) before votes
at_desk c submitted i heard before [] may = tt
at_desk c submitted i heard before (vote ∷ votes) may =
    (one may.0, at_desk c submitted i heard (before ++ vote ∷ []) votes may.1)
  where
    one : MayCast c i c.n before heard vote → MayAtDesk c before heard vote
    one (inl lane) = absurd (omega (arith, lane.0))
    one (inr desk) = desk.1

-- votes that a desk may keep are in order
pub kept_in_order : (c : Numbers) (submitted : List (List ℕ)) (i : ℕ) (seen : List Post) (own : List Vote) → 0 < c.n
    → ((c : Numbers) (submitted : List (List ℕ)) (heard : List Hearing) (own : List Vote) → 0 < c.n → AreWithin c heard
    → InTurn (λ own vote. MayAtDesk c own heard vote) [] own → IsIdle (desk_slots c submitted) own [] → AreInOrder c own)
    → ((c : Numbers) → AreInOrder c [])
    → IsOwed (desk_slots c submitted) own [] (owed (desk_slots c submitted) own [])
    → AreVotes (terms_of c submitted i c.n) seen own → AreInOrder c own
kept_in_order c submitted i seen own some kept none is votes = by votes.rest
  where
    by : ((own ≡ []) ⊎ ((terms_of c submitted i c.n).owed own [] ≡ [])) → AreInOrder c own
    by (inl empty) = subst (AreInOrder c) (sym empty) (none c)
    by (inr rests) =
        kept c submitted (heard_in c i c.n seen) own some (heard_within c i c.n seen)
        (at_desk c submitted i (heard_in c i c.n seen) [] own votes.castable)
        (idle_by_owed (desk_slots c submitted) own [] is (sym (owed-desk c submitted i own []) ∙ rests))
