-- The slots of a lane: those of its broadcast and those of its agreement, of all epochs.
use Rattle.std.proofs.Common.{◌≡◌, ℕ, ◌<◌, true, false, ◌==◌, inl, inr, List, [], ◌∷◌, ◌++◌, sym, ◌∙◌}
use Rattle.std.specs.List.{AllByRecursion}
use Rattle.std.proofs.lemmas.Bool.{and_parts, or_cases, eqb-true, ne_eqb}
use Rattle.hb_base.specs.Numbers.{Numbers, AreSound}
use Rattle.hb_wire.specs.Votes.{epoch_of}
use Rattle.hb_wire.specs.declared.vote.Vote.{Vote}
use Rattle.hb_wire.specs.declared.vote.Vote.TheVariants.{Val, Echo, Ready, Delivered, Est, Bval, Aux, Conf, Pick, Coin, Decided, Propose, NoMore}
use Rattle.hb_rules.specs.Claims.{is_any_delivery, is_any_proposal, is_no_more}
use Rattle.hb_rules.specs.Hearing.{Hearing}
use Rattle.hb_rules.specs.History.{HasSpelling}
use Rattle.hb_rules.specs.Parts.{part_of, is_broadcast, is_agreement, in_broadcast, heard_in_broadcast, in_agreement, read_in_agreement, heard_in_agreement, in_epoch, heard_in_epoch}
use Rattle.hb_rules.specs.Broadcast.{MayBroadcast}
use Rattle.hb_rules.specs.Agreement.{MayAgree}
use Rattle.hb_rules.specs.Rules.{MayInPart, MayCast}
use Rattle.hb_rules.specs.Slots.{Slot, pass, IsIdle, IsOwed, owed, AreRows, IsPart, IsGuarded, IsForgetful}
use Rattle.hb_rules.specs.Turns.{InTurn, IsAllowedBy}
use Rattle.hb_rules.specs.Tested.{IsTested}
use Rattle.hb_rules.specs.BroadcastRows.{broadcast_rows}
use Rattle.hb_rules.specs.AgreementRows.{agreement_rows}
use Rattle.hb_rules.specs.Owing.{broadcast_slots, agreement_slots, lane_slots}
use Rattle.hb_rules.specs.Terms.{AreHeardSpelled, AreSpelled, AreAmong}
use Rattle.hb_rules.proofs.Lists.{AllByRecursion-append, AllByRecursion-weaker}
use Rattle.hb_rules.proofs.Passing.{HasMade, owed_is_owed, IsOwed-InTurn, IsOwed-all}
use Rattle.hb_rules.proofs.Rows.{AreRows-wider, by_rows-all, by_rows-hold, owed_by_both}
use Rattle.hb_rules.proofs.BroadcastParts.{some_only, broadcast-parts, broadcast-plain, broadcast-guarded, broadcast-forgets, broadcast-tested}
use Rattle.hb_rules.proofs.BroadcastSlots.{broadcast-allowed, broadcast-spelled}
use Rattle.hb_rules.proofs.AgreementParts.{agreement-parts, agreement-guarded, agreement-forgets, agreement-tested}
use Rattle.hb_rules.proofs.AgreementSlots.{agreement-allowed, agreement-spelled}

-- ---- each slot looks at its epoch alone

broadcast_epoch : (e : ℕ) (vote : Vote) → in_broadcast e vote ≡ true → in_epoch e vote ≡ true
broadcast_epoch e vote h = (and_parts (is_broadcast (part_of vote)) (epoch_of vote == e) h).1

agreement_epoch : (e : ℕ) (vote : Vote) → in_agreement e vote ≡ true → in_epoch e vote ≡ true
agreement_epoch e vote h = (and_parts (is_agreement (part_of vote)) (epoch_of vote == e) h).1

proposal_epoch : (e : ℕ) (vote : Vote) → is_any_proposal e vote ≡ true → in_epoch e vote ≡ true
proposal_epoch e (Propose d value) h = some_only (d == e) value h
proposal_epoch e vote h = absurd (cc (h))

delivery_epoch : (e : ℕ) (vote : Vote) → is_any_delivery e vote ≡ true → in_epoch e vote ≡ true
delivery_epoch e (Delivered d value) h = some_only (d == e) value h
delivery_epoch e vote h = absurd (cc (h))

no_more_epoch : (e : ℕ) (vote : Vote) → is_no_more e vote ≡ true → in_epoch e vote ≡ true
no_more_epoch e (NoMore d) h = h
no_more_epoch e vote h = absurd (cc (h))

broadcast_heard : (e : ℕ) (h : Hearing) → heard_in_broadcast e h ≡ true → heard_in_epoch e h ≡ true
broadcast_heard e h heard = elim (or_cases (in_broadcast e h.vote) (is_any_proposal e h.vote) heard) [
  | inl of ↦ broadcast_epoch e h.vote of
  | inr of ↦ proposal_epoch e h.vote of
]

agreement_read : (e : ℕ) (vote : Vote) → read_in_agreement e vote ≡ true → in_epoch e vote ≡ true
agreement_read e vote read = elim (or_cases (in_agreement e vote) (is_any_delivery e vote) read) [
  | inl of ↦ agreement_epoch e vote of
  | inr of ↦ delivery_epoch e vote of
]

agreement_heard : (e : ℕ) (h : Hearing) → heard_in_agreement e h ≡ true → heard_in_epoch e h ≡ true
agreement_heard e h heard = elim (or_cases (in_agreement e h.vote) (is_no_more e h.vote) heard) [
  | inl of ↦ agreement_epoch e h.vote of
  | inr of ↦ no_more_epoch e h.vote of
]

pub lane-parts : (c : Numbers) (i j : ℕ) → AreRows in_epoch heard_in_epoch in_epoch (broadcast_rows c i j ++ agreement_rows c i j)
lane-parts c i j =
    AllByRecursion-append
    (λ (row : ℕ → List (Slot Vote Hearing)). (k : ℕ) → AllByRecursion (IsPart (in_epoch k) (heard_in_epoch k) (in_epoch k)) (row k))
    (broadcast_rows c i j) (agreement_rows c i j)
    (AreRows-wider in_broadcast in_epoch heard_in_broadcast heard_in_epoch in_broadcast in_epoch (broadcast_rows c i j)
    broadcast_epoch broadcast_heard broadcast_epoch (broadcast-parts c i j))
    (AreRows-wider read_in_agreement in_epoch heard_in_agreement heard_in_epoch in_agreement in_epoch (agreement_rows c i j)
    agreement_read agreement_heard agreement_epoch (agreement-parts c i j))

-- ---- what one hearing makes owed

one_epoch : (j k d : ℕ) → (j ≡ k → ⊥) → (d == j) ≡ true → (d == k) ≡ false
one_epoch j k d other h = ne_eqb d k (λ same. other (sym (eqb-true d j h) ∙ same))

pub lane_hears : (c : Numbers) (i j : ℕ) (own : List Vote) (heard : List Hearing) (h : Hearing) (votes : List Vote) → epoch_of h.vote < c.epochs
    → IsIdle (lane_slots c i j) own heard
    → IsOwed (agreement_slots c i j (epoch_of h.vote)) (own ++ pass (broadcast_slots c i j (epoch_of h.vote)) own (heard ++ h ∷ [])) (heard ++ h ∷ []) votes
    → IsOwed (lane_slots c i j) own (heard ++ h ∷ []) (pass (broadcast_slots c i j (epoch_of h.vote)) own (heard ++ h ∷ []) ++ votes)
lane_hears c i j own heard h votes below idle owed =
    owed_by_both in_epoch heard_in_epoch in_epoch (broadcast_rows c i j) (agreement_rows c i j) (lane-parts c i j) (broadcast-plain c i j)
    (λ j k vote other made. one_epoch j k (epoch_of vote) other made)
    c.epochs (epoch_of h.vote) own heard h votes below (λ k other. ne_eqb (epoch_of h.vote) k (λ same. other (sym same))) idle owed

-- ---- slots of both parts, of all epochs

pub lane_hold : (P : Slot Vote Hearing → Type 0) (c : Numbers) (i j : ℕ) → AllByRecursion (λ row. (e : ℕ) → AllByRecursion P (row e)) (broadcast_rows c i j)
    → AllByRecursion (λ row. (e : ℕ) → AllByRecursion P (row e)) (agreement_rows c i j)
    → AllByRecursion P (lane_slots c i j)
lane_hold P c i j one two =
    by_rows-hold P c.epochs (broadcast_rows c i j ++ agreement_rows c i j)
    (AllByRecursion-append (λ (row : ℕ → List (Slot Vote Hearing)). (e : ℕ) → AllByRecursion P (row e)) (broadcast_rows c i j) (agreement_rows c i j) one two)

pub lane-guarded : (c : Numbers) (i j : ℕ) → AllByRecursion IsGuarded (lane_slots c i j)
lane-guarded c i j = lane_hold IsGuarded c i j (broadcast-guarded c i j) (agreement-guarded c i j)

pub lane-forgets : (c : Numbers) (i j : ℕ) → AllByRecursion IsForgetful (lane_slots c i j)
lane-forgets c i j = lane_hold IsForgetful c i j (broadcast-forgets c i j) (agreement-forgets c i j)

pub lane-tested : (c : Numbers) (i j : ℕ) → AllByRecursion IsTested (lane_slots c i j)
lane-tested c i j = lane_hold IsTested c i j (broadcast-tested c i j) (agreement-tested c i j)

pub lane-owed : (c : Numbers) (i j : ℕ) (own : List Vote) (heard : List Hearing)
    → IsOwed (lane_slots c i j) own heard (owed (lane_slots c i j) own heard)
lane-owed c i j own heard = owed_is_owed (lane_slots c i j) (lane-guarded c i j) own heard

-- ---- owed votes may be cast

broadcast_part : (c : Numbers) (i j : ℕ) (own : List Vote) (heard : List Hearing) (vote : Vote) → MayBroadcast c i j own heard vote
    → MayInPart (part_of vote) c i j own heard vote
broadcast_part c i j own heard (Val e m root shard branch) may = may
broadcast_part c i j own heard (Echo e root shard branch) may = may
broadcast_part c i j own heard (Ready e root) may = may
broadcast_part c i j own heard (Delivered e value) may = may
broadcast_part c i j own heard vote may = absurd may

agreement_part : (c : Numbers) (i j : ℕ) (own : List Vote) (heard : List Hearing) (vote : Vote) → MayAgree c i j own heard vote
    → MayInPart (part_of vote) c i j own heard vote
agreement_part c i j own heard (Est e r b) may = may
agreement_part c i j own heard (Bval e r b) may = may
agreement_part c i j own heard (Aux e r b) may = may
agreement_part c i j own heard (Conf e r vals) may = may
agreement_part c i j own heard (Pick e r vals) may = may
agreement_part c i j own heard (Coin e r share salt branch) may = may
agreement_part c i j own heard (Decided e b) may = may
agreement_part c i j own heard vote may = absurd may

-- slots whose votes may be cast by one rule may be cast by another that allows as much
allowed_rows : (May Other : List Vote → Vote → Type 0) (heard : List Hearing) (rows : List (ℕ → List (Slot Vote Hearing)))
    → ((own : List Vote) (vote : Vote) → May own vote → Other own vote)
    → AllByRecursion (λ row. (e : ℕ) → AllByRecursion (IsAllowedBy May heard) (row e)) rows
    → AllByRecursion (λ row. (e : ℕ) → AllByRecursion (IsAllowedBy Other heard) (row e)) rows
allowed_rows May Other heard rows more all =
    AllByRecursion-weaker (λ (row : ℕ → List (Slot Vote Hearing)). (e : ℕ) → AllByRecursion (IsAllowedBy May heard) (row e))
    (λ (row : ℕ → List (Slot Vote Hearing)). (e : ℕ) → AllByRecursion (IsAllowedBy Other heard) (row e)) rows
    (λ row holds e.
    AllByRecursion-weaker (IsAllowedBy May heard) (IsAllowedBy Other heard) (row e)
    (λ slot by. record { allowed = λ own vote empty some. more own vote (by.allowed own vote empty some) }) (holds e))
    all

pub lane-allowed : (c : Numbers) → AreSound c → (i j : ℕ) → j < c.n → (some all : List Hearing) → AreHeardSpelled c some → AreAmong some all
    → AllByRecursion (IsAllowedBy (λ own vote. MayCast c i j own all vote) some) (lane_slots c i j)
lane-allowed c sound i j below some all spelled among =
    lane_hold (IsAllowedBy (λ own vote. MayCast c i j own all vote) some) c i j
    (allowed_rows (λ own vote. MayBroadcast c i j own all vote) (λ own vote. MayCast c i j own all vote) some (broadcast_rows c i j)
    (λ own vote may. inl (below, broadcast_part c i j own all vote may)) (broadcast-allowed c sound i j some all spelled among))
    (allowed_rows (λ own vote. MayAgree c i j own all vote) (λ own vote. MayCast c i j own all vote) some (agreement_rows c i j)
    (λ own vote may. inl (below, agreement_part c i j own all vote may)) (agreement-allowed c sound i j some all spelled among))

-- what a lane owes it may cast in turn
pub lane_in_turn : (c : Numbers) → AreSound c → (i j : ℕ) → j < c.n → (own : List Vote) (some all : List Hearing) (votes : List Vote)
    → AreHeardSpelled c some → AreAmong some all → IsOwed (lane_slots c i j) own some votes → InTurn (λ own vote. MayCast c i j own all vote) own votes
lane_in_turn c sound i j below own some all votes spelled among owed =
    IsOwed-InTurn (λ own vote. MayCast c i j own all vote) some (lane_slots c i j) (lane-allowed c sound i j below some all spelled among) own votes owed

-- ---- owed votes have spellings

made_below : (c : Numbers) (heard : List Hearing) (rows : List (ℕ → List (Slot Vote Hearing)))
    → AllByRecursion (λ row. (e : ℕ) → AllByRecursion (λ slot. e < c.epochs → HasMade (HasSpelling c) heard slot) (row e)) rows
    → AllByRecursion (λ row. (e : ℕ) → e < c.epochs → AllByRecursion (HasMade (HasSpelling c) heard) (row e)) rows
made_below c heard rows all =
    AllByRecursion-weaker
    (λ (row : ℕ → List (Slot Vote Hearing)). (e : ℕ) → AllByRecursion (λ slot. e < c.epochs → HasMade (HasSpelling c) heard slot) (row e))
    (λ (row : ℕ → List (Slot Vote Hearing)). (e : ℕ) → e < c.epochs → AllByRecursion (HasMade (HasSpelling c) heard) (row e)) rows
    (λ row holds e below.
    AllByRecursion-weaker (λ slot. e < c.epochs → HasMade (HasSpelling c) heard slot) (HasMade (HasSpelling c) heard) (row e)
    (λ slot made. made below) (holds e))
    all

pub lane-spelled : (c : Numbers) → AreSound c → (i j : ℕ) → i < c.n → (heard : List Hearing) → AreHeardSpelled c heard
    → AllByRecursion (HasMade (HasSpelling c) heard) (lane_slots c i j)
lane-spelled c sound i j node heard spelled =
    by_rows-all (HasMade (HasSpelling c) heard) c.epochs (broadcast_rows c i j ++ agreement_rows c i j)
    (AllByRecursion-append
    (λ (row : ℕ → List (Slot Vote Hearing)). (e : ℕ) → e < c.epochs → AllByRecursion (HasMade (HasSpelling c) heard) (row e))
    (broadcast_rows c i j) (agreement_rows c i j)
    (AllByRecursion-weaker (λ (row : ℕ → List (Slot Vote Hearing)). (e : ℕ) → AllByRecursion (HasMade (HasSpelling c) heard) (row e))
    (λ (row : ℕ → List (Slot Vote Hearing)). (e : ℕ) → e < c.epochs → AllByRecursion (HasMade (HasSpelling c) heard) (row e)) (broadcast_rows c i j)
    (λ row holds e below. holds e) (broadcast-spelled c sound i j heard spelled))
    (made_below c heard (agreement_rows c i j) (agreement-spelled c sound i j node heard)))

-- what a lane owes has spellings
pub lane_spelled : (c : Numbers) → AreSound c → (i j : ℕ) → i < c.n → (own : List Vote) (heard : List Hearing) (votes : List Vote)
    → AreHeardSpelled c heard → IsOwed (lane_slots c i j) own heard votes → AreSpelled c votes
lane_spelled c sound i j node own heard votes spelled owed =
    IsOwed-all (HasSpelling c) heard (lane_slots c i j) (lane-spelled c sound i j node heard spelled) own votes owed
