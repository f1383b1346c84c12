-- What a desk owes after one more hearing, and at its start.
use Rattle.std.proofs.Common.{◌≡◌, ℕ, suc, ◌<◌, ◌≤◌, false, List, [], ◌++◌, None, inl, inr, refl, sym, ap, ◌∙◌, subst, append_assoc, append-nil, arith}
use Rattle.std.specs.List.{list_any}
use Rattle.std.proofs.lemmas.Bool.{cases_lt}
use Rattle.hb_base.specs.Numbers.{Numbers}
use Rattle.hb_wire.specs.declared.vote.Vote.{Vote}
use Rattle.hb_rules.specs.Claims.{is_any_proposal, is_any_closing}
use Rattle.hb_rules.specs.DeskRows.{proposal_slot, closing_slot, accepted_below}
use Rattle.hb_rules.specs.Hearing.{Hearing}
use Rattle.hb_rules.specs.Owing.{desk_slots}
use Rattle.hb_rules.specs.Slots.{pass, passes, IsIdle, IsOwed}
use Rattle.hb_rules.proofs.Passing.{IsSettledAt, pass-rests, plain-rests}
use Rattle.epoch_core.specs.Closing.{Kept}
use Rattle.epoch_core.specs.Epochs.{HasClosed, HasProposed}
use Rattle.epoch_core.proofs.Rows.{row_settled, row_extends, pass_three}
use Rattle.epoch_core.proofs.VoteKinds.{any_stays, any_later, any_neither, closings_propose_none, proposals_close_none}
use Rattle.epoch_core.proofs.DeskSlots.{proposal_cast, proposal_shut, closing_cast, closing_shut, closing_waits, shut_at, HasClosed-more}
use Rattle.epoch_core.proofs.Running.{proposal_row, closing_row, IsAt}
use Rattle.epoch_core.proofs.Tabled.{no_more_row, row_plain}

-- ---- rows that owe nothing

pub proposal_settled : (c : Numbers) (submitted : List (List ℕ)) (closed : ℕ) (own : List Vote) (heard : List Hearing)
    → HasClosed c.epochs closed own → HasProposed c.epochs closed own → (e : ℕ) → e < c.epochs → IsSettledAt (proposal_slot c submitted e) own heard
proposal_settled c submitted closed own heard has proposed e below = elim (cases_lt closed e) [
  | inl later ↦ proposal_shut c submitted e own heard (shut_at c.epochs closed e own has later below)
  | inr upto ↦ proposal_cast c submitted e own heard (proposed.upto e upto below)
]

proposals_rest : (c : Numbers) (submitted : List (List ℕ)) (closed : ℕ) (own : List Vote) (heard : List Hearing)
    → HasClosed c.epochs closed own → HasProposed c.epochs closed own → IsIdle (proposal_row c submitted c.epochs) own heard
proposals_rest c submitted closed own heard has proposed =
    row_settled (proposal_slot c submitted) c.epochs own heard (proposal_settled c submitted closed own heard has proposed)

-- slots of closings from the open epoch on
closing_settled : (c : Numbers) (closed : ℕ) (own : List Vote) (heard : List Hearing) → HasClosed c.epochs closed own
    → (closed < c.epochs → accepted_below closed heard c.n ≡ None) → (e : ℕ) → closed ≤ e → e < c.epochs → IsSettledAt (closing_slot c e) own heard
closing_settled c closed own heard has next e above below = elim (cases_lt closed e) [
  | inl later ↦ closing_shut c e own heard (shut_at c.epochs closed e own has later below)
  | inr here ↦
      let same : closed ≡ e = omega arith in
      subst (λ (e : ℕ). IsSettledAt (closing_slot c e) own heard) same (closing_waits c closed own heard (next (omega arith)))
]

pub closings_rest : (c : Numbers) (closed : ℕ) (own : List Vote) (heard : List Hearing) → HasClosed c.epochs closed own
    → (closed < c.epochs → accepted_below closed heard c.n ≡ None) → IsIdle (closing_row c c.epochs) own heard
closings_rest c closed own heard has next =
    row_settled (closing_slot c) c.epochs own heard (λ e below. elim (cases_lt e closed) [
      | inl before ↦ closing_cast c e own heard (has.below e before)
      | inr upto ↦ closing_settled c closed own heard has next e upto below
    ])

-- all rows
pub desk_rests : (c : Numbers) (submitted : List (List ℕ)) (closed : ℕ) (own : List Vote) (heard : List Hearing)
    → HasClosed c.epochs closed own → HasProposed c.epochs closed own → IsIdle (no_more_row c c.epochs) own heard
    → (closed < c.epochs → accepted_below closed heard c.n ≡ None) → IsIdle (desk_slots c submitted) own heard
desk_rests c submitted closed own heard has proposed quiet next =
    pass_three (proposal_row c submitted c.epochs) (no_more_row c c.epochs) (closing_row c c.epochs) own heard [] [] []
    (proposals_rest c submitted closed own heard has proposed)
    (ap (λ (own : List Vote). pass (no_more_row c c.epochs) own heard) (append-nil own) ∙ quiet)
    (ap (λ (own : List Vote). pass (closing_row c c.epochs) own heard) (append-nil (own ++ []) ∙ append-nil own)
    ∙ closings_rest c closed own heard has next)

-- ---- a hearing

-- The epochs that can be closed are closed: by own votes and what is heard now, these votes of NoMore are owed, and then
-- the closings and the proposals.
pub record IsRun (c : Numbers) (submitted : List (List ℕ)) (own : List Vote) (now : List Hearing) (from to : ℕ) (wants : List Vote) (k : Kept) : Type 0 where
  pub closed : HasClosed c.epochs from own
  pub proposed : HasProposed c.epochs from own
  pub row : pass (no_more_row c c.epochs) own now ≡ wants
  pub no_closing : (e : ℕ) → list_any (is_any_closing e) wants ≡ false
  pub no_proposal : (e : ℕ) → list_any (is_any_proposal e) wants ≡ false
  pub at : IsAt c submitted (own ++ wants) now from to k
  pub least : from ≤ to
  pub most : to ≤ c.epochs
  pub next : to < c.epochs → accepted_below to now c.n ≡ None

-- own votes and all that become due
abbrev pub with_all : List Vote → List Vote → Kept → List Vote
with_all own wants k = ((own ++ wants) ++ k.closings) ++ k.proposals

pub regroup : (own wants : List Vote) (k : Kept) → with_all own wants k ≡ own ++ ((wants ++ k.closings) ++ k.proposals)
regroup own wants k =
    ap (λ (vs : List Vote). vs ++ k.proposals) (append_assoc own wants k.closings) ∙ append_assoc own (wants ++ k.closings) k.proposals

pub run_closed : (c : Numbers) (submitted : List (List ℕ)) (own : List Vote) (now : List Hearing) (from to : ℕ) (wants : List Vote) (k : Kept)
    → IsRun c submitted own now from to wants k → HasClosed c.epochs to (with_all own wants k)
run_closed c submitted own now from to wants k is =
    HasClosed-more c.epochs to ((own ++ wants) ++ k.closings) k.proposals (λ e. proposals_close_none e k.proposals is.at.proposals) is.at.closed

pub run_proposed : (c : Numbers) (submitted : List (List ℕ)) (own : List Vote) (now : List Hearing) (from to : ℕ) (wants : List Vote) (k : Kept)
    → IsRun c submitted own now from to wants k → HasProposed c.epochs to (with_all own wants k)
run_proposed c submitted own now from to wants k is = record {
  upto = λ e le below. elim (cases_lt from e) [
    | inl later ↦ any_later (is_any_proposal e) ((own ++ wants) ++ k.closings) k.proposals (is.at.proposed e later le below)
    | inr before ↦
        any_stays (is_any_proposal e) ((own ++ wants) ++ k.closings) k.proposals
        (any_stays (is_any_proposal e) (own ++ wants) k.closings
        (any_stays (is_any_proposal e) own wants (is.proposed.upto e before below)))
  ];
  above = λ e above below.
      any_neither (is_any_proposal e) ((own ++ wants) ++ k.closings) k.proposals
      (any_neither (is_any_proposal e) (own ++ wants) k.closings
      (any_neither (is_any_proposal e) own wants (is.proposed.above e (omega (arith, is.least)) below) (is.no_proposal e))
      (closings_propose_none 0 e k.closings is.at.closings))
      (is.at.fewer e above);
}

-- the row of closings, over all epochs
closings_all : (c : Numbers) (submitted : List (List ℕ)) (own : List Vote) (now : List Hearing) (from to : ℕ) (wants : List Vote) (k : Kept)
    → IsRun c submitted own now from to wants k → pass (closing_row c c.epochs) (own ++ wants) now ≡ k.closings
closings_all c submitted own now from to wants k is =
    row_extends (closing_slot c) to c.epochs (own ++ wants) now k.closings is.most is.at.row
    (closing_settled c to ((own ++ wants) ++ k.closings) now is.at.closed is.next)

-- the row of proposals, over all epochs, after the closings
proposals_all : (c : Numbers) (submitted : List (List ℕ)) (own : List Vote) (now : List Hearing) (from to : ℕ) (wants : List Vote) (k : Kept)
    → IsRun c submitted own now from to wants k → pass (proposal_row c submitted c.epochs) ((own ++ wants) ++ k.closings) now ≡ k.proposals
proposals_all c submitted own now from to wants k is =
    let cast : List Vote = (own ++ wants) ++ k.closings in
    elim (cases_lt to c.epochs) [
      | inl inside ↦
          row_extends (proposal_slot c submitted) (suc to) c.epochs cast now k.proposals (omega arith)
          (ap (λ (own : List Vote). pass (proposal_row c submitted (suc to)) own now) (sym (append-nil cast))
          ∙ is.at.asks (suc to) (record { near = omega arith; within = omega arith; all = λ _. omega arith }) [] refl)
          (λ e above below.
          proposal_shut c submitted e (cast ++ k.proposals) now
          (shut_at c.epochs to e (cast ++ k.proposals) (run_closed c submitted own now from to wants k is) (omega arith) below))
      | inr outside ↦
          ap (λ (own : List Vote). pass (proposal_row c submitted c.epochs) own now) (sym (append-nil cast))
          ∙ is.at.asks c.epochs (record { near = omega arith; within = omega arith; all = λ h. omega arith }) [] refl
    ]

-- the row of NoMore owes nothing more, whatever votes follow
wants_rest : (c : Numbers) (submitted : List (List ℕ)) (own : List Vote) (now : List Hearing) (from to : ℕ) (wants : List Vote) (k : Kept)
    → IsRun c submitted own now from to wants k → (more : List Vote) → IsIdle (no_more_row c c.epochs) ((own ++ wants) ++ more) now
wants_rest c submitted own now from to wants k is more =
    plain-rests (no_more_row c c.epochs) (row_plain c c.epochs) (own ++ wants) more now
    (subst (λ (vs : List Vote). IsIdle (no_more_row c c.epochs) (own ++ vs) now) is.row
    (pass-rests (no_more_row c c.epochs) (row_plain c c.epochs) own now))

-- two passes give all votes, and a third adds none
pub run_owed : (c : Numbers) (submitted : List (List ℕ)) (own : List Vote) (now : List Hearing) (from to : ℕ) (wants : List Vote) (k : Kept)
    → IsRun c submitted own now from to wants k → IsOwed (desk_slots c submitted) own now ((wants ++ k.closings) ++ k.proposals)
run_owed c submitted own now from to wants k is =
    let cast : List Vote = (own ++ wants) ++ k.closings in
    let first : pass (desk_slots c submitted) own now ≡ wants ++ k.closings =
    pass_three (proposal_row c submitted c.epochs) (no_more_row c c.epochs) (closing_row c c.epochs) own now [] wants k.closings
    (proposals_rest c submitted from own now is.closed is.proposed)
    (ap (λ (own : List Vote). pass (no_more_row c c.epochs) own now) (append-nil own) ∙ is.row)
    (ap (λ (own : List Vote). pass (closing_row c c.epochs) (own ++ wants) now) (append-nil own)
    ∙ closings_all c submitted own now from to wants k is) in
    let second : pass (desk_slots c submitted) cast now ≡ k.proposals =
    pass_three (proposal_row c submitted c.epochs) (no_more_row c c.epochs) (closing_row c c.epochs) cast now k.proposals [] []
    (proposals_all c submitted own now from to wants k is)
    (ap (λ (own : List Vote). pass (no_more_row c c.epochs) own now) (append_assoc (own ++ wants) k.closings k.proposals)
    ∙ wants_rest c submitted own now from to wants k is (k.closings ++ k.proposals))
    (ap (λ (own : List Vote). pass (closing_row c c.epochs) own now) (append-nil (cast ++ k.proposals))
    ∙ closings_rest c to (with_all own wants k) now (run_closed c submitted own now from to wants k is) is.next)
    ∙ append-nil k.proposals in
    record {
      count = 2;
      gives =
          ap (λ (vs : List Vote). vs ++ passes 1 (desk_slots c submitted) (own ++ vs) now) first
          ∙ ap (λ (vs : List Vote). (wants ++ k.closings) ++ vs)
          (append-nil (pass (desk_slots c submitted) (own ++ (wants ++ k.closings)) now)
          ∙ ap (λ (own : List Vote). pass (desk_slots c submitted) own now) (sym (append_assoc own wants k.closings))
          ∙ second);
      rests =
          subst (λ (own : List Vote). IsIdle (desk_slots c submitted) own now) (regroup own wants k)
          (desk_rests c submitted to (with_all own wants k) now (run_closed c submitted own now from to wants k is)
          (run_proposed c submitted own now from to wants k is)
          (ap (λ (own : List Vote). pass (no_more_row c c.epochs) own now) (append_assoc (own ++ wants) k.closings k.proposals)
          ∙ wants_rest c submitted own now from to wants k is (k.closings ++ k.proposals))
          is.next);
    }
