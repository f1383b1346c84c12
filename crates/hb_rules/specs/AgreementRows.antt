-- What a lane owes in the binary agreement of an epoch: the rows of both versions of the rules. The letters: lane j of
-- node i, epoch e, round r.
use Rattle.std.specs.Prelude.{ℕ, ◌+◌, ◌-◌, ◌*◌, Bool, true, false, not, ◌&&◌, ◌||◌, nat_le, List, [], ◌∷◌, ◌++◌, map, Option, None, Some, if◌then◌else◌}
use Rattle.std.specs.Option.{option_map, option_and_then}
use Rattle.std.specs.List.{list_any, range_with_len}
use Rattle.hb_base.specs.Numbers.{Numbers}
use Rattle.merkle_branch.specs.Digests.{leaf_digests}
use Rattle.merkle_branch.specs.Branches.{branch_of}
use Rattle.coin_deal.specs.Deal.{share, salt, coin_leaves}
use Rattle.hb_wire.specs.declared.vote.Vals.TheVariants.{Both}
use Rattle.hb_wire.specs.declared.vote.Vote.{Vote}
use Rattle.hb_wire.specs.declared.vote.Vote.TheVariants.{Est, Bval, Aux, Conf, Pick, Coin, Decided}
use Rattle.hb_rules.specs.declared.agreement_slot.AgreementSlot.{AgreementSlot}
use Rattle.hb_rules.specs.declared.agreement_slot.AgreementSlot.TheVariants.{Begin, Support, Accept, ConfirmOne, ConfirmBoth, PickOne, PickBoth, ShowShare, GoOn, Decide}
use Rattle.hb_rules.specs.Claims.{is_bit, is_no_more}
use Rattle.hb_rules.specs.Hearing.{Hearing, heard_by}
use Rattle.hb_rules.specs.Marks.{single, Mark, delivery, est, any_est, bval, any_aux, any_conf, pick, any_pick, any_coin, decision, any_decision, has, Claim, bvals, auxes, any_auxes, confs, any_confs, confs_with, support}
use Rattle.hb_rules.specs.Coins.{coin_in}
use Rattle.hb_rules.specs.Agreement.{confirms}
use Rattle.hb_rules.specs.Slots.{Slot, each, when}

-- ---- what the rows look at

-- which votes were cast, how many nodes have made each claim, the coins that are known, and whether the own desk wants no
-- more lanes
pub record View : Type 0 where
  pub cast : Mark → Bool
  pub count : Claim → ℕ
  pub coin : ℕ → Option Bool
  pub no_more : Bool

abbrev pub view_of : Numbers → ℕ → ℕ → ℕ → List Vote → List Hearing → View
view_of c i j e own heard = record {
  cast = λ mark. has e mark own;
  count = λ claim. support c.n e claim heard;
  coin = coin_in c e j heard;
  no_more = heard_by heard i (is_no_more e);
}

-- ---- the rows. Each vote is owed once at most: `limit_of` says what it fills.

-- 2f + 1 nodes support the bit
abbrev pub is_supported : Numbers → View → ℕ → Bool → Bool
is_supported c v r b = nat_le (2 * c.f + 1) (v.count (bvals r b))

-- n - f nodes make the claim
abbrev pub has_quorum : Numbers → View → Claim → Bool
has_quorum c v claim = nat_le (c.n - c.f) (v.count claim)

-- some node makes the claim
abbrev pub is_made : View → Claim → Bool
is_made v claim = nat_le 1 (v.count claim)

-- the bit is left alone, by the claims of accepted bits
abbrev pub is_gathered_one : Numbers → View → ℕ → Bool → Bool
is_gathered_one c v r b = v.cast (any_aux r) && (is_supported c v r b && has_quorum c v (auxes r b))

-- both bits are left, and neither alone
abbrev pub is_gathered_both : Numbers → View → ℕ → Bool
is_gathered_both c v r =
    v.cast (any_aux r)
    && ((is_supported c v r false && is_supported c v r true)
    && ((is_made v (auxes r false) && is_made v (auxes r true))
    && (has_quorum c v (any_auxes r)
    && (not (has_quorum c v (auxes r false)) && not (has_quorum c v (auxes r true))))))

-- the bit is left alone after the confirm phase
abbrev pub is_confirmed_one : Numbers → View → ℕ → Bool → Bool
is_confirmed_one c v r b = v.cast (any_conf r) && (is_supported c v r b && has_quorum c v (confs r b))

-- both bits are left after the confirm phase, and neither alone
abbrev pub is_confirmed_both : Numbers → View → ℕ → Bool
is_confirmed_both c v r =
    v.cast (any_conf r)
    && ((is_supported c v r false && is_supported c v r true)
    && (has_quorum c v (any_confs r)
    && ((is_made v (confs_with r false) && is_made v (confs_with r true))
    && (not (has_quorum c v (confs r false)) && not (has_quorum c v (confs r true))))))

abbrev pub is_left_one : Bool → Numbers → View → ℕ → Bool → Bool
is_left_one confirm c v r b = if confirm then is_confirmed_one c v r b else is_gathered_one c v r b

abbrev pub is_left_both : Bool → Numbers → View → ℕ → Bool
is_left_both confirm c v r = if confirm then is_confirmed_both c v r else is_gathered_both c v r

-- whether the lane picked the bit alone in a round before r whose coin is the bit
abbrev pub was_settled : View → ℕ → Bool → Bool
was_settled v r b = list_any (λ s. v.cast (pick s (single b)) && is_bit b (v.coin s)) (range_with_len 0 r)

-- the bit with which a lane goes on from round r, whose coin is given
abbrev pub next_bit : View → ℕ → Bool → Option Bool
next_bit v r coin =
    if v.cast (pick r (single false)) then Some false
    else (if v.cast (pick r (single true)) then Some true else when (v.cast (pick r Both)) coin)

-- a lane stops where the coin of the round is the bit that it decided by an earlier round
abbrev pub stops : View → ℕ → Bool → Bool
stops v r coin = v.cast (decision coin) && was_settled v r coin

-- the bit that a lane accepts in a round: 1 where both are supported
abbrev pub accepted_bit : Numbers → View → ℕ → Option Bool
accepted_bit c v r = if is_supported c v r true then Some true else when (is_supported c v r false) false

-- the share that was dealt to node i
abbrev pub dealt : Numbers → ℕ → ℕ → ℕ → ℕ → Vote
dealt c i j e r = Coin e r (share c e j r i) (salt c e j r i) (branch_of (leaf_digests (coin_leaves c e j r)) i)

-- the vote that a slot makes owed
unfoldable pub choice_of : Numbers → ℕ → ℕ → ℕ → AgreementSlot → View → Option Vote
choice_of c i j e (Begin true) v = when (v.cast delivery) (Est e 0 true)
choice_of c i j e (Begin false) v = when v.no_more (Est e 0 false)
choice_of c i j e (Support r b) v =
    when (v.cast (est r b) || (v.cast (any_est r) && nat_le (c.f + 1) (v.count (bvals r b)))) (Bval e r b)
choice_of c i j e (Accept r) v = if v.cast (any_est r) then option_map (Aux e r) (accepted_bit c v r) else None
choice_of c i j e (ConfirmOne r b) v = when (is_gathered_one c v r b) (Conf e r (single b))
choice_of c i j e (ConfirmBoth r) v = when (is_gathered_both c v r) (Conf e r Both)
choice_of c i j e (PickOne r b) v = when (is_left_one (confirms c) c v r b) (Pick e r (single b))
choice_of c i j e (PickBoth r) v = when (is_left_both (confirms c) c v r) (Pick e r Both)
choice_of c i j e (ShowShare r) v = when (v.cast (any_pick r)) (dealt c i j e r)
choice_of c i j e (GoOn r) v =
    option_and_then (λ coin. if stops v r coin then None else option_map (Est e (r + 1)) (next_bit v r coin)) (v.coin r)
choice_of c i j e (Decide r) v = option_and_then (λ coin. when (v.cast (pick r (single coin))) (Decided e coin)) (v.coin r)

-- what fills a slot
abbrev pub limit_of : AgreementSlot → Mark
limit_of (Begin bit) = any_est 0
limit_of (Support r b) = bval r b
limit_of (Accept r) = any_aux r
limit_of (ConfirmOne r b) = any_conf r
limit_of (ConfirmBoth r) = any_conf r
limit_of (PickOne r b) = any_pick r
limit_of (PickBoth r) = any_pick r
limit_of (ShowShare r) = any_coin r
limit_of (GoOn r) = any_est (r + 1)
limit_of (Decide r) = any_decision

unfoldable pub agreement_slot : Numbers → ℕ → ℕ → ℕ → AgreementSlot → Slot Vote Hearing
agreement_slot c i j e name = record {
  is_cast = has e (limit_of name);
  choice = λ own heard. choice_of c i j e name (view_of c i j e own heard);
}

-- the rows of the confirm phase
abbrev pub confirm_names : Bool → ℕ → List (List AgreementSlot)
confirm_names false rounds = []
confirm_names true rounds =
    each rounds (λ r. ConfirmOne r false ∷ ConfirmOne r true ∷ []) ∷ each rounds (λ r. ConfirmBoth r ∷ []) ∷ []

-- the rows, in their order: within each the rounds rise, and within a round the bits. The last round has none after it.
abbrev pub agreement_names : Numbers → List (List AgreementSlot)
agreement_names c =
    (Begin true ∷ [])
    ∷ (Begin false ∷ [])
    ∷ each c.rounds (λ r. Support r false ∷ Support r true ∷ [])
    ∷ each c.rounds (λ r. Accept r ∷ [])
    ∷ (confirm_names (confirms c) c.rounds
    ++ (each c.rounds (λ r. PickOne r false ∷ PickOne r true ∷ [])
    ∷ each c.rounds (λ r. PickBoth r ∷ [])
    ∷ each c.rounds (λ r. ShowShare r ∷ [])
    ∷ each (c.rounds - 1) (λ r. GoOn r ∷ [])
    ∷ each c.rounds (λ r. Decide r ∷ [])
    ∷ []))

abbrev pub agreement_rows : Numbers → ℕ → ℕ → List (ℕ → List (Slot Vote Hearing))
agreement_rows c i j = map (λ names e. map (agreement_slot c i j e) names) (agreement_names c)
