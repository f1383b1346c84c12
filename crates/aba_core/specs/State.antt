-- The state of an agreement at a node, and what its rows look at. The letters: lane j of node i, epoch e, round r.
use Rattle.std.specs.Prelude.{◌≡◌, ℕ, ◌<◌, ◌≤◌, Bool, List, length, slice_index_or, Option, ◌||◌}
use Rattle.hb_base.specs.Numbers.{Numbers, AreSound}
use Rattle.hb_wire.specs.declared.vote.Vote.{Vote}
use Rattle.hb_rules.specs.declared.agreement_slot.AgreementSlot.{AgreementSlot}
use Rattle.hb_rules.specs.declared.agreement_slot.AgreementSlot.TheVariants.{Begin, Support, Accept, ConfirmOne, ConfirmBoth, PickOne, PickBoth, ShowShare, GoOn, Decide}
use Rattle.hb_rules.specs.Marks.{Mark, delivery, est, any_est, bval, any_aux, any_conf, pick, any_pick, any_coin, decision, any_decision, Claim, bvals, auxes, any_auxes, confs, any_confs, confs_with}
use Rattle.hb_rules.specs.AgreementRows.{View, choice_of}
use Rattle.hb_rules.specs.Owing.{Place}
use Rattle.aba_core.specs.declared.bits.Bits.{Bits}
use Rattle.aba_core.specs.declared.round.Round.{Round}
use Rattle.aba_core.specs.Bits.{holds}
use Rattle.aba_core.specs.Marks.{no_marks, is_marked}
use Rattle.aba_core.specs.Rounds.{IsRound, IsNew, blank}
use Rattle.aba_core.specs.Made.{RoundsView}
use Rattle.aba_core.specs.Tables.{voters_in, count_in}

pub record AbaView : Type 0 where
  pub config : Numbers
  pub node : ℕ
  pub lane : ℕ
  pub epoch : ℕ
  -- which votes the lane has cast that are of no round
  pub is_delivered : Bool
  pub decisions : Bits
  -- whether the own desk wants no more lanes
  pub no_more : Bool
  pub rounds : List Round
  pub top : ℕ

abbrev pub place_of : AbaView → Place
place_of a = record { config = a.config; node = a.node; lane = a.lane; epoch = a.epoch }

-- what is known of a round
abbrev pub round_in : AbaView → ℕ → Round
round_in a r = slice_index_or a.rounds r blank

-- the round that a mark, and a claim, is of: 0 where it is of none
abbrev pub mark_round : Mark → ℕ
mark_round (est r b) = r
mark_round (any_est r) = r
mark_round (bval r b) = r
mark_round (any_aux r) = r
mark_round (any_conf r) = r
mark_round (pick r vals) = r
mark_round (any_pick r) = r
mark_round (any_coin r) = r
mark_round _ = 0

abbrev pub claim_round : Claim → ℕ
claim_round (bvals r b) = r
claim_round (auxes r b) = r
claim_round (any_auxes r) = r
claim_round (confs r b) = r
claim_round (any_confs r) = r
claim_round (confs_with r b) = r

-- whether a vote with the mark was cast
abbrev pub mark_at : AbaView → Mark → Bool
mark_at a delivery = a.is_delivered
mark_at a (decision b) = holds a.decisions b
mark_at a any_decision = a.decisions.zero || a.decisions.one
mark_at a mark = is_marked (round_in a (mark_round mark)).marks mark

-- the nodes of which a claim was heard
abbrev pub voters_at : AbaView → Claim → List Bool
voters_at a claim = voters_in (round_in a (claim_round claim)).tables claim

-- what the rows look at
abbrev pub view_at : AbaView → View
view_at a = record {
  cast = mark_at a;
  count = λ claim. count_in (round_in a (claim_round claim)).tables claim;
  coin = λ r. (round_in a r).coin;
  no_more = a.no_more;
}

-- the vote that a slot makes owed, by the tables
abbrev pub choice_at : AbaView → AgreementSlot → Option Vote
choice_at a name = choice_of a.config a.node a.lane a.epoch name (view_at a)

-- There is each round that the run has, each is sound, and nothing is marked in a round from the top on.
pub record IsAba (a : AbaView) : Type 0 where
  pub sound : AreSound a.config
  pub node : a.node < a.config.n
  pub count : length a.rounds ≡ a.config.rounds
  pub each : (r : ℕ) → r < a.config.rounds → IsRound a.config a.lane a.epoch r (round_in a r)
  pub top : a.top ≤ a.config.rounds
  pub above : (r : ℕ) → a.top ≤ r → (round_in a r).marks ≡ no_marks

-- what an agreement keeps: a sound state, whose rounds are those of its lane and epoch
pub record HoldsRounds (a : AbaView) (s : RoundsView) : Type 0 where
  pub aba : IsAba a
  pub config : s.config ≡ a.config
  pub lane : s.lane ≡ a.lane
  pub epoch : s.epoch ≡ a.epoch

-- all rounds of a run, in which nothing was cast or heard
pub record AreNew (c : Numbers) (j e : ℕ) (rounds : List Round) : Type 0 where
  pub count : length rounds ≡ c.rounds
  pub each : (r : ℕ) → r < c.rounds → IsNew c j e r (slice_index_or rounds r blank)

-- the round that a slot is of
abbrev pub slot_round : AgreementSlot → ℕ
slot_round (Begin b) = 0
slot_round (Support r b) = r
slot_round (Accept r) = r
slot_round (ConfirmOne r b) = r
slot_round (ConfirmBoth r) = r
slot_round (PickOne r b) = r
slot_round (PickBoth r) = r
slot_round (ShowShare r) = r
slot_round (GoOn r) = r
slot_round (Decide r) = r
