-- What the state of an agreement stands for: the votes that its lane has cast and those that it has heard.
use Rattle.std.specs.Prelude.{◌≡◌, ℕ, ◌<◌, ◌≤◌, Bool, true, false, List, [], ◌∷◌, ◌++◌, None}
use Rattle.std.specs.List.{list_any, list_all}
use Rattle.hb_base.specs.Limits.{most_nodes}
use Rattle.hb_base.specs.NodeSet.{is_in}
use Rattle.hb_wire.specs.declared.vote.Vote.{Vote}
use Rattle.hb_rules.specs.Claims.{is_no_more, is_any_delivery}
use Rattle.hb_rules.specs.Hearing.{Hearing, heard_by}
use Rattle.hb_rules.specs.Marks.{Mark, any_est, has, Claim, makes}
use Rattle.hb_rules.specs.Coins.{shares_in, coin_in}
use Rattle.hb_rules.specs.Slots.{Slot, IsIdle, IsOwed}
use Rattle.hb_rules.specs.Owing.{Place, agreement_slots}
use Rattle.aba_core.specs.State.{AbaView, place_of, round_in, mark_round, claim_round, mark_at, voters_at}

-- what its lane owes
abbrev pub slots_at : Place → List (Slot Vote Hearing)
slots_at p = agreement_slots p.config p.node p.lane p.epoch

-- The marks, tables and coins are those of what was cast and heard, of the rounds that the run has. The good shares are
-- kept until they make the coin. None but the n nodes was heard, for whom the tables have room.
pub record Shows (a : AbaView) (own : List Vote) (heard : List Hearing) : Type 0 where
  pub cast : (mark : Mark) → mark_round mark < a.config.rounds → mark_at a mark ≡ has a.epoch mark own
  pub said : (claim : Claim) → claim_round claim < a.config.rounds → (m : ℕ) → is_in (voters_at a claim) m ≡ heard_by heard m (makes a.epoch claim)
  pub shares : (r : ℕ) → r < a.config.rounds → (round_in a r).coin ≡ None
      → (round_in a r).shares.added ≡ shares_in a.config a.epoch a.lane r heard
  pub coins : (r : ℕ) → r < a.config.rounds → (round_in a r).coin ≡ coin_in a.config a.epoch a.lane heard r
  pub no_more : a.no_more ≡ heard_by heard a.node (is_no_more a.epoch)
  pub nodes : (m : ℕ) → a.config.n ≤ m → heard_by heard m (λ vote. true) ≡ false
  pub few : a.config.n ≤ most_nodes

-- The state stands for what was cast and heard: it shows these, and nothing is owed.
pub record Stands (a : AbaView) (own : List Vote) (heard : List Hearing) : Type 0 where
  pub idle : IsIdle (slots_at (place_of a)) own heard
  pub shows : Shows a own heard

-- The state hears one vote more: whatever it stood for, exactly the votes that are owed then become due, in their order,
-- and it stands for all of these.
pub record Hears (old new : AbaView) (h : Hearing) (before after : List Vote) : Type 0 where
  pub place : place_of new ≡ place_of old
  pub votes : List Vote
  pub due : after ≡ before ++ votes
  pub owed : (own : List Vote) (heard : List Hearing) → Stands old own heard → IsOwed (slots_at (place_of old)) own (heard ++ h ∷ []) votes
  pub stands : (own : List Vote) (heard : List Hearing) → Stands old own heard → Stands new (own ++ votes) (heard ++ h ∷ [])

-- The state takes its input: for 1, that the lane has delivered, and for 0, that its own desk wants no more lanes.
-- Whatever it stood for, exactly the votes that are owed then become due, in their order, and it stands for all of these.
-- Where an estimate of round 0 is cast nothing is owed by it.
pub record Takes (bit : Bool) (old new : AbaView) (before after : List Vote) : Type 0 where
  pub place : place_of new ≡ place_of old
  pub votes : List Vote
  pub due : after ≡ before ++ votes
  pub one : bit ≡ true → (own more : List Vote) (heard : List Hearing) → Stands old own heard
      → list_all (is_any_delivery old.epoch) more ≡ true → list_any (is_any_delivery old.epoch) (own ++ more) ≡ true
      → IsOwed (slots_at (place_of old)) (own ++ more) heard votes × Stands new ((own ++ more) ++ votes) heard
  pub zero : bit ≡ false → (own : List Vote) (heard : List Hearing) (h : Hearing) → Stands old own heard
      → h.from ≡ old.node → is_no_more old.epoch h.vote ≡ true
      → IsOwed (slots_at (place_of old)) own (heard ++ h ∷ []) votes × Stands new (own ++ votes) (heard ++ h ∷ [])
  pub begun : mark_at old (any_est 0) ≡ true → votes ≡ []
