-- Marks of the votes that a lane casts in the binary agreement of an epoch, and claims that other nodes' votes make there.
-- The letters: e is an epoch, r a round.
use Rattle.std.specs.Prelude.{ℕ, Bool, true, false, ◌&&◌, ◌==◌, List}
use Rattle.std.specs.List.{list_any}
use Rattle.hb_wire.specs.declared.vote.Vals.{Vals}
use Rattle.hb_wire.specs.declared.vote.Vals.TheVariants.{Zero, One, Both}
use Rattle.hb_wire.specs.declared.vote.Vote.{Vote}
use Rattle.hb_wire.specs.declared.vote.Vote.TheVariants.{Est, Bval, Aux, Conf, Pick, Coin}
use Rattle.hb_rules.specs.Claims.{same_bit, is_any_delivery, is_decision, is_any_decision}
use Rattle.hb_rules.specs.Hearing.{Hearing, heard_by, count_shown}

-- the set with this bit alone
abbrev pub single : Bool → Vals
single false = Zero
single true = One

-- whether a bit is in the set
abbrev pub has_bit : Bool → Vals → Bool
has_bit false Zero = true
has_bit true Zero = false
has_bit false One = false
has_bit true One = true
has_bit b Both = true

-- whether two sets are the same
abbrev pub same_vals : Vals → Vals → Bool
same_vals Zero Zero = true
same_vals One One = true
same_vals Both Both = true
same_vals _ _ = false

abbrev pub is_est : ℕ → ℕ → Bool → Vote → Bool
is_est e r b (Est d s bit) = (d == e) && ((s == r) && same_bit bit b)
is_est e r b _ = false

abbrev pub is_any_est : ℕ → ℕ → Vote → Bool
is_any_est e r (Est d s bit) = (d == e) && (s == r)
is_any_est e r _ = false

abbrev pub is_bval : ℕ → ℕ → Bool → Vote → Bool
is_bval e r b (Bval d s bit) = (d == e) && ((s == r) && same_bit bit b)
is_bval e r b _ = false

abbrev pub is_aux : ℕ → ℕ → Bool → Vote → Bool
is_aux e r b (Aux d s bit) = (d == e) && ((s == r) && same_bit bit b)
is_aux e r b _ = false

abbrev pub is_any_aux : ℕ → ℕ → Vote → Bool
is_any_aux e r (Aux d s bit) = (d == e) && (s == r)
is_any_aux e r _ = false

abbrev pub is_conf : ℕ → ℕ → Vals → Vote → Bool
is_conf e r set (Conf d s vals) = (d == e) && ((s == r) && same_vals vals set)
is_conf e r set _ = false

abbrev pub is_any_conf : ℕ → ℕ → Vote → Bool
is_any_conf e r (Conf d s vals) = (d == e) && (s == r)
is_any_conf e r _ = false

-- a Conf whose set has this bit
abbrev pub is_conf_with : ℕ → ℕ → Bool → Vote → Bool
is_conf_with e r b (Conf d s vals) = (d == e) && ((s == r) && has_bit b vals)
is_conf_with e r b _ = false

abbrev pub is_pick : ℕ → ℕ → Vals → Vote → Bool
is_pick e r set (Pick d s vals) = (d == e) && ((s == r) && same_vals vals set)
is_pick e r set _ = false

abbrev pub is_any_pick : ℕ → ℕ → Vote → Bool
is_any_pick e r (Pick d s vals) = (d == e) && (s == r)
is_any_pick e r _ = false

abbrev pub is_any_coin : ℕ → ℕ → Vote → Bool
is_any_coin e r (Coin d s share salt branch) = (d == e) && (s == r)
is_any_coin e r _ = false

-- what a lane can have cast in an epoch
pub data Mark : Type 0 where
  delivery : Mark
  est : ℕ → Bool → Mark
  any_est : ℕ → Mark
  bval : ℕ → Bool → Mark
  any_aux : ℕ → Mark
  any_conf : ℕ → Mark
  pick : ℕ → Vals → Mark
  any_pick : ℕ → Mark
  any_coin : ℕ → Mark
  decision : Bool → Mark
  any_decision : Mark

-- whether a vote has this mark
abbrev pub bears : ℕ → Mark → Vote → Bool
bears e delivery vote = is_any_delivery e vote
bears e (est r b) vote = is_est e r b vote
bears e (any_est r) vote = is_any_est e r vote
bears e (bval r b) vote = is_bval e r b vote
bears e (any_aux r) vote = is_any_aux e r vote
bears e (any_conf r) vote = is_any_conf e r vote
bears e (pick r vals) vote = is_pick e r vals vote
bears e (any_pick r) vote = is_any_pick e r vote
bears e (any_coin r) vote = is_any_coin e r vote
bears e (decision b) vote = is_decision e b vote
bears e any_decision vote = is_any_decision e vote

-- whether a vote with this mark was cast
abbrev pub has : ℕ → Mark → List Vote → Bool
has e mark own = list_any (bears e mark) own

-- what nodes can claim in a round: that they support a bit, that they have accepted it, or any bit, that they are left
-- with this bit alone, with any set, or with a set that has the bit
pub data Claim : Type 0 where
  bvals : ℕ → Bool → Claim
  auxes : ℕ → Bool → Claim
  any_auxes : ℕ → Claim
  confs : ℕ → Bool → Claim
  any_confs : ℕ → Claim
  confs_with : ℕ → Bool → Claim

-- whether a vote makes this claim
abbrev pub makes : ℕ → Claim → Vote → Bool
makes e (bvals r b) vote = is_bval e r b vote
makes e (auxes r b) vote = is_aux e r b vote
makes e (any_auxes r) vote = is_any_aux e r vote
makes e (confs r b) vote = is_conf e r (single b) vote
makes e (any_confs r) vote = is_any_conf e r vote
makes e (confs_with r b) vote = is_conf_with e r b vote

-- from how many of n nodes a claim was heard
abbrev pub support : ℕ → ℕ → Claim → List Hearing → ℕ
support n e claim heard = count_shown n (heard_by heard) (makes e claim)
