-- What a lane may cast in the binary agreement of an epoch, by what it has cast there (own) and what it has heard (after
-- Mostéfaoui, Moumen and Raynal, PODC 2014). The letters: e is an epoch, j a lane of node i, r a round.
use Rattle.std.specs.Prelude.{◌≡◌, ℕ, zero, suc, ◌+◌, ◌-◌, ◌*◌, ◌<◌, ◌≤◌, ◌⊎◌, ◌==◌, Bool, true, false, List}
use Rattle.hb_base.specs.Numbers.{Numbers}
use Rattle.merkle_branch.specs.Digests.{leaf_digests}
use Rattle.merkle_branch.specs.Branches.{branch_of}
use Rattle.coin_deal.specs.Deal.{share, salt, coin_leaves}
use Rattle.hb_wire.specs.declared.vote.Vals.{Vals}
use Rattle.hb_wire.specs.declared.vote.Vals.TheVariants.{Zero, One, Both}
use Rattle.hb_wire.specs.declared.vote.Vote.{Vote}
use Rattle.hb_wire.specs.declared.vote.Vote.TheVariants.{Est, Bval, Aux, Conf, Pick, Coin, Decided}
use Rattle.hb_rules.specs.Claims.{is_no_more}
use Rattle.hb_rules.specs.Hearing.{Hearing, heard_by}
use Rattle.hb_rules.specs.Marks.{single, delivery, est, any_est, bval, any_aux, any_conf, pick, any_pick, any_coin, any_decision, has, bvals, auxes, any_auxes, confs, any_confs, confs_with, support}
use Rattle.hb_rules.specs.Coins.{share_count, HasCoin}

-- the rules have a confirm phase: those of version 2
abbrev pub confirms : Numbers → Bool
confirms c = c.version == 2

-- an Aux of the round is cast, 2f + 1 nodes support the bit, and n - f nodes have accepted it
pub record IsGatheredOne (c : Numbers) (e r : ℕ) (b : Bool) (own : List Vote) (heard : List Hearing) : Type 0 where
  pub entered : has e (any_aux r) own ≡ true
  pub supported : 2 * c.f + 1 ≤ support c.n e (bvals r b) heard
  pub accepted : c.n - c.f ≤ support c.n e (auxes r b) heard

-- an Aux of the round is cast, 2f + 1 nodes support each bit, some node has accepted each, and n - f nodes have accepted
-- either
pub record IsGatheredBoth (c : Numbers) (e r : ℕ) (own : List Vote) (heard : List Hearing) : Type 0 where
  pub entered : has e (any_aux r) own ≡ true
  pub supported : (b : Bool) → 2 * c.f + 1 ≤ support c.n e (bvals r b) heard
  pub each : (b : Bool) → 1 ≤ support c.n e (auxes r b) heard
  pub accepted : c.n - c.f ≤ support c.n e (any_auxes r) heard

-- these bits are left in the round
abbrev pub IsGathered : Numbers → ℕ → ℕ → Vals → List Vote → List Hearing → Type 0
IsGathered c e r Zero own heard = IsGatheredOne c e r false own heard
IsGathered c e r One own heard = IsGatheredOne c e r true own heard
IsGathered c e r Both own heard = IsGatheredBoth c e r own heard

-- a Conf of the round is cast, 2f + 1 nodes support the bit, and n - f nodes are left with it alone
pub record IsConfirmedOne (c : Numbers) (e r : ℕ) (b : Bool) (own : List Vote) (heard : List Hearing) : Type 0 where
  pub entered : has e (any_conf r) own ≡ true
  pub supported : 2 * c.f + 1 ≤ support c.n e (bvals r b) heard
  pub confirmed : c.n - c.f ≤ support c.n e (confs r b) heard

-- a Conf of the round is cast, 2f + 1 nodes support each bit, n - f nodes are left with some set, and each bit is in the
-- set of some node
pub record IsConfirmedBoth (c : Numbers) (e r : ℕ) (own : List Vote) (heard : List Hearing) : Type 0 where
  pub entered : has e (any_conf r) own ≡ true
  pub supported : (b : Bool) → 2 * c.f + 1 ≤ support c.n e (bvals r b) heard
  pub confirmed : c.n - c.f ≤ support c.n e (any_confs r) heard
  pub each : (b : Bool) → 1 ≤ support c.n e (confs_with r b) heard

-- these bits are left after the confirm phase of the round
abbrev pub IsConfirmed : Numbers → ℕ → ℕ → Vals → List Vote → List Hearing → Type 0
IsConfirmed c e r Zero own heard = IsConfirmedOne c e r false own heard
IsConfirmed c e r One own heard = IsConfirmedOne c e r true own heard
IsConfirmed c e r Both own heard = IsConfirmedBoth c e r own heard

-- a lane is left with these bits: after the confirm phase, where there is one
abbrev pub IsLeftWith : Bool → Numbers → ℕ → ℕ → Vals → List Vote → List Hearing → Type 0
IsLeftWith false c e r vals own heard = IsGathered c e r vals own heard
IsLeftWith true c e r vals own heard = IsConfirmed c e r vals own heard

-- A lane goes on from round r with this bit: it has picked the bit alone, or both bits and the coin of the round is the
-- bit; and f + 1 nodes have shown good shares.
pub record GoesOn (c : Numbers) (j e r : ℕ) (b : Bool) (own : List Vote) (heard : List Hearing) : Type 0 where
  pub shares : c.f + 1 ≤ share_count c e j r heard
  pub picked : (has e (pick r (single b)) own ≡ true) ⊎ ((has e (pick r Both) own ≡ true) × HasCoin c e j r heard b)

-- A lane begins with 1 where it has delivered, and with 0 where its desk wants no more lanes. It begins a later round with
-- the bit with which it goes on from the one before.
abbrev pub MayBegin : Numbers → ℕ → ℕ → ℕ → ℕ → Bool → List Vote → List Hearing → Type 0
MayBegin c i j e zero true own heard = has e delivery own ≡ true
MayBegin c i j e zero false own heard = heard_by heard i (is_no_more e) ≡ true
MayBegin c i j e (suc r) b own heard = GoesOn c j e r b own heard

-- In some round the lane has picked the bit alone, and the coin, of good shares of f + 1 nodes, is the bit.
pub record HasSettled (c : Numbers) (j e : ℕ) (b : Bool) (own : List Vote) (heard : List Hearing) : Type 0 where
  pub round : ℕ
  pub known : round < c.rounds
  pub picked : has e (pick round (single b)) own ≡ true
  pub shares : c.f + 1 ≤ share_count c e j round heard
  pub coin : HasCoin c e j round heard b

-- What lane j of node i may cast: all is of the vote's epoch, and of rounds that the run has.
abbrev pub MayAgree : Numbers → ℕ → ℕ → List Vote → List Hearing → Vote → Type 0
MayAgree c i j own heard (Est e r b) =
    (r < c.rounds) × MayBegin c i j e r b own heard × (has e (any_est r) own ≡ false)
MayAgree c i j own heard (Bval e r b) =
    (r < c.rounds)
    × ((has e (est r b) own ≡ true) ⊎ ((has e (any_est r) own ≡ true) × (c.f + 1 ≤ support c.n e (bvals r b) heard)))
    × (has e (bval r b) own ≡ false)
MayAgree c i j own heard (Aux e r b) =
    (r < c.rounds) × (has e (any_est r) own ≡ true) × (2 * c.f + 1 ≤ support c.n e (bvals r b) heard) × (has e (any_aux r) own ≡ false)
MayAgree c i j own heard (Conf e r vals) =
    (r < c.rounds) × (confirms c ≡ true) × IsGathered c e r vals own heard × (has e (any_conf r) own ≡ false)
MayAgree c i j own heard (Pick e r vals) =
    (r < c.rounds) × IsLeftWith (confirms c) c e r vals own heard × (has e (any_pick r) own ≡ false)
MayAgree c i j own heard (Coin e r dealt_share dealt_salt branch) =
    (r < c.rounds) × (dealt_share ≡ share c e j r i) × (dealt_salt ≡ salt c e j r i)
    × (branch ≡ branch_of (leaf_digests (coin_leaves c e j r)) i) × (has e (any_pick r) own ≡ true) × (has e (any_coin r) own ≡ false)
MayAgree c i j own heard (Decided e b) =
    HasSettled c j e b own heard × (has e any_decision own ≡ false)
MayAgree c i j own heard _ = ⊥
