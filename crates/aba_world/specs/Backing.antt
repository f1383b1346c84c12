-- What stands behind the votes of a binary agreement. The letters: e is an epoch, j a lane, i and m nodes of a run with
-- config c, r a round, b and d bits.
use Rattle.std.specs.Prelude.{◌≡◌, ℕ, ◌+◌, ◌*◌, ◌<◌, ◌≤◌, Bool, true, false, List, Contains, Some}
use Rattle.hb_base.specs.Numbers.{Numbers}
use Rattle.merkle_branch.specs.declared.Branch.{Branch}
use Rattle.merkle_branch.specs.Digests.{leaf_digests}
use Rattle.merkle_branch.specs.Branches.{branch_of}
use Rattle.coin_deal.specs.Deal.{share, salt, coin_leaves, dealt_coin}
use Rattle.coin_deal.specs.Heard.{heard_share}
use Rattle.hb_wire.specs.declared.vote.Vals.{Vals}
use Rattle.hb_wire.specs.declared.vote.Vote.{Vote}
use Rattle.hb_wire.specs.declared.vote.Vote.TheVariants.{Est, Bval, Aux, Conf, Pick, Coin, Decided, NoMore}
use Rattle.hb_wire.specs.declared.post.Post.{Post}
use Rattle.hb_rules.specs.Claims.{is_any_delivery}
use Rattle.hb_rules.specs.Hearing.{round_of, heard_in, own_in, said_in, count_shown}
use Rattle.hb_rules.specs.Marks.{single, has_bit, bvals, makes}
use Rattle.hb_rules.specs.Coins.{HasCoin}
use Rattle.hb_rules.specs.Ledger.{IsCorrect}
use Rattle.aba_world.specs.Agreed.{HasEstimate}

-- how many nodes have posted in a lane that they support a bit in a round
abbrev pub supporters : Numbers → List Post → ℕ → ℕ → ℕ → Bool → ℕ
supporters c history j e r b = count_shown c.n (said_in c j history) (makes e (bvals r b))

-- what more than f nodes support is the estimate of a correct node
pub record BitsAreEstimates (c : Numbers) (history : List Post) : Type 0 where
  pub estimate : (j e r : ℕ) (b : Bool) → j < c.n → c.f + 1 ≤ supporters c history j e r b → HasEstimate c history j e r b

-- each bit that a correct node accepts, or is left with, has 2f + 1 supporters
pub record VotesAreSupported (c : Numbers) (history : List Post) : Type 0 where
  pub auxes : (j e r i : ℕ) (b : Bool) → IsCorrect c i → Contains (own_in c i j history) (Aux e r b)
      → 2 * c.f + 1 ≤ supporters c history j e r b
  pub confs : (j e r i : ℕ) (vals : Vals) (b : Bool) → IsCorrect c i → Contains (own_in c i j history) (Conf e r vals)
      → has_bit b vals ≡ true → 2 * c.f + 1 ≤ supporters c history j e r b
  pub picks : (j e r i : ℕ) (vals : Vals) (b : Bool) → IsCorrect c i → Contains (own_in c i j history) (Pick e r vals)
      → has_bit b vals ≡ true → 2 * c.f + 1 ≤ supporters c history j e r b

-- correct nodes that are left with one bit alone in a round are left with the same
pub record PicksAgree (c : Numbers) (history : List Post) : Type 0 where
  pub one : (j e r i m : ℕ) (b d : Bool) → j < c.n → IsCorrect c i → IsCorrect c m → Contains (own_in c i j history) (Pick e r (single b))
      → Contains (own_in c m j history) (Pick e r (single d)) → b ≡ d

-- a correct lane begins with 1 as it has delivered, and with 0 as its own node's desk wants no more lanes
pub record BeginningsAreBacked (c : Numbers) (history : List Post) : Type 0 where
  pub delivered : (j e i : ℕ) → IsCorrect c i → Contains (own_in c i j history) (Est e 0 true) → said_in c j history i (is_any_delivery e) ≡ true
  pub unwanted : (j e i : ℕ) → IsCorrect c i → Contains (own_in c i j history) (Est e 0 false) → Contains (own_in c i c.n history) (NoMore e)

-- what a correct lane has heard gives no coin but the dealt one
pub record CoinsAreDealt (c : Numbers) (history : List Post) : Type 0 where
  pub dealt : (j e r i : ℕ) (b : Bool) → j < c.n → IsCorrect c i → HasCoin c e j r (heard_in c i j history) b → b ≡ dealt_coin c e j r

-- each vote of a correct lane that is about a round is about one that the run has, and a share of a coin is the dealt one
pub record VotesAreProper (c : Numbers) (history : List Post) : Type 0 where
  pub rounds : (j i r : ℕ) (vote : Vote) → IsCorrect c i → Contains (own_in c i j history) vote → round_of vote ≡ Some r → r < c.rounds
  pub shares : (j e r i dealt_share : ℕ) (dealt_salt : List ℕ) (branch : Branch) → IsCorrect c i
      → Contains (own_in c i j history) (Coin e r dealt_share dealt_salt branch)
      → heard_share i dealt_share dealt_salt branch
      ≡ heard_share i (share c e j r i) (salt c e j r i) (branch_of (leaf_digests (coin_leaves c e j r)) i)

-- The decision of a lane was settled in a round: there it was left with the bit alone, and the coin is the bit. From then on
-- correct nodes support the bit alone, and it is their estimate.
pub record IsSettled (c : Numbers) (history : List Post) (j e i : ℕ) (b : Bool) : Type 0 where
  pub round : ℕ
  pub known : round < c.rounds
  pub picked : Contains (own_in c i j history) (Pick e round (single b))
  pub coin : dealt_coin c e j round ≡ b
  pub estimates : (r m : ℕ) (d : Bool) → round < r → IsCorrect c m → Contains (own_in c m j history) (Est e r d) → d ≡ b
  pub supports : (r m : ℕ) (d : Bool) → round < r → IsCorrect c m → Contains (own_in c m j history) (Bval e r d) → d ≡ b

-- each decision of a correct node was settled in some round
pub record DecisionsAreSettled (c : Numbers) (history : List Post) : Type 0 where
  pub settled : (j e i : ℕ) (b : Bool) → j < c.n → IsCorrect c i → Contains (own_in c i j history) (Decided e b) → IsSettled c history j e i b
