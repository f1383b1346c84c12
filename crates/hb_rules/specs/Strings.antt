-- Which strings count as hashed in a run, and the premise that no two of them have one digest.
use Rattle.std.specs.Prelude.{◌≡◌, ℕ, List, ◌∷◌, Contains}
use Rattle.sha2.specs.Sha256.{sha256}
use Rattle.hb_base.specs.Numbers.{Numbers}
use Rattle.merkle_branch.specs.declared.Branch.{Branch}
use Rattle.merkle_branch.specs.Digests.{tree_strings}
use Rattle.merkle_branch.specs.Branches.{folded_strings}
use Rattle.rs_shards.specs.Completing.{IsEncoding}
use Rattle.rs_shards.specs.Rebuilding.{IsRebuilt}
use Rattle.coin_deal.specs.Heard.{IsDealString}
use Rattle.hb_wire.specs.declared.vote.Vote.TheVariants.{Val, Echo, Coin, Propose}
use Rattle.hb_wire.specs.declared.post.Post.{Post}
use Rattle.hb_rules.specs.Hearing.{hearing, heard_in, heard_by, own_in}
use Rattle.hb_rules.specs.Code.{data_count, AreEchoes}
use Rattle.hb_rules.specs.Ledger.{IsCorrect}

-- The strings that count as hashed in a run with this history: those of the deal, of what correct nodes propose, and of what
-- they hear. The letters: i is a correct node, j its lane, e an epoch, r a round, and a the node whose vote was heard.
pub data IsHashed (c : Numbers) (history : List Post) (string : List ℕ) : Type 0 where
  -- those of the trees of the deal
  dealt : IsDealString c string → IsHashed c history string
  -- those of the tree over the codeword of a value that a correct desk has proposed
  proposed : (i e : ℕ) (value : List ℕ) (shards : List (List ℕ)) → IsCorrect c i → Contains (own_in c i c.n history) (Propose e value)
      → IsEncoding c.n (data_count c) value shards → Contains (tree_strings shards) string → IsHashed c history string
  -- those folded by the branch of a Val that a correct node hears, at this node
  sent : (i j e : ℕ) (root shard : List ℕ) (branch : Branch) → IsCorrect c i
      → Contains (heard_in c i j history) (hearing j (Val e i root shard branch))
      → Contains (folded_strings i shard branch) string → IsHashed c history string
  -- those folded by the branch of an Echo that a correct node hears, at its sender
  echoed : (i j a e : ℕ) (root shard : List ℕ) (branch : Branch) → IsCorrect c i
      → Contains (heard_in c i j history) (hearing a (Echo e root shard branch))
      → Contains (folded_strings a shard branch) string → IsHashed c history string
  -- those folded by the branch of a share of a coin that a correct node hears, at its sender
  shown : (i j a e r share : ℕ) (salt : List ℕ) (branch : Branch) → IsCorrect c i
      → Contains (heard_in c i j history) (hearing a (Coin e r share salt branch))
      → Contains (folded_strings a (share ∷ salt) branch) string → IsHashed c history string
  -- those of the tree over the codeword through the shards of k valid Echoes for a root that a lane of a correct node hears
  rebuilt : (i j e : ℕ) (root : List ℕ) (got : List (ℕ × List ℕ)) (shards : List (List ℕ)) → IsCorrect c i
      → AreEchoes c.n (data_count c) e root (heard_by (heard_in c i j history)) got → IsRebuilt c.n (data_count c) got shards
      → Contains (tree_strings shards) string → IsHashed c history string

-- no two different strings that count as hashed have one digest
pub record NoCollision (c : Numbers) (history : List Post) : Type 0 where
  pub apart : (one other : List ℕ) → IsHashed c history one → IsHashed c history other → sha256 one ≡ sha256 other → one ≡ other
