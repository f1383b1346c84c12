-- What stands behind the votes of a broadcast. The letters: e is an epoch, j a lane, m a node of a run with config c.
use Rattle.std.specs.Prelude.{◌≡◌, ℕ, ◌+◌, ◌<◌, ◌≤◌, List, Contains}
use Rattle.sha2.specs.Sha256.{sha256}
use Rattle.hb_base.specs.Numbers.{Numbers}
use Rattle.merkle_branch.specs.declared.Branch.{Branch}
use Rattle.merkle_branch.specs.Branches.{folded_strings}
use Rattle.merkle_branch.specs.Digests.{tree_root}
use Rattle.rs_shards.specs.Codeword.{IsCodeword}
use Rattle.rs_shards.specs.Rebuilding.{IsRebuilt}
use Rattle.hb_wire.specs.declared.vote.Vote.TheVariants.{Echo, Ready}
use Rattle.hb_wire.specs.declared.post.Post.{Post}
use Rattle.hb_rules.specs.Hearing.{heard_in, heard_by, own_in, said_in}
use Rattle.hb_rules.specs.Code.{data_count, AreEchoes, HasDelivery, ready_count}
use Rattle.hb_rules.specs.Ledger.{IsCorrect}
use Rattle.hb_rules.specs.Strings.{IsHashed}

-- ---- one codeword for a root

-- A codeword has the root, and it alone goes through the shards of any k valid Echoes for the root that count.
pub record HasOneCodeword (c : Numbers) (root : List ℕ) (counts : List (ℕ × List ℕ) → Type 0) : Type 0 where
  pub shards : List (List ℕ)
  pub codeword : IsCodeword c.n (data_count c) shards
  pub root_is : tree_root shards ≡ root
  pub rebuilt : (got : List (ℕ × List ℕ)) → counts got → IsRebuilt c.n (data_count c) got shards
  pub only : (got : List (ℕ × List ℕ)) (others : List (List ℕ)) → counts got → IsRebuilt c.n (data_count c) got others → others ≡ shards

-- lane j of a correct node has heard these k valid Echoes for the root
pub record AreHeardEchoes (c : Numbers) (history : List Post) (j e : ℕ) (root : List ℕ) (got : List (ℕ × List ℕ)) : Type 0 where
  pub node : ℕ
  pub correct : IsCorrect c node
  pub echoes : AreEchoes c.n (data_count c) e root (heard_by (heard_in c node j history)) got

-- A root for which more than f nodes are ready in a lane binds one codeword, where those Echoes count that this lane of a
-- correct node has heard.
pub record RootsAreBound (c : Numbers) (history : List Post) : Type 0 where
  pub one : (j e : ℕ) (root : List ℕ) → j < c.n → c.f + 1 ≤ ready_count c.n e root (said_in c j history)
      → HasOneCodeword c root (AreHeardEchoes c history j e root)

-- so it does where all Echoes count that were said in the lane, by whomever they were heard
pub record SaidRootsAreBound (c : Numbers) (history : List Post) : Type 0 where
  pub one : (j e : ℕ) (root : List ℕ) → j < c.n → c.f + 1 ≤ ready_count c.n e root (said_in c j history)
      → HasOneCodeword c root (AreEchoes c.n (data_count c) e root (said_in c j history))

-- ---- what the second asks of digests

-- the strings that count as hashed, and those folded by the branch of any Echo that was said, at its sender
pub data IsHashedOrSaid (c : Numbers) (history : List Post) (string : List ℕ) : Type 0 where
  hashed : IsHashed c history string → IsHashedOrSaid c history string
  echoed : (a x e : ℕ) (root shard : List ℕ) (branch : Branch) → Contains (own_in c a x history) (Echo e root shard branch)
      → Contains (folded_strings a shard branch) string → IsHashedOrSaid c history string

-- no two different strings that count have one digest
pub record NoCollisionAmong (counts : List ℕ → Type 0) : Type 0 where
  pub apart : (one other : List ℕ) → counts one → counts other → sha256 one ≡ sha256 other → one ≡ other

-- ---- deliveries

-- A value was delivered in a lane: 2f + 1 nodes have posted Ready for a root there, valid Echoes of k nodes rebuild to the
-- value under this root, and it is the root that each correct node's Ready names.
pub record IsBacked (c : Numbers) (history : List Post) (j e : ℕ) (value : List ℕ) : Type 0 where
  pub lane : j < c.n
  pub delivery : HasDelivery c e value (said_in c j history)
  pub named : (m : ℕ) (root : List ℕ) → IsCorrect c m → Contains (own_in c m j history) (Ready e root) → root ≡ delivery.root
