-- The shares of a coin that were heard from nodes, and the coin that they give (Shamir, How to Share a Secret, CACM 1979).
-- Letters: c is the numbers of a run, e an epoch, j a lane, r a round, m a node.
use Rattle.std.specs.Prelude.{◌≡◌, ◌≢◌, ℕ, ◌+◌, ◌<◌, ◌==◌, nat_lt, Bool, ◌&&◌, not, if◌then◌else◌, List, [], ◌∷◌, ◌++◌, length, map, All, AllPairs, Contains}
use Rattle.std.specs.List.{list_any}
use Rattle.hb_base.specs.ByteLists.{AreBytes}
use Rattle.gf_field.specs.Polynomial.{polynomial_at, Interpolates}
use Rattle.gf_field.specs.Interpolation.{interpolation}
use Rattle.merkle_branch.specs.declared.Branch.{Branch}
use Rattle.merkle_branch.specs.Digests.{leaf_digests, tree_strings}
use Rattle.merkle_branch.specs.Branches.{IsBranch, is_branch, branch_of, folded_strings, Collision, IsPath}
use Rattle.hb_base.specs.Numbers.{Numbers}
use Rattle.coin_deal.specs.Deal.{IsCoin, coin_leaf, coin_leaves, coin_root, coin_of}

-- a share of a node, with the salt and the branch that came with it
pub record HeardShare : Type 0 where
  pub node : ℕ
  pub share : ℕ
  pub salt : List ℕ
  pub branch : Branch

abbrev pub heard_share : ℕ → ℕ → List ℕ → Branch → HeardShare
heard_share m share salt branch = record { node = m; share = share; salt = salt; branch = branch }

-- ---- good shares

-- the share and the salt are the leaf of its node, among n, under this root
pub record IsGood (root : List ℕ) (n : ℕ) (a : HeardShare) : Type 0 where
  pub node : a.node < n
  pub branch : IsBranch root n a.node (a.share ∷ a.salt) a.branch

-- whether they are
abbrev pub is_good : List ℕ → ℕ → HeardShare → Bool
is_good root n a = nat_lt a.node n && is_branch root n a.node (a.share ∷ a.salt) a.branch

-- a good share of a node, under the published root of a dealt coin
abbrev pub IsGoodShare : Numbers → ℕ → ℕ → ℕ → ℕ → ℕ → List ℕ → Branch → Type 0
IsGoodShare c e j r m share salt branch = IsGood (coin_root c e j r) c.n (heard_share m share salt branch)

-- whether it is one
abbrev pub is_good_share : Numbers → ℕ → ℕ → ℕ → ℕ → ℕ → List ℕ → Branch → Bool
is_good_share c e j r m share salt branch = is_good (coin_root c e j r) c.n (heard_share m share salt branch)

-- good shares, one a node
pub record AreGood (root : List ℕ) (n : ℕ) (shares : List HeardShare) : Type 0 where
  pub good : All (IsGood root n) shares
  pub one_a_node : AllPairs (λ a b. a.node ≢ b.node) shares

-- f + 1 good shares of a dealt coin, of different nodes
pub record IsChoice (c : Numbers) (e j r : ℕ) (shares : List HeardShare) : Type 0 where
  pub count : length shares ≡ c.f + 1
  pub good : AreGood (coin_root c e j r) c.n shares

-- ---- shares that are taken as they come

-- whether one of them is of this node
abbrev pub has_share_of : List HeardShare → ℕ → Bool
has_share_of shares m = list_any (λ a. a.node == m) shares

-- those that count, where one more is heard: it counts if it is good and the first of its node
abbrev pub with_heard : List ℕ → ℕ → List HeardShare → HeardShare → List HeardShare
with_heard root n shares a = if (not (has_share_of shares a.node) && is_good root n a) then shares ++ a ∷ [] else shares

-- ---- the coin of shares

-- node m stands at the point m + 1
abbrev pub points : List HeardShare → List ℕ
points shares = map (λ a. a.node + 1) shares

abbrev pub values : List HeardShare → List ℕ
values shares = map (λ a. a.share) shares

-- the polynomial through the shares
abbrev pub polynomial_through : List HeardShare → List ℕ
polynomial_through shares = interpolation (points shares) (values shares)

-- the coin that they give: the low bit of its value at 0
abbrev pub coin_through : List HeardShare → Bool
coin_through shares = coin_of (polynomial_at (polynomial_through shares) 0)

-- a coin that they give by any polynomial of a degree below their number
pub record IsCoinOf (shares : List HeardShare) (coin : Bool) : Type 0 where
  pub polynomial : List ℕ
  pub through : Interpolates (points shares) (values shares) polynomial
  pub low_bit : coin ≡ coin_of (polynomial_at polynomial 0)

-- ---- hashed strings

-- the strings that are hashed for a coin's tree: those of its leaves and of its inner nodes
abbrev pub coin_strings : Numbers → ℕ → ℕ → ℕ → List (List ℕ)
coin_strings c e j r = tree_strings (coin_leaves c e j r)

-- the strings that are hashed for the deal: those of every coin's tree
pub record IsDealString (c : Numbers) (string : List ℕ) : Type 0 where
  pub e : ℕ
  pub j : ℕ
  pub r : ℕ
  pub coin : IsCoin c e j r
  pub found : Contains (coin_strings c e j r) string

-- the strings that are hashed to check a share, by the branch that came with it
abbrev pub checked_strings : HeardShare → List (List ℕ)
checked_strings a = folded_strings a.node (a.share ∷ a.salt) a.branch

-- among the strings that are hashed to check the dealt leaf of the share's node, by its branch in the dealt tree,
-- and those hashed to check the share are two different ones with one digest
abbrev pub Collides : Numbers → ℕ → ℕ → ℕ → HeardShare → Type 0
Collides c e j r a =
    Collision (folded_strings a.node (coin_leaf c e j r a.node) (branch_of (leaf_digests (coin_leaves c e j r)) a.node)) (checked_strings a)

-- ---- what a vote asks of a share

-- a byte, a salt of 16 bytes, and the path of a leaf among n
pub record HasForm (n : ℕ) (a : HeardShare) : Type 0 where
  pub byte : a.share < 256
  pub salt : length a.salt ≡ 16
  pub salt_bytes : AreBytes a.salt
  pub path : IsPath n a.branch
