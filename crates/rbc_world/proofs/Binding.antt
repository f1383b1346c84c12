-- What one root binds where no two strings that count share a digest: trees of one root have equal leaves, and a valid
-- branch of a tree's root proves the tree's leaf.
use Rattle.std.proofs.Common.{◌≡◌, ℕ, ◌<◌, ◌≤◌, Bool, true, inl, inr, List, [], Contains, Some, length, slice_get, sym, ap, ◌∙◌, subst, arith}
use Rattle.std.specs.Prelude.{slice_index_or}
use Rattle.std.proofs.lemmas.Bool.{ltb-true}
use Rattle.std.proofs.lemmas.Option.{slice_get-get_or}
use Rattle.std.proofs.lemmas.List.Elements.{All-weaker}
use Rattle.hb_base.specs.Numbers.{Numbers, AreSound}
use Rattle.merkle_branch.specs.declared.Branch.{Branch}
use Rattle.merkle_branch.specs.Digests.{tree_root, tree_strings}
use Rattle.merkle_branch.specs.Branches.{IsBranch, folded_strings}
use Rattle.merkle_branch.proofs.TreeBinding.{trees_bind}
use Rattle.merkle_branch.proofs.Strings.{leaf_binds}
use Rattle.rs_shards.specs.Codeword.{IsCodeword}
use Rattle.rs_shards.specs.Rebuilding.{AreShards, IsRebuilt}
use Rattle.rs_shards.proofs.Completions.{completed-only, rebuilt-given}
use Rattle.hb_wire.specs.declared.vote.Vote.{Vote}
use Rattle.hb_wire.specs.declared.vote.Vote.TheVariants.{Echo}
use Rattle.hb_wire.specs.declared.post.Post.{Post}
use Rattle.hb_rules.specs.Claims.{is_shard_echo}
use Rattle.hb_rules.specs.Hearing.{hearing, heard_in, heard_by, own_in, said_in}
use Rattle.hb_rules.specs.Code.{data_count, AreEchoes, AreEchoed}
use Rattle.hb_rules.specs.Ledger.{IsCorrect}
use Rattle.hb_rules.specs.Strings.{IsHashed, NoCollision}
use Rattle.hb_rules.proofs.FirstShards.{data_count-some, few_nodes}
use Rattle.rbc_world.specs.Backing.{HasOneCodeword, AreHeardEchoes, IsHashedOrSaid, NoCollisionAmong}
use Rattle.rbc_world.proofs.Shown.{shard_echo_heard, shard_echo_said}

-- all of these strings count
pub record AreCounted (counts : List ℕ → Type 0) (strings : List (List ℕ)) : Type 0 where
  pub each : (string : List ℕ) → Contains strings string → counts string

pub one_tree : (c : Numbers) (history : List Post) (first second : List (List ℕ)) → NoCollision c history → length first ≡ length second
    → length first ≤ 16 → AreCounted (IsHashed c history) (tree_strings first) → AreCounted (IsHashed c history) (tree_strings second)
    → tree_root first ≡ tree_root second → first ≡ second
one_tree c history first second premise long few one other roots = elim (trees_bind first second long few roots) [
  | inl same ↦ same
  | inr collision ↦ absurd (collision.differ (premise.apart collision.one collision.other
      (one.each collision.one collision.one_in) (other.each collision.other collision.other_in) collision.same_digest))
]

one_leaf : (counts : List ℕ → Type 0) (leaves : List (List ℕ)) (m : ℕ) (leaf : List ℕ) (branch : Branch) → NoCollisionAmong counts
    → length leaves ≤ 16 → m < length leaves → AreCounted counts (tree_strings leaves) → AreCounted counts (folded_strings m leaf branch)
    → IsBranch (tree_root leaves) (length leaves) m leaf branch → slice_index_or leaves m [] ≡ leaf
one_leaf counts leaves m leaf branch premise few inside one other valid = elim (leaf_binds leaves m leaf branch few inside valid) [
  | inl same ↦ same
  | inr collision ↦ absurd (collision.differ (premise.apart collision.one collision.other
      (one.each collision.one collision.one_in) (other.each collision.other collision.other_in) collision.same_digest))
]

-- the strings of the tree over a codeword count as hashed to which k valid Echoes rebuild that a lane of a correct node heard
pub echoed-hashed : (c : Numbers) (i j e : ℕ) (root : List ℕ) (history : List Post) (shards : List (List ℕ)) → IsCorrect c i
    → AreEchoed c.n (data_count c) e root (heard_by (heard_in c i j history)) shards → AreCounted (IsHashed c history) (tree_strings shards)
echoed-hashed c i j e root history shards correct echoed = record {
  each = λ string stands. IsHashed.rebuilt i j e root echoed.got shards correct echoed.echoes echoed.rebuilt stands;
}

-- a codeword with this root, the strings of whose tree count as hashed
pub record IsBoundTo (c : Numbers) (history : List Post) (root : List ℕ) : Type 0 where
  pub shards : List (List ℕ)
  pub codeword : IsCodeword c.n (data_count c) shards
  pub root_is : tree_root shards ≡ root
  pub hashed : AreCounted (IsHashed c history) (tree_strings shards)

-- such a codeword
pub echoed-bound : (c : Numbers) (i j e : ℕ) (root : List ℕ) (history : List Post) (shards : List (List ℕ)) → IsCorrect c i
    → AreEchoed c.n (data_count c) e root (heard_by (heard_in c i j history)) shards → IsBoundTo c history root
echoed-bound c i j e root history shards correct echoed = record {
  shards = shards;
  codeword = echoed.rebuilt.codeword;
  root_is = echoed.root_is;
  hashed = echoed-hashed c i j e root history shards correct echoed;
}

-- ---- shards on the codeword

-- a shard whose branch leads to the root stands at its place, where the strings of the tree and of the branch count
shard_on_bound : (c : Numbers) (history : List Post) (root : List ℕ) (counts : List ℕ → Type 0) → AreSound c → NoCollisionAmong counts
    → (bound : IsBoundTo c history root) → AreCounted counts (tree_strings bound.shards) → (m : ℕ) (shard : List ℕ) (branch : Branch) → m < c.n
    → IsBranch root c.n m shard branch → AreCounted counts (folded_strings m shard branch) → slice_get bound.shards m ≡ Some shard
shard_on_bound c history root counts sound premise bound own m shard branch below valid folded =
    slice_get-get_or bound.shards m [] inside ∙ ap (λ (piece : List ℕ). Some piece) leaf
  where
    count : length bound.shards ≡ c.n
    count = bound.codeword.count

    inside : m < length bound.shards
    inside = omega (arith, below, count)

    there : IsBranch (tree_root bound.shards) (length bound.shards) m shard branch
    there = rw (bound.root_is, count) valid

    leaf : slice_index_or bound.shards m [] ≡ shard
    leaf = one_leaf counts bound.shards m shard branch premise (omega (arith, count, sound.nodes.1)) inside own folded there

-- so does that of a valid Echo that a lane of a correct node has heard
heard_on_bound : (c : Numbers) (i j e : ℕ) (root : List ℕ) (history : List Post) → AreSound c → NoCollision c history → (bound : IsBoundTo c history root)
    → IsCorrect c i → (x : ℕ × List ℕ) → heard_by (heard_in c i j history) x.0 (is_shard_echo c.n e root x.0 x.1) ≡ true
    → slice_get bound.shards x.0 ≡ Some x.1
heard_on_bound c i j e root history sound premise bound correct x shown =
    let echo = shard_echo_heard c.n e x.0 root x.1 (heard_in c i j history) shown in
    let stands : Contains (heard_in c i j history) (hearing x.0 (Echo e root x.1 echo.2.branch)) =
    subst (λ (vote : Vote). Contains (heard_in c i j history) (hearing x.0 vote)) echo.2.is echo.1 in
    shard_on_bound c history root (IsHashed c history) sound (record { apart = premise.apart }) bound bound.hashed x.0 x.1 echo.2.branch
    (ltb-true x.0 c.n echo.2.known) echo.2.valid
    (record { each = λ string found. IsHashed.echoed i j x.0 e root x.1 echo.2.branch correct stands found })

-- and that of one that was said, where the strings of its branch count
said_on_bound : (c : Numbers) (j e : ℕ) (root : List ℕ) (history : List Post) → AreSound c → NoCollisionAmong (IsHashedOrSaid c history)
    → (bound : IsBoundTo c history root) → (x : ℕ × List ℕ) → said_in c j history x.0 (is_shard_echo c.n e root x.0 x.1) ≡ true
    → slice_get bound.shards x.0 ≡ Some x.1
said_on_bound c j e root history sound premise bound x shown =
    let echo = shard_echo_said c j e x.0 root x.1 history shown in
    let stands : Contains (own_in c x.0 j history) (Echo e root x.1 echo.2.branch) =
    subst (λ (vote : Vote). Contains (own_in c x.0 j history) vote) echo.2.is echo.1 in
    shard_on_bound c history root (IsHashedOrSaid c history) sound premise bound
    (record { each = λ string found. IsHashedOrSaid.hashed (bound.hashed.each string found) }) x.0 x.1 echo.2.branch
    (ltb-true x.0 c.n echo.2.known) echo.2.valid
    (record { each = λ string found. IsHashedOrSaid.echoed x.0 j e root x.1 echo.2.branch stands found })

-- k shards that stand on the codeword rebuild to it
rebuilt_on : (c : Numbers) (e : ℕ) (root : List ℕ) (history : List Post) (bound : IsBoundTo c history root) (shown : ℕ → (Vote → Bool) → Bool)
    → ((x : ℕ × List ℕ) → shown x.0 (is_shard_echo c.n e root x.0 x.1) ≡ true → slice_get bound.shards x.0 ≡ Some x.1)
    → (got : List (ℕ × List ℕ)) → AreEchoes c.n (data_count c) e root shown got → IsRebuilt c.n (data_count c) got bound.shards
rebuilt_on c e root history bound shown stand got echoes =
    rebuilt-given c.n (data_count c) got bound.shards (omega (arith, echoes.enough)) bound.codeword
    (All-weaker (λ (x : ℕ × List ℕ). shown x.0 (is_shard_echo c.n e root x.0 x.1) ≡ true)
    (λ (x : ℕ × List ℕ). slice_get bound.shards x.0 ≡ Some x.1) stand got echoes.each)

-- k valid Echoes of the root that a lane of a correct node heard go on the codeword
pub on_bound : (c : Numbers) (i j e : ℕ) (root : List ℕ) (history : List Post) → AreSound c → NoCollision c history → (bound : IsBoundTo c history root)
    → IsCorrect c i → (got : List (ℕ × List ℕ)) → AreEchoes c.n (data_count c) e root (heard_by (heard_in c i j history)) got
    → IsRebuilt c.n (data_count c) got bound.shards
on_bound c i j e root history sound premise bound correct got echoes =
    rebuilt_on c e root history bound (heard_by (heard_in c i j history)) (heard_on_bound c i j e root history sound premise bound correct) got echoes

-- ---- one codeword

-- what rebuilds to the codeword rebuilds to no other
bound_alone : (c : Numbers) (history : List Post) (root : List ℕ) (counts : List (ℕ × List ℕ) → Type 0) → AreSound c → (bound : IsBoundTo c history root)
    → ((got : List (ℕ × List ℕ)) → counts got → length got ≡ data_count c) → ((got : List (ℕ × List ℕ)) → counts got → AreShards c.n got)
    → ((got : List (ℕ × List ℕ)) → counts got → IsRebuilt c.n (data_count c) got bound.shards) → HasOneCodeword c root counts
bound_alone c history root counts sound bound enough are rebuild = record {
  shards = bound.shards;
  codeword = bound.codeword;
  root_is = bound.root_is;
  rebuilt = rebuild;
  only = λ got others has other.
      let k = data_count c in
      let many : k ≤ length got = omega (arith, enough got has) in
      completed-only c.n k (data_count-some c sound) (few_nodes c sound) got many (are got has) others other
      ∙ sym (completed-only c.n k (data_count-some c sound) (few_nodes c sound) got many (are got has) bound.shards (rebuild got has));
}

-- by the Echoes that a lane of a correct node has heard
pub one_codeword : (c : Numbers) (j e : ℕ) (root : List ℕ) (history : List Post) → AreSound c → NoCollision c history → IsBoundTo c history root
    → HasOneCodeword c root (AreHeardEchoes c history j e root)
one_codeword c j e root history sound premise bound =
    bound_alone c history root (AreHeardEchoes c history j e root) sound bound
    (λ (got : List (ℕ × List ℕ)) (has : AreHeardEchoes c history j e root got). has.echoes.enough)
    (λ (got : List (ℕ × List ℕ)) (has : AreHeardEchoes c history j e root got). has.echoes.shards)
    (λ (got : List (ℕ × List ℕ)) (has : AreHeardEchoes c history j e root got).
    on_bound c has.node j e root history sound premise bound has.correct got has.echoes)

-- by those that were said
pub one_codeword_said : (c : Numbers) (j e : ℕ) (root : List ℕ) (history : List Post) → AreSound c → NoCollisionAmong (IsHashedOrSaid c history)
    → IsBoundTo c history root → HasOneCodeword c root (AreEchoes c.n (data_count c) e root (said_in c j history))
one_codeword_said c j e root history sound premise bound =
    bound_alone c history root (AreEchoes c.n (data_count c) e root (said_in c j history)) sound bound
    (λ (got : List (ℕ × List ℕ)) (has : AreEchoes c.n (data_count c) e root (said_in c j history) got). has.enough)
    (λ (got : List (ℕ × List ℕ)) (has : AreEchoes c.n (data_count c) e root (said_in c j history) got). has.shards)
    (rebuilt_on c e root history bound (said_in c j history) (said_on_bound c j e root history sound premise bound))
