-- The votes behind what some node has shown.
use Rattle.std.proofs.Common.{◌≡◌, ℕ, Bool, true, false, ◌&&◌, ◌==◌, nat_lt, List, Contains, Option, None, Some, if◌then◌else◌, refl, sym, ap, ◌∙◌, subst}
use Rattle.std.specs.Str.{bytes_eq}
use Rattle.std.proofs.lemmas.Bool.{eqb-true, and_parts}
use Rattle.std.proofs.lemmas.Slice.Eq.{bytes_eq-Decides}
use Rattle.hb_base.specs.Numbers.{Numbers}
use Rattle.merkle_branch.specs.declared.Branch.{Branch}
use Rattle.merkle_branch.specs.Branches.{is_branch, IsBranch}
use Rattle.merkle_branch.proofs.Tested.{is_branch-is}
use Rattle.hb_wire.specs.declared.vote.Vote.{Vote}
use Rattle.hb_wire.specs.declared.vote.Vote.TheVariants.{Echo, Ready}
use Rattle.hb_wire.specs.declared.post.Post.{Post}
use Rattle.hb_rules.specs.Claims.{echoed, readied, are_these, has_root, has_both, is_echo, is_shard_echo, is_ready}
use Rattle.hb_rules.specs.Hearing.{Hearing, hearing, heard_by, own_in, said_in}
use Rattle.hb_rules.proofs.Among.{any_stands}
use Rattle.hb_rules.proofs.BroadcastSlots.{readied-is}

these_are : (bytes : List ℕ) (o : Option (List ℕ)) → are_these bytes o ≡ true → o ≡ Some bytes
these_are bytes None h = absurd (cc (h))
these_are bytes (Some others) h = ap Some (sym ((bytes_eq-Decides bytes others).0 h))

-- the Ready that was shown
pub ready_said : (c : Numbers) (x e a : ℕ) (root : List ℕ) (history : List Post) → said_in c x history a (is_ready e root) ≡ true
    → Contains (own_in c a x history) (Ready e root)
ready_said c x e a root history h =
    let found = any_stands (is_ready e root) (own_in c a x history) h in
    subst (λ (vote : Vote). Contains (own_in c a x history) vote) (readied-is e found.0 root (these_are root (readied e found.0) found.2)) found.1

-- an Echo for the root with the shard, whose branch is valid
pub record IsShardEcho (n e : ℕ) (root : List ℕ) (m : ℕ) (shard : List ℕ) (vote : Vote) : Type 0 where
  pub branch : Branch
  pub is : vote ≡ Echo e root shard branch
  pub known : nat_lt m n ≡ true
  pub valid : IsBranch root n m shard branch

shard_echo_is : (n e : ℕ) (root : List ℕ) (m : ℕ) (shard : List ℕ) (vote : Vote) → is_shard_echo n e root m shard vote ≡ true
    → IsShardEcho n e root m shard vote
shard_echo_is n e root m shard (Echo d other piece branch) passes =
    by ((d == e) && (nat_lt m n && is_branch other n m piece branch)) refl passes
  where
    by : (b : Bool) → ((d == e) && (nat_lt m n && is_branch other n m piece branch)) ≡ b
        → has_both root shard (if b then Some (other, piece) else None) ≡ true → IsShardEcho n e root m shard (Echo d other piece branch)
    by true tests h =
        let parts = and_parts (d == e) (nat_lt m n && is_branch other n m piece branch) tests in
        let inner = and_parts (nat_lt m n) (is_branch other n m piece branch) parts.1 in
        let same = and_parts (bytes_eq root other) (bytes_eq shard piece) h in
        let root_is : root ≡ other = (bytes_eq-Decides root other).0 same.0 in
        let shard_is : shard ≡ piece = (bytes_eq-Decides shard piece).0 same.1 in
        let epoch_is : d ≡ e = eqb-true d e parts.0 in
        record {
          branch = branch;
          is = cc (epoch_is, root_is, shard_is);
          known = inner.0;
          valid = rw (root_is, shard_is) (is_branch-is other n m piece branch inner.1);
        }
    by false tests h = absurd (cc (h))
shard_echo_is n e root m shard vote passes = absurd (cc (passes))

-- the Echo that was said
pub shard_echo_said : (c : Numbers) (x e m : ℕ) (root shard : List ℕ) (history : List Post)
    → said_in c x history m (is_shard_echo c.n e root m shard) ≡ true
    → (vote : Vote) × Contains (own_in c m x history) vote × IsShardEcho c.n e root m shard vote
shard_echo_said c x e m root shard history h =
    let found = any_stands (is_shard_echo c.n e root m shard) (own_in c m x history) h in
    (found.0, found.1, shard_echo_is c.n e root m shard found.0 found.2)

-- the Echo that was heard
pub shard_echo_heard : (n e m : ℕ) (root shard : List ℕ) (heard : List Hearing) → heard_by heard m (is_shard_echo n e root m shard) ≡ true
    → (vote : Vote) × Contains heard (hearing m vote) × IsShardEcho n e root m shard vote
shard_echo_heard n e m root shard heard h =
    let found = any_stands (λ (g : Hearing). (g.from == m) && is_shard_echo n e root m shard g.vote) heard h in
    let parts = and_parts (found.0.from == m) (is_shard_echo n e root m shard found.0.vote) found.2 in
    let from : found.0.from ≡ m = eqb-true found.0.from m parts.0 in (
      found.0.vote,
      subst (λ (a : ℕ). Contains heard (hearing a found.0.vote)) from found.1,
      shard_echo_is n e root m shard found.0.vote parts.1,
    )

root_only : (root shard : List ℕ) (part : List ℕ × List ℕ) → bytes_eq root part.0 ≡ true → (bytes_eq root part.0 && bytes_eq part.1 part.1) ≡ true
root_only root shard part h = rw (h, (bytes_eq-Decides part.1 part.1).1 refl) refl

-- an Echo for a root has some shard
echo_shard : (n e : ℕ) (root : List ℕ) (m : ℕ) (vote : Vote) → is_echo n e root m vote ≡ true
    → (shard : List ℕ) × (is_shard_echo n e root m shard vote ≡ true)
echo_shard n e root m vote passes = by (echoed n e m vote) refl passes
  where
    by : (o : Option (List ℕ × List ℕ)) → echoed n e m vote ≡ o → has_root root o ≡ true
        → (shard : List ℕ) × (is_shard_echo n e root m shard vote ≡ true)
    by None is h = absurd (cc (h))
    by (Some part) is h = (part.1, ap (has_both root part.1) is ∙ root_only root part.1 part h)

pub echo_said : (c : Numbers) (x e m : ℕ) (root : List ℕ) (history : List Post) → said_in c x history m (is_echo c.n e root m) ≡ true
    → (shard : List ℕ) × (branch : Branch) × Contains (own_in c m x history) (Echo e root shard branch)
echo_said c x e m root history h =
    let found = any_stands (is_echo c.n e root m) (own_in c m x history) h in
    let has = echo_shard c.n e root m found.0 found.2 in
    let shown = shard_echo_is c.n e root m has.0 found.0 has.1 in
    (has.0, shown.branch, subst (λ (vote : Vote). Contains (own_in c m x history) vote) shown.is found.1)
