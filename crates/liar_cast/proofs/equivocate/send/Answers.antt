use Rattle.std.proofs.Common.{rules, ◌≡◌, ◌<◌, ◌≤◌, length, arith, subst}
use Rattle.hb_base.specs.ByteLists.{AreBytes}
use Rattle.hb_base.specs.Limits.{longest_shard}
use Rattle.merkle_branch.specs.Branches.{IsPath}
use Rattle.liar_cast.proofs.Votes.{sent_val}
use Rattle.liar_cast.proofs.equivocate.send.Goals as goal

pub tell_vote-requires : goal.tell_vote-requires
tell_vote-requires c =
    let version = c.version-version.ensures.bounds in
    let shards = c.in_ok-shards.ensures in
    let target = c.loop-target.target in
    let same = c.in_ok-clone.ensures.cases in
    let at = c.index.ensures in
    let below : target < length c.in_ok-shards.shards.items = omega arith in
    let root : length c.root.result ≡ 32 = search rules in
    let some : 1 ≤ length c.in_ok-clone.field-0 = rw (same, at) (shards.filled target c.index.result.now below) in
    let short : length c.in_ok-clone.field-0 ≤ longest_shard = rw (same, at) (shards.short target c.index.result.now below) in
    let bytes : AreBytes c.in_ok-clone.field-0 = rw (same, at) (shards.bytes target c.index.result.now below) in
    let size : length c.in_ok-tree.tree ≡ c.n-n.result = omega arith in
    let path = subst (λ n. IsPath n c.branch-tree-then-has.result) size c.branch-tree-then-has.ensures.path in
    sent_val _ _ _ _ _ _ _ version.0 version.1 c.requires c.loop-target-test.true root some short bytes path
