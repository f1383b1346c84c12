use Rattle.std.proofs.Common.{◌≡◌, length, ap, sym, ◌∙◌}
use Rattle.merkle_branch.proofs.LeavesLemmas.{length-leaf_digests_from}
use Rattle.merkle_branch.specs.Digests.{leaf_digests}
use Rattle.rs_shards.specs.Completing.{encoded}
use Rattle.rbc_judge.proofs.known.Encoding.of.Goals as goal

pub invariant_of-result : goal.invariant_of-result
invariant_of-result c =
    let held : c.deref.result.now ≡ c.in_ok-shards.shards.items = c.deref.ensures.value in
    record {
      count = c.in_ok-shards.ensures.encoding.codeword.count;
      size = ap length c.in_ok-tree.ensures ∙ length-leaf_digests_from 0 c.deref.result.now ∙ ap length held ∙ c.in_ok-shards.ensures.encoding.codeword.count;
      shards = c.in_ok-shards.ensures.encoded ∙ ap (encoded c.n-n.result c.k-k.result) (c.as_slice.ensures ∙ sym c.in_ok-clone.ensures.cases);
      tree = c.in_ok-tree.ensures ∙ ap leaf_digests held;
    }
