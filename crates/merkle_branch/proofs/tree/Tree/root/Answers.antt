use Rattle.std.proofs.Common.{◌+◌, ◌*◌, ◌-◌, ◌≤◌, ◌^◌, ◌∙◌, ◌≡◌, length, ap, get_or, arith}
use Rattle.std.proofs.lemmas.List.{get_or_read}
use Rattle.std.proofs.Math.Nat.{one-le-pow}
use Rattle.merkle_branch.specs.Digests.{no_digest}
use Rattle.merkle_branch.proofs.HeightLemmas.{height_fits}
use Rattle.merkle_branch.proofs.TreeLemmas.{last_is_root}
use Rattle.merkle_branch.proofs.tree.Tree.root.Goals as goal

pub returns : goal.returns
returns c =
    let a = c.self.inside in
    let tree = c.self.invariant in
    let fits : a.count ≤ 2 ^ a.height = rw tree.is_height (height_fits a.count tree.few) in
    let total : length a.nodes.items + 1 ≡ 2 * 2 ^ a.height = tree.size in
    let some : 1 ≤ 2 ^ a.height = one-le-pow a.height 2 (omega arith) in
    let len : c.len.result ≡ length a.nodes.items = omega (arith, a.nodes.ok) in
    get_or_read a.nodes.items (c.len.result - 1) c.index.result.now (omega arith) c.index.ensures no_digest
    ∙ ap (λ n. get_or a.nodes.items (n - 1) no_digest) len
    ∙ last_is_root a.count a.height a.nodes.items c.args.self.now tree fits c.self.view_is
