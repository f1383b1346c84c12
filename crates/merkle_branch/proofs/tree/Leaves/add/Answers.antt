use Rattle.std.proofs.Common.{◌∙◌, subst, sym}
use Rattle.merkle_branch.specs.Digests.{IsDigest, leaf_string}
use Rattle.merkle_branch.proofs.Paths.{is_digest}
use Rattle.merkle_branch.proofs.LeavesLemmas.{one_taken, one_shown, leaf_digests-push}
use Rattle.merkle_branch.proofs.tree.Leaves.add.Goals as goal

pub invariant_of-self : goal.invariant_of-self
invariant_of-self c =
    let a = c.self.inside in
    one_taken a.count a.digests c.args.self.now c.hash_leaf.result c.self.told c.self.view_is c.requires
    (subst IsDigest (sym c.hash_leaf.ensures) (is_digest (leaf_string a.count c.args.leaf.now))) c.self.invariant

pub returns-clause-digest : goal.returns-clause-digest
returns-clause-digest c =
    let a = c.self.inside in
    one_shown a.count a.digests c.args.self.now c.hash_leaf.result c.args.leaf.now c.self.told c.self.view_is c.requires c.self.invariant c.hash_leaf.ensures

pub returns-clause-leaves : goal.returns-clause-leaves
returns-clause-leaves c = λ leaves held.
    let a = c.self.inside in
    one_shown a.count a.digests c.args.self.now c.hash_leaf.result c.args.leaf.now c.self.told c.self.view_is c.requires c.self.invariant c.hash_leaf.ensures
    ∙ leaf_digests-push c.args.self.now leaves c.args.leaf.now held
