use Rattle.std.proofs.Common.{sym, ◌∙◌, [], ◌≡◌, ◌+◌, ◌/◌, get_or, drop}
use Rattle.std.proofs.lemmas.List.{at_drop_more}
use Rattle.sha2.specs.Sha256.{sha256}
use Rattle.merkle_branch.specs.Branches.{folded, parent_string}
use Rattle.merkle_branch.proofs.fold.Goals as goal

pub loop-sibling-preserved : goal.loop-sibling-preserved
loop-sibling-preserved c =
    let p = c.loop-sibling.position in
    let i = c.loop-sibling.sibling-index in
    let all = c.args.siblings.now in
    let step : folded p c.loop-sibling.digest (drop i all) ≡ folded (p / 2) (sha256 (parent_string p c.loop-sibling.digest (get_or all i []))) (drop (i + 1) all) =
    at_drop_more (folded p c.loop-sibling.digest) all i [] c.loop-sibling-test.true
    in
    let kept : folded p c.loop-sibling.digest (drop i all) ≡ folded c.args.position c.args.digest all = c.loop-sibling.invariant in
    rw c.hash_above-digest.ensures (sym step ∙ kept)
