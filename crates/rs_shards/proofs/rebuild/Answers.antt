use Rattle.std.proofs.Common.{◌≡◌, ◌≤◌, true, false, take, sym, ◌∙◌, subst, arith}
use Rattle.rs_shards.specs.Rebuilding.{IsRebuilt}
use Rattle.rs_shards.specs.Completing.{are_even}
use Rattle.rs_shards.proofs.Completions.{are_even-is, uneven, completed-take, completed-rebuilt, completed-only, rebuilt-even, rebuilt-given}
use Rattle.rs_shards.proofs.rebuild.Goals as goal

-- shards of a codeword are never told as uneven
pub returns-in-Some-clause-gives_back : goal.returns-in-Some-clause-gives_back
returns-in-Some-clause-gives_back c shards enough h given =
    let k = c.args.k in
    let got = c.args.got.now in
    let few : c.args.n ≤ 256 = omega arith in
    let r : IsRebuilt c.args.n k got shards = rebuilt-given c.args.n k got shards enough h given in
    let even : are_even (take k got) ≡ true = are_even-is (take k got) (rebuilt-even c.args.n k c.requires.some few got enough c.requires.shards shards r) in
    let odd : are_even (take k got) ≡ false = uneven (take k got) c.in-Some.b c.in-Some.ensures.1 in
    let no : true ≡ false = sym even ∙ odd in
    cc

pub returns-in-Some-clause-uneven : goal.returns-in-Some-clause-uneven
returns-in-Some-clause-uneven c a b same = uneven (take c.args.k c.args.got.now) c.in-Some.b c.in-Some.ensures.1

pub returns-in-Ok-clause-completed : goal.returns-in-Ok-clause-completed
returns-in-Ok-clause-completed c = c.in-Ok.ensures ∙ completed-take c.args.n c.args.k c.args.got.now

pub returns-in-Ok-clause-even : goal.returns-in-Ok-clause-even
returns-in-Ok-clause-even c = are_even-is (take c.args.k c.args.got.now) c.in_default.ensures.1

pub returns-in-Ok-clause-rebuilt : goal.returns-in-Ok-clause-rebuilt
returns-in-Ok-clause-rebuilt c enough none =
    let few : c.args.n ≤ 256 = omega arith in
    subst (IsRebuilt c.args.n c.args.k c.args.got.now) (sym (returns-in-Ok-clause-completed c))
    (completed-rebuilt c.args.n c.args.k c.requires.some few c.args.got.now enough c.requires.shards c.in_default.ensures.1)

pub returns-in-Ok-clause-gives_back : goal.returns-in-Ok-clause-gives_back
returns-in-Ok-clause-gives_back c shards enough h given =
    let few : c.args.n ≤ 256 = omega arith in
    returns-in-Ok-clause-completed c
    ∙ sym (completed-only c.args.n c.args.k c.requires.some few c.args.got.now enough c.requires.shards shards
    (rebuilt-given c.args.n c.args.k c.args.got.now shards enough h given))
