use Rattle.std.proofs.Common.{◌≡◌, ℕ, ◌<◌, [], length, get_or, Result, Ok, Err, sym, ap, ◌∙◌, subst, arith}
use Rattle.std.specs.Result.{IfOk}
use Rattle.std.proofs.lemmas.List.{get_or_default}
use Rattle.std.proofs.lemmas.Result.{MatchResult-weaker}
use Rattle.hb_base.specs.ByteLists.{AreBytes}
use Rattle.gf_field.specs.Polynomial.{AreDistinct, AreWeightsAt, sum_of_products}
use Rattle.rs_shards.specs.Column.{indices_of, shard_at, column_of}
use Rattle.rs_shards.specs.Completing.{completed_shard}
use Rattle.rs_shards.proofs.Columns.{AreBytes-of, index_at, length-indices, get_or-indices_of, given-shard, combined-shard}
use Rattle.rs_shards.proofs.completing.shard.Goals as goal

pub returns-in-Some : goal.returns-in-Some
returns-in-Some c =
    let got = c.args.got.now in
    let i = c.in-Some.i in
    let points_bytes : AreBytes (indices_of got) = subst AreBytes c.requires.points (AreBytes-of c.args.points.now c.type_inv.points) in
    let apart : AreDistinct (indices_of got) = subst AreDistinct c.requires.points c.requires.distinct in
    let inside : i < length got = omega (arith, c.in-Some.ensures.0, ap length c.requires.points, length-indices got) in
    let at_m : index_at got i ≡ c.args.m =
    sym (get_or-indices_of got i inside) ∙ ap (λ ps. get_or ps i 0) (sym c.requires.points) ∙ c.in-Some.ensures.1 in
    MatchResult-weaker c.clone.result c.clone.ensures.cases
    (λ shard is.
    is ∙ ap (λ x. x.1) (get_or_default got i c.index-got-i.result (0, []) inside)
    ∙ given-shard got points_bytes apart c.requires.even c.args.m i inside at_m)
    (λ _ _. tt)

-- what two clauses say of the value
if_ok-both : {T E : Type 0} (r : Result T E) (P Q R : T → Type 0) → ((x : T) → P x → Q x → R x) → IfOk r P → IfOk r Q → IfOk r R
if_ok-both (Ok x) P Q R f p q = f x p q
if_ok-both (Err e) P Q R f p q = p

pub returns-in_ok-weights-in-None : goal.returns-in_ok-weights-in-None
returns-in_ok-weights-in-None c =
    let got = c.args.got.now in
    let m = c.args.m in
    let weights = c.deref.result.now in
    let points_bytes : AreBytes (indices_of got) = subst AreBytes c.requires.points (AreBytes-of c.args.points.now c.type_inv.points) in
    let apart : AreDistinct (indices_of got) = subst AreDistinct c.requires.points c.requires.distinct in
    let are : AreWeightsAt m (indices_of got) weights =
    subst (λ ps. AreWeightsAt m ps weights) c.requires.points
    (subst (AreWeightsAt m c.args.points.now) (sym c.deref.ensures.value) c.in_ok-weights-in-None.ensures.weights) in
    let long : length weights ≡ length got =
    ap length c.deref.ensures.value ∙ c.in_ok-weights-in-None.ensures.len ∙ ap length c.requires.points ∙ length-indices got in
    if_ok-both c.combination.result (λ shard. length shard ≡ length (shard_at got 0))
    (λ shard. (column : ℕ) → column < length (shard_at got 0) → get_or shard column 0 ≡ sum_of_products weights (column_of got column))
    (λ shard. shard ≡ completed_shard got m)
    (λ shard wide sums. combined-shard got points_bytes apart c.requires.even m shard weights (omega arith) wide long are sums)
    c.combination.ensures.len c.combination.ensures.bytes
