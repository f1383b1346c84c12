use Rattle.std.proofs.Common.{◌≡◌, ◌∙◌, ◌++◌, ◌∷◌, [], List, ℕ, length, sym, ap, arith, length-append, ◌+◌, ◌<◌, ◌^◌, All, subst}
use Rattle.rs_shards.specs.Rebuilding.{AreShards}
use Rattle.hb_rules.specs.Code.{data_count}
use Rattle.hb_rules.specs.BroadcastRows.{value_through}
use Rattle.rbc_core.proofs.Adding.{if_ok}
use Rattle.rbc_core.proofs.RootStates.{first_with-few, first_with-full, value_through-few}
use Rattle.rbc_core.proofs.roots.value_once.Goals as goal

pub returns-then-shards-k : goal.returns-then-shards-k
returns-then-shards-k c =
    let full : length c.args.shards.now ≡ data_count c.args.config.now = c.if-shards-k.true ∙ c.k-k.ensures.value in
    if_ok c.copy_of.result _ _
    (λ copy is. is ∙ c.requires.value
    ∙ ap (value_through c.args.config.now c.args.root.now) (sym (first_with-full (data_count c.args.config.now) c.args.shards.now (c.args.node, c.args.shard.now) full)))
    c.copy_of.ensures.copy

pub returns-then-shards-k-2 : goal.returns-then-shards-k-2
returns-then-shards-k-2 c =
    let few : length c.args.shards.now + 1 < data_count c.args.config.now = omega (arith, c.if-shards-k-2.true, c.k-k.ensures.value) in
    sym (ap (value_through c.args.config.now c.args.root.now) (first_with-few (data_count c.args.config.now) c.args.shards.now (c.args.node, c.args.shard.now) (omega arith))
    ∙ value_through-few c.args.config.now c.args.root.now (c.args.shards.now ++ (c.args.node, c.args.shard.now) ∷ [])
    (omega (arith, length-append c.args.shards.now ((c.args.node, c.args.shard.now) ∷ []))))

pub value_through-requires : goal.value_through-requires
value_through-requires c =
    let all : c.deref.result.now ≡ c.args.shards.now ++ (c.args.node, c.args.shard.now) ∷ [] = c.deref.ensures.value ∙ c.in_ok-got.ensures in
    record {
      shards = subst (AreShards c.args.config.now.n) (sym all) c.requires.shards;
      short = subst (λ (xs : List (ℕ × List ℕ)). All (λ (x : ℕ × List ℕ). length x.1 < 2 ^ 32) xs) (sym all) c.requires.short;
      enough =
          omega (
            arith,
            ap (λ (xs : List (ℕ × List ℕ)). length xs) all,
            length-append c.args.shards.now ((c.args.node, c.args.shard.now) ∷ []),
            c.if-shards-k.false,
            c.if-shards-k-2.false,
            c.k-k.ensures.value,
            c.requires.few,
          );
    }

pub returns : goal.returns
returns c =
    let all : c.deref.result.now ≡ c.args.shards.now ++ (c.args.node, c.args.shard.now) ∷ [] = c.deref.ensures.value ∙ c.in_ok-got.ensures in
    let less : length c.args.shards.now < data_count c.args.config.now = omega (arith, c.if-shards-k.false, c.k-k.ensures.value, c.requires.few) in
    if_ok c.value_through.result _ _
    (λ answer is. is ∙ ap (value_through c.args.config.now c.args.root.now)
    (all ∙ sym (first_with-few (data_count c.args.config.now) c.args.shards.now (c.args.node, c.args.shard.now) less)))
    c.value_through.ensures
