use Rattle.std.proofs.Common.{◌≡◌, ◌<◌, ◌^◌, ℕ, List, length, take, sym, ap, ◌∙◌, subst, arith}
use Rattle.std.specs.Prelude.{All}
use Rattle.std.proofs.lemmas.List.Elements.{All-take}
use Rattle.rs_shards.specs.Rebuilding.{AreShards}
use Rattle.rs_shards.proofs.Completions.{AreShards-take}
use Rattle.hb_rules.specs.BroadcastRows.{shards_of}
use Rattle.hb_rules.proofs.FirstShards.{shards_of-shards}
use Rattle.rbc_judge.proofs.Shown.{shards_short}
use Rattle.rbc_judge.proofs.shards.value_of.Goals as goal

pub value_through-requires-clause-shards : goal.value_through-requires-clause-shards
value_through-requires-clause-shards c =
    let n = c.args.lane.now.config.n in
    let all = shards_of n c.args.epoch c.args.root.now c.args.heard.now in
    let found : c.in_ok-shards.shards.items ≡ all = c.in_ok-shards.ensures ∙ ap (λ m. shards_of m c.args.epoch c.args.root.now c.args.heard.now) c.n.ensures.value in
    subst (AreShards n) (sym (c.truncate.ensures.items ∙ ap (take c.k-k.result) found))
    (AreShards-take n c.k-k.result all (omega (arith, ap length found, c.if-len-k.false, c.len.ensures)) (shards_of-shards n c.args.epoch c.args.root.now c.args.heard.now))

pub value_through-requires-clause-short : goal.value_through-requires-clause-short
value_through-requires-clause-short c =
    let n = c.args.lane.now.config.n in
    let all = shards_of n c.args.epoch c.args.root.now c.args.heard.now in
    let found : c.in_ok-shards.shards.items ≡ all = c.in_ok-shards.ensures ∙ ap (λ m. shards_of m c.args.epoch c.args.root.now c.args.heard.now) c.n.ensures.value in
    subst (λ (xs : List (ℕ × List ℕ)). All (λ x. length x.1 < 2 ^ 32) xs) (sym (c.truncate.ensures.items ∙ ap (take c.k-k.result) found))
    (All-take (λ (x : ℕ × List ℕ). length x.1 < 2 ^ 32) c.k-k.result all (shards_short c.args.lane.now.config c.args.epoch c.args.root.now c.args.heard.now c.requires.spelled))
