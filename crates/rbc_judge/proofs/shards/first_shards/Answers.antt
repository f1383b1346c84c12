use Rattle.std.proofs.Common.{◌≡◌, ℕ, List, true, sym, ap, ◌∙◌, subst, arith}
use Rattle.std.specs.Option.{option_copied, option_map}
use Rattle.hb_rules.specs.Hearing.{Hearing}
use Rattle.rbc_judge.specs.Checked.{is_checked}
use Rattle.rbc_judge.specs.Shown.{with_some}
use Rattle.rbc_judge.proofs.Shown.{shards_next}
use Rattle.rbc_judge.proofs.shards.first_shards.Goals as goal

pub loop-said-preserved : goal.loop-said-preserved
loop-said-preserved c =
    let h : Hearing = c.said-item.result in
    let checked : is_checked c.args.n h.from h.vote ≡ true =
    subst (λ (g : Hearing). is_checked c.args.n g.from g.vote ≡ true) (sym c.said-item.is)
    (c.requires c.loop-said.said-index h (omega (arith, c.loop-said-test.true))) in
    shards_next c.args.n c.args.epoch c.args.root.now c.args.heard.now c.loop-said.said-index h
    (option_map (λ (bytes : List ℕ). (h.from, bytes)) (option_copied c.shard_in-shard.result))
    c.loop-said.shards.items c.add_first.new.shards.items (omega (arith, c.loop-said-test.true)) c.said-item.is
    (c.shard_in-shard.ensures c.args.n checked) c.loop-said.invariant
    (c.in_ok-add_first.ensures
    ∙ ap (λ (g : Hearing). with_some c.loop-said.shards.items (option_map (λ (bytes : List ℕ). (g.from, bytes)) (option_copied c.shard_in-shard.result)))
    c.said.view_is)
