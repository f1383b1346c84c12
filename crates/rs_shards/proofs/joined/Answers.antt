use Rattle.std.proofs.Common.{◌++◌, take, sym, ap, ◌∙◌, append_assoc}
use Rattle.std.specs.List.{concat}
use Rattle.rs_shards.proofs.Frames.{concat-take_more}
use Rattle.rs_shards.proofs.joined.Goals as goal

pub loop-shard-preserved : goal.loop-shard-preserved
loop-shard-preserved c =
    let front = c.args.front.now in
    let shards = c.args.shards.now in
    let i = c.loop-shard.shard-index in
    c.in_ok-extend_from_slice-2.ensures.items ∙ ap (λ xs. xs ++ c.as_slice.result.now) c.loop-shard.invariant
    ∙ append_assoc front (concat (take i shards)) c.as_slice.result.now
    ∙ ap (λ x. front ++ (concat (take i shards) ++ x)) c.as_slice.ensures
    ∙ ap (λ xs. front ++ xs) (sym (concat-take_more shards i c.shard-item.result c.loop-shard-test.true c.shard-item.is))
