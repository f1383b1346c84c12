use Rattle.std.proofs.Common.{◌≡◌, suc, ◌+◌, ◌++◌, length, replicate, ap, ◌∙◌, arith}
use Rattle.rs_shards.specs.Frame.{frame, with_length, padding}
use Rattle.rs_shards.proofs.framed.Goals as goal

pub returns : goal.returns
unfolding frame
returns c =
    let value = c.args.value.now in
    let long : 4 + length value ≡ suc (suc (suc (suc (length value)))) = omega arith in
    let count : c.loop.counter ≡ padding c.args.k (4 + length value) = omega arith in
    c.loop.invariant ∙ ap (λ n. with_length value ++ replicate n 0) (count ∙ ap (padding c.args.k) long)
