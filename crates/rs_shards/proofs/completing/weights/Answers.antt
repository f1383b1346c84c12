use Rattle.std.proofs.Common.{◌+◌, [], ◌∷◌, length, ap, ◌∙◌, length-append}
use Rattle.gf_field.specs.Interpolation.{basis_polynomial}
use Rattle.rs_shards.proofs.Weights.{one_weight_more}
use Rattle.rs_shards.proofs.completing.weights.Goals as goal

pub loop-i-preserved : goal.loop-i-preserved
loop-i-preserved c =
    let points = c.args.points.now in
    let i = c.loop-i.i in
    let cs = basis_polynomial points i in
    let exists = c.basis_at.ensures.exists in
    record {
      count = ap length c.in_ok-push.ensures.items ∙ length-append c.loop-i.weights.items (c.basis_at.result ∷ []) ∙ ap (λ n. n + 1) c.loop-i.invariant.count;
      so_far = one_weight_more points c.loop-i.weights.items c.push.new.self.items c.args.x i c.basis_at.result
          c.loop-i.invariant.count c.in_ok-push.ensures.items cs exists (c.basis_at.ensures.value cs exists) c.loop-i.invariant.so_far;
    }
