use Rattle.std.proofs.Common.{List, sym, subst, ◌∙◌, arith}
use Rattle.hb_wire.specs.declared.post.Post.{Post}
use Rattle.observer.specs.Standing.{HasHeard}
use Rattle.observer.proofs.Arriving.{arriving_step, arriving_all}
use Rattle.observer.proofs.beside.observer_beside.Goals as goal

pub loop-k-preserved : goal.loop-k-preserved
loop-k-preserved c =
    let report = c.args.report.now in
    let x = c.index-posts-k.result in
    record {
      config = c.in_ok-hear_arriving.ensures.config ∙ c.loop-k.invariant.config;
      heard = subst (λ (posts : List Post). HasHeard c.hear_arriving.new.observer posts)
          (sym (arriving_step c.as_slice-links.result.now report.script.links.items c.as_slice-posts.result.now report.history.items c.args.node c.loop-k.k
          x x c.as_slice-links.ensures.value c.as_slice-posts.ensures.value (omega arith) c.index-posts-k.is))
          (c.in_ok-hear_arriving.ensures.heard _ c.loop-k.invariant.heard);
    }

pub returns : goal.returns
returns c =
    let report = c.args.report.now in
    record {
      config = c.loop-k.invariant.config;
      heard = subst (λ (posts : List Post). HasHeard c.loop-k.observer posts)
          (arriving_all report.script.links.items c.as_slice-posts.result.now report.history.items c.args.node c.loop-k.k c.as_slice-posts.ensures.value
          (omega arith)) c.loop-k.invariant.heard;
    }
