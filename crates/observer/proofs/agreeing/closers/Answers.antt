use Rattle.std.proofs.Common.{◌||◌, ◌∷◌, [], List, Bool, take, sym, ap, ◌∙◌, arith}
use Rattle.hb_wire.specs.declared.post.Post.{Post}
use Rattle.observer.specs.Agreeing.{is_closer}
use Rattle.observer.specs.Beside.{arriving}
use Rattle.observer.proofs.Arriving.{arriving_step, arriving_all}
use Rattle.observer.proofs.Closers.{closer_append}
use Rattle.observer.proofs.agreeing.closers.Goals as goal

pub loop-k-preserved : goal.loop-k-preserved
loop-k-preserved c =
    let report = c.args.report.now in
    let x = c.index-posts-k.result in
    let before : List Post = arriving report.script.links.items c.args.node 0 (take c.loop-k.k report.history.items) in
    let more : List Post = arriving c.as_slice-links.result.now c.args.node c.loop-k.k (x ∷ []) in
    λ i.
    c.with_closer-nodes.ensures i ∙ ap (λ (b : Bool). b || is_closer report.config more c.args.e i) (c.loop-k.invariant i)
    ∙ sym (closer_append report.config before more c.args.e i)
    ∙ ap (λ (heard : List Post). is_closer report.config heard c.args.e i)
    (sym (arriving_step c.as_slice-links.result.now report.script.links.items c.as_slice-posts.result.now report.history.items c.args.node c.loop-k.k
    x x c.as_slice-links.ensures.value c.as_slice-posts.ensures.value (omega arith) c.index-posts-k.is))

pub returns : goal.returns
returns c =
    let report = c.args.report.now in
    λ i.
    c.loop-k.invariant i
    ∙ ap (λ (heard : List Post). is_closer report.config heard c.args.e i)
    (arriving_all report.script.links.items c.as_slice-posts.result.now report.history.items c.args.node c.loop-k.k c.as_slice-posts.ensures.value (omega arith))
