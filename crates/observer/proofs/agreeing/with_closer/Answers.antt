use Rattle.std.proofs.Common.{sym, ◌∙◌, arith}
use Rattle.hb_base.specs.NodeSet.{is_in}
use Rattle.observer.proofs.Closers.{kept_dropped, kept_open, added_closer, closing_known}
use Rattle.observer.proofs.agreeing.with_closer.Goals as goal

pub returns-then-is_dropped : goal.returns-then-is_dropped
returns-then-is_dropped c = λ i.
    kept_dropped c.args.config.now c.args.links.now c.args.node c.args.k c.args.e i c.args.post.now (is_in c.args.nodes i)
    (sym c.is_dropped.ensures ∙ c.if-is_dropped.true)

pub returns-then-not-closes : goal.returns-then-not-closes
returns-then-not-closes c = λ i.
    kept_open c.args.config.now c.args.links.now c.args.node c.args.k c.args.e i c.args.post.now (is_in c.args.nodes i)
    (sym c.is_dropped.ensures ∙ c.if-is_dropped.false) (sym c.closes.ensures ∙ c.if-not-closes.true)

pub add-requires : goal.add-requires
add-requires c =
    omega (arith, closing_known c.args.config.now c.args.post.now c.args.e (sym c.closes.ensures ∙ c.if-not-closes.false), c.liars-sound.ensures.sound.nodes.1)

pub returns : goal.returns
returns c = λ i.
    c.add.ensures.members i
    ∙ added_closer c.args.config.now c.args.links.now c.args.node c.args.k c.args.e i c.args.post.now (is_in c.args.nodes i)
    (sym c.is_dropped.ensures ∙ c.if-is_dropped.false) (sym c.closes.ensures ∙ c.if-not-closes.false)
