use Rattle.std.proofs.Common.{List, sym, subst, ◌∙◌}
use Rattle.hb_wire.specs.declared.post.Post.{Post}
use Rattle.observer.specs.Standing.{HasHeard}
use Rattle.observer.proofs.Arriving.{arriving_none, arriving_one}
use Rattle.observer.proofs.beside.hear_arriving.Goals as goal

pub returns-then-is_dropped-clause-heard : goal.returns-then-is_dropped-clause-heard
returns-then-is_dropped-clause-heard c = λ heard has.
    subst (λ (posts : List Post). HasHeard c.args.observer.now posts)
    (sym (arriving_none c.args.links.now c.args.node c.args.k heard c.args.post.now (sym c.is_dropped.ensures ∙ c.if-is_dropped.true))) has

pub returns-clause-heard : goal.returns-clause-heard
returns-clause-heard c = λ heard has.
    subst (λ (posts : List Post). HasHeard c.hear.new.self posts)
    (sym (arriving_one c.args.links.now c.args.node c.args.k heard c.args.post.now (sym c.is_dropped.ensures ∙ c.if-is_dropped.false)))
    (c.in_ok-hear.ensures.heard heard has)
