use Rattle.std.proofs.Common.{◌∙◌, sym, subst}
use Rattle.hb_rules.specs.Hearing.{Hearing}
use Rattle.journaled_actor.specs.Cores.{IsHearing}
use Rattle.journaled_actor.proofs.Heard.{is_hearing}
use Rattle.journaled_actor.proofs.Left.{heard_as}
use Rattle.journaled_actor.proofs.stepping.hear_post.Goals as goal

pub hear-requires-in-Some-clause-heard : goal.hear-requires-in-Some-clause-heard
hear-requires-in-Some-clause-heard g c =
    let t = g.C.Core.terms c.args.core.now in
    subst (λ (h : Hearing). IsHearing t h) (sym c.heard.view_is)
    (is_hearing t c.args.post.now c.in-Some.heard
    (heard_as c.config.result t.config c.node.result t.node c.actor.result t.actor c.args.post.now c.in_ok-heard.heard c.config.ensures c.node.ensures c.actor.ensures
    c.in_ok-heard.ensures ∙ c.in-Some.is) c.requires.known)
