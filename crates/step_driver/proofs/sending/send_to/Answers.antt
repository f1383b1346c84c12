use Rattle.std.proofs.Common.{Bool, inl, inr, refl, ap, ◌∙◌, subst, ℕ}
use Rattle.std.proofs.lemmas.Result.{on_ok_weaker}
use Rattle.net_script.specs.Delivery.{shape_of}
use Rattle.net_script.specs.declared.script.Shape.{Shape}
use Rattle.step_driver.specs.Waiting.{envelope, with_envelope}
use Rattle.step_driver.specs.Places.{spot_of}
use Rattle.step_driver.specs.Delivering.{IsReachedBy}
use Rattle.step_driver.proofs.sending.send_to.Goals as goal

pub returns-then-not-is_reached : goal.returns-then-not-is_reached
returns-then-not-is_reached g c =
    inl (subst (λ (told : Bool). IsReachedBy c.args.config.now c.args.post.now (spot_of g.A.Actor.seat g.A.Actor.view c.args.place.now) told) c.if-not-is_reached.true c.is_reached.ensures, refl)

pub returns : goal.returns
returns g c =
    on_ok_weaker c.add.result (λ added. inr (added ∙ ap (λ (shape : Shape). with_envelope shape (envelope c.args.k c.args.number) c.args.line.now)
    (c.shape-shape.ensures ∙ ap (λ (node : ℕ). shape_of c.args.script.now.links.items c.args.post.now.from node c.args.k) c.node.ensures))) c.add.ensures
