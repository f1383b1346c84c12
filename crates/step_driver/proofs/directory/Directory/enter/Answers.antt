use Rattle.std.proofs.Common.{ℕ, ◌+◌, ap, subst}
use Rattle.std.proofs.lemmas.Result.{on_ok_weaker}
use Rattle.step_driver.specs.Places.{spot_of, name_of}
use Rattle.step_driver.specs.Directory.{Groups, IsEntered}
use Rattle.step_driver.proofs.Directories.{IsEntered-correct, IsEntered-lying}
use Rattle.step_driver.proofs.directory.Directory.enter.Goals as goal

pub returns-in_ok-add_to-in-Correct : goal.returns-in_ok-add_to-in-Correct
returns-in_ok-add_to-in-Correct g c =
    let old : Groups = record { of_node = c.self.inside.of_node.items; of_actor = c.self.inside.of_actor.items } in
    let new : Groups = record { of_node = c.add_to.new.groups.items; of_actor = c.add_to-in-Correct.new.groups.items } in
    on_ok_weaker c.add_to-in-Correct.result
    (λ grown. subst (λ (before : Groups). IsEntered c.args.config.now.n (name_of (spot_of g.A.Actor.seat g.A.Actor.view c.args.place.now)) c.args.number before new) c.self.view_is
    (IsEntered-correct g.A.Actor.seat g.A.Actor.view c.args.config.now.n c.node.result c.actor.result c.args.number c.args.place.now c.in-Correct.player old new
    c.in-Correct.is c.node.ensures c.actor.ensures c.in_ok-add_to-in-Correct.ensures grown)) c.add_to-in-Correct.ensures

pub returns-in_ok-add_to-in-Lying : goal.returns-in_ok-add_to-in-Lying
returns-in_ok-add_to-in-Lying g c =
    let old : Groups = record { of_node = c.self.inside.of_node.items; of_actor = c.self.inside.of_actor.items } in
    let new : Groups = record { of_node = c.add_to-in-Lying.new.groups.items; of_actor = c.add_to_each.new.groups.items } in
    on_ok_weaker c.add_to_each.result
    (λ grown. subst (λ (before : Groups). IsEntered c.args.config.now.n (name_of (spot_of g.A.Actor.seat g.A.Actor.view c.args.place.now)) c.args.number before new) c.self.view_is
    (IsEntered-lying g.A.Actor.seat g.A.Actor.view c.args.config.now.n c.node-in-Lying.result (c.n.result + 1) c.args.number c.args.place.now c.in-Lying.hired old new
    c.in-Lying.is c.node-in-Lying.ensures (ap (λ (m : ℕ). m + 1) c.n.ensures.value) c.in_ok-add_to-in-Lying.ensures grown)) c.add_to_each.ensures
