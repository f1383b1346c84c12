use Rattle.std.proofs.Common.{◌<◌, ◌≤◌, Bool, List, sym, ap, ◌∙◌, subst, arith}
use Rattle.hb_base.specs.NodeSet.{is_in}
use Rattle.actor_cell.specs.Boxes.{BoxesView}
use Rattle.actor_cell.proofs.Places.{place_within, place_lies, place_honest, firsts_length}
use Rattle.actor_cell.proofs.boxes.Boxes.place_of.Goals as goal

pub index-first-requires : goal.index-first-requires
index-first-requires c = grind (arith, c.self.invariant, c.self.view_is, c.requires, firsts_length c.self.inside.config c.self.inside.config.n)

pub overflow_add-result : goal.overflow_add-result
overflow_add-result c =
    let known : c.args.node < c.self.inside.config.n = subst (λ (v : BoxesView). c.args.node < v.config.n) (sym c.self.view_is) c.requires.0 in
    let actor : c.args.actor ≤ c.self.inside.config.n = subst (λ (v : BoxesView). c.args.actor ≤ v.config.n) (sym c.self.view_is) c.requires.1 in
    omega (
      arith,
      place_honest c.self.inside.config c.self.inside.firsts.items c.args.node c.args.actor c.index-first.result.now c.self.invariant.0 c.index-first.ensures known (c.if-has.ensures ∙ ap (λ (set : List Bool). is_in set c.args.node) c.liars.ensures.value),
      place_within c.self.inside.config c.args.node c.args.actor known actor,
      c.self.invariant.1,
      c.self.inside.boxes.small,
      c.self.inside.boxes.ok,
    )

pub returns-then-has-clause-place : goal.returns-then-has-clause-place
returns-then-has-clause-place c =
    let known : c.args.node < c.self.inside.config.n = subst (λ (v : BoxesView). c.args.node < v.config.n) (sym c.self.view_is) c.requires.0 in
    rw (← c.self.view_is) (place_lies c.self.inside.config c.self.inside.firsts.items c.args.node c.args.actor c.index-first.result.now c.self.invariant.0 c.index-first.ensures known (c.if-has.ensures ∙ ap (λ (set : List Bool). is_in set c.args.node) c.liars.ensures.value))

pub returns-then-has-clause-within : goal.returns-then-has-clause-within
returns-then-has-clause-within c =
    let known : c.args.node < c.self.inside.config.n = subst (λ (v : BoxesView). c.args.node < v.config.n) (sym c.self.view_is) c.requires.0 in
    let actor : c.args.actor ≤ c.self.inside.config.n = subst (λ (v : BoxesView). c.args.actor ≤ v.config.n) (sym c.self.view_is) c.requires.1 in
    rw (← c.self.view_is) (omega (
      arith,
      place_lies c.self.inside.config c.self.inside.firsts.items c.args.node c.args.actor c.index-first.result.now c.self.invariant.0 c.index-first.ensures known (c.if-has.ensures ∙ ap (λ (set : List Bool). is_in set c.args.node) c.liars.ensures.value),
      place_within c.self.inside.config c.args.node c.args.actor known actor,
      c.self.invariant.1,
    ))

pub returns-else-has-clause-place : goal.returns-else-has-clause-place
returns-else-has-clause-place c =
    let known : c.args.node < c.self.inside.config.n = subst (λ (v : BoxesView). c.args.node < v.config.n) (sym c.self.view_is) c.requires.0 in
    rw (← c.self.view_is) (place_honest c.self.inside.config c.self.inside.firsts.items c.args.node c.args.actor c.index-first.result.now c.self.invariant.0 c.index-first.ensures known (c.if-has.ensures ∙ ap (λ (set : List Bool). is_in set c.args.node) c.liars.ensures.value))

pub returns-else-has-clause-within : goal.returns-else-has-clause-within
returns-else-has-clause-within c =
    let known : c.args.node < c.self.inside.config.n = subst (λ (v : BoxesView). c.args.node < v.config.n) (sym c.self.view_is) c.requires.0 in
    let actor : c.args.actor ≤ c.self.inside.config.n = subst (λ (v : BoxesView). c.args.actor ≤ v.config.n) (sym c.self.view_is) c.requires.1 in
    rw (← c.self.view_is) (omega (
      arith,
      place_honest c.self.inside.config c.self.inside.firsts.items c.args.node c.args.actor c.index-first.result.now c.self.invariant.0 c.index-first.ensures known (c.if-has.ensures ∙ ap (λ (set : List Bool). is_in set c.args.node) c.liars.ensures.value),
      place_within c.self.inside.config c.args.node c.args.actor known actor,
      c.self.invariant.1,
    ))
