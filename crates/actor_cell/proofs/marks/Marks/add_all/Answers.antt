use Rattle.std.proofs.Common.{◌<◌, ◌==◌, ◌&&◌, ◌||◌, Bool, nat_lt, sym, ap, ◌∙◌, arith}
use Rattle.std.proofs.lemmas.Bool.{lt-ltb}
use Rattle.actor_cell.specs.Marks.{is_marked}
use Rattle.actor_cell.proofs.Marking.{below_or_at, row_noted}
use Rattle.actor_cell.proofs.marks.Marks.add_all.Goals as goal

pub loop-actor-preserved : goal.loop-actor-preserved
loop-actor-preserved c i x few =
    let k = c.loop-actor.actor in
    let o = is_marked c.args.other.now i x in
    let was = is_marked c.args.self.now i x in
    c.add_numbered.ensures i x few
    ∙ ap (λ (b : Bool). ((x == k) && o) || b) (c.loop-actor.invariant i x few)
    ∙ row_noted (x == k) (nat_lt x k) o was
    ∙ ap (λ (b : Bool). (b && o) || was) (sym (below_or_at x k))

pub returns : goal.returns
returns c i x few small =
    let below : x < c.loop-actor.actor = omega (arith, small, c.loop-actor-test.false) in
    c.loop-actor.invariant i x few
    ∙ ap (λ (b : Bool). (b && is_marked c.args.other.now i x) || is_marked c.args.self.now i x) (lt-ltb x c.loop-actor.actor below)
