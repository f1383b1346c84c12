use Rattle.std.proofs.Common.{◌≡◌, ℕ, ◌+◌, ◌++◌, Bool, List, [], ◌∷◌, length, sym, ap, ◌∙◌, arith, length-append, cond}
use Rattle.hb_base.specs.NodeSet.{is_in}
use Rattle.actor_cell.specs.Boxes.{owners_below, owners_at}
use Rattle.actor_cell.proofs.Places.{owners_more, firsts_more, row_length}
use Rattle.actor_cell.proofs.boxes.Making.add_node.Goals.{then-has, else-has}
use Rattle.actor_cell.proofs.boxes.Making.add_node.Goals as goal

pub returns : goal.returns
returns c =
    let conf = c.args.config.now in
    let count : c.if-has.count ≡ cond (is_in conf.liars c.args.node) 1 (conf.n + 1) = elim c.if-has.branch [
      | then-has w ↦ w.count-is ∙ ap (λ (b : Bool). cond b 1 (conf.n + 1)) (sym w.if-has.true ∙ c.has.ensures ∙ ap (λ (set : List Bool). is_in set c.args.node) c.liars.ensures.value)
      | else-has w ↦ w.count-is ∙ (ap (λ (n : ℕ). n + 1) w.n.ensures.value
          ∙ ap (λ (b : Bool). cond b 1 (conf.n + 1)) (sym w.if-has.false ∙ c.has.ensures ∙ ap (λ (set : List Bool). is_in set c.args.node) c.liars.ensures.value))
    ] in
    record {
      new = c.loop.invariant.new;
      count = omega (
        arith,
        c.loop.invariant.count,
        c.loop.auto.counter-end,
        c.loop-test.false,
        count,
        c.requires.count,
        ap length (owners_more conf c.args.node),
        length-append (owners_below conf c.args.node) (owners_at conf c.args.node),
        row_length (is_in conf.liars c.args.node) conf.n c.args.node,
      );
      firsts =
          c.loop.invariant.firsts ∙ ap (λ (k : ℕ). c.args.self.now.firsts.items ++ k ∷ []) c.requires.count
          ∙ ap (λ (all : List ℕ). all ++ length (owners_below conf c.args.node) ∷ []) c.requires.firsts
          ∙ sym (firsts_more conf c.args.node);
    }
