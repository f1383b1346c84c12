use Rattle.std.proofs.Common.{arith, sym, ◌∙◌, ap, ℕ, ◌+◌}
use Rattle.hb_base.specs.NodeSet.{is_in}
use Rattle.hb_rules.proofs.Counts.{count_nodes-le, count_nodes-one}
use Rattle.hb_rules.proofs.voters.Voters.add.Goals as goal

pub overflow_add-self : goal.overflow_add-self
overflow_add-self c = omega (arith, c.self.invariant, count_nodes-le 16 (is_in c.self.inside.nodes))

pub invariant_of-self : goal.invariant_of-self
invariant_of-self c =
    ap (λ (k : ℕ). k + 1) c.self.invariant
    ∙ sym (count_nodes-one 16 c.args.node (is_in c.self.inside.nodes) (is_in c.add.new.self) c.requires.known
    (sym c.if-is_new.ensures) c.add.ensures.members)
