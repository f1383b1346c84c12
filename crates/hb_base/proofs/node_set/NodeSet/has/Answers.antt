use Rattle.std.proofs.Common.{◌≡◌, ap, sym, ◌∙◌, ℕ, false, nat_lt}
use Rattle.std.proofs.lemmas.Bool.{le-ltb}
use Rattle.std.proofs.lemmas.Nat.Bits.{shr_and_one}
use Rattle.std.specs.Prelude.{◌==◌}
use Rattle.hb_base.proofs.Words.{marked, unmarked}
use Rattle.hb_base.proofs.node_set.NodeSet.has.Goals as goal

pub returns-then-node-lt-MOST_NODES : goal.returns-then-node-lt-MOST_NODES
returns-then-node-lt-MOST_NODES c =
    rw (← c.self.view_is) (ap (λ (x : ℕ). x == 1) (shr_and_one c.self.inside.bits c.args.node)
    ∙ sym (marked 16 c.self.inside.bits c.args.node c.if-node-lt-MOST_NODES.true))

pub returns-else-node-lt-MOST_NODES : goal.returns-else-node-lt-MOST_NODES
returns-else-node-lt-MOST_NODES c =
    let outside : nat_lt c.args.node 16 ≡ false = le-ltb c.args.node 16 c.if-node-lt-MOST_NODES.false in
    rw (← c.self.view_is) (outside ∙ sym (unmarked 16 c.self.inside.bits c.args.node c.if-node-lt-MOST_NODES.false))
