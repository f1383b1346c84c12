use Rattle.std.proofs.Common.{ℕ, ◌+◌, Bool, List, ◌++◌, map, sym, ap, ◌∙◌}
use Rattle.std.specs.List.{range_with_len}
use Rattle.hb_base.specs.NodeSet.{is_in}
use Rattle.quiet_check.proofs.Naming.{liar_more, correct_more}
use Rattle.quiet_check.proofs.ends.names_of.Goals as goal

pub loop-node-preserved-then-has : goal.loop-node-preserved-then-has
loop-node-preserved-then-has c =
    liar_more c.args.config.now c.loop-node.node c.loop-node.names.items c.loop-node.invariant
    (ap (λ (liars : List Bool). is_in liars c.loop-node.node) (sym c.liars-liars.ensures.value) ∙ sym c.has.ensures ∙ c.if-has.true)

pub loop-node-preserved : goal.loop-node-preserved
loop-node-preserved c =
    correct_more c.args.config.now c.loop-node.node c.loop-node.names.items c.add_node.new.names.items c.loop-node.invariant
    (ap (λ (liars : List Bool). is_in liars c.loop-node.node) (sym c.liars-liars.ensures.value) ∙ sym c.has.ensures ∙ c.if-has.false)
    (c.in_ok-add_node.ensures
    ∙ ap (λ (m : ℕ). c.loop-node.names.items ++ map (λ x. (c.loop-node.node, x)) (range_with_len 0 (m + 1))) c.n-n.ensures.value)
