use Rattle.std.proofs.Common.{true, false, sym, ◌∙◌}
use Rattle.script_reader.proofs.Earlier.{each_once_at}
use Rattle.script_reader.proofs.liars.each_once.Goals as goal

pub returns-then-names_node : goal.returns-then-names_node
returns-then-names_node c =
    sym c.loop-i.invariant ∙ each_once_at c.args.liars.now c.loop-i.i c.index-liars-i.result true c.loop-i-test.true c.index-liars-i.is (sym c.names_node.ensures ∙ c.if-names_node.true)

pub loop-i-preserved : goal.loop-i-preserved
loop-i-preserved c =
    sym (each_once_at c.args.liars.now c.loop-i.i c.index-liars-i.result false c.loop-i-test.true c.index-liars-i.is (sym c.names_node.ensures ∙ c.if-names_node.false)) ∙ c.loop-i.invariant
