use Rattle.std.proofs.Common.{take, Ok}
use Rattle.std.specs.List.{flat_map, range_with_len}
use Rattle.hb_base.specs.declared.outside.Failed.{Failed}
use Rattle.script_fault.specs.Line.{Writes}
use Rattle.observer_text.specs.Text.{beside_text}
use Rattle.observer_text.proofs.text.put_observers.Given as goal

abbrev pub invariant-loop-node : goal.invariant-loop-node
invariant-loop-node g l =
    Writes {T = Unit {0}} {E = Failed} (g.O.Sink.held l.fn.out) (g.O.Sink.held l.out) (g.O.Sink.faults l.fn.out) (g.O.Sink.faults l.out) (Ok tt)
    (flat_map (beside_text l.report) (take l.node (range_with_len 0 l.report.config.n)))
