use Rattle.std.proofs.Common.{take, Ok}
use Rattle.std.specs.List.{flat_map}
use Rattle.hb_base.specs.declared.outside.Failed.{Failed}
use Rattle.script_fault.specs.Line.{Writes}
use Rattle.accuse_text.specs.Text.{accused_line}
use Rattle.accuse_text.proofs.text.put_all.Given as goal

abbrev pub invariant-loop-accusation : goal.invariant-loop-accusation
invariant-loop-accusation g l =
    Writes {T = Unit {0}} {E = Failed} (g.O.Sink.held l.fn.out) (g.O.Sink.held l.out) (g.O.Sink.faults l.fn.out) (g.O.Sink.faults l.out) (Ok tt)
    (flat_map accused_line (take l.accusation-index l.found))
