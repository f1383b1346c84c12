use Rattle.std.proofs.Common.{take, Ok}
use Rattle.hb_base.specs.declared.outside.Failed.{Failed}
use Rattle.script_fault.specs.Line.{Writes}
use Rattle.trace_text.specs.Text.{posts_text}
use Rattle.trace_text.proofs.text.put_posts.Given as goal

abbrev pub invariant-loop-k : goal.invariant-loop-k
invariant-loop-k g l =
    Writes {T = Unit {0}} {E = Failed} (g.O.Sink.held l.fn.out) (g.O.Sink.held l.out) (g.O.Sink.faults l.fn.out) (g.O.Sink.faults l.out) (Ok tt)
    (posts_text 0 (take l.k l.posts))
