use Rattle.std.proofs.Common.{[], take, Ok}
use Rattle.hb_base.specs.declared.outside.Failed.{Failed}
use Rattle.script_fault.specs.Line.{Writes}
use Rattle.ledger_text.specs.Places.{in_lists}
use Rattle.ledger_text.specs.Text.{in_order, list_text, closed_transactions}
use Rattle.ledger_text.specs.Seen.{Remembers}
use Rattle.ledger_text.proofs.ledger.put_ledger.Given as goal

abbrev pub invariant-loop-place : goal.invariant-loop-place
invariant-loop-place g l = record {
  text : Writes {T = Unit {0}} {E = Failed} (g.O.Sink.held l.fn.out) (g.O.Sink.held l.out) (g.O.Sink.faults l.fn.out) (g.O.Sink.faults l.out) (Ok tt)
      (in_order list_text closed_transactions [] (take l.place (g.L.Ledger.lists l.ledger)));
  seen : Remembers l.seen (in_lists (g.L.Ledger.lists l.ledger) l.place);
}
