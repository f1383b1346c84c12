use Rattle.std.proofs.Common.{◌++◌, take, Ok}
use Rattle.hb_base.specs.declared.outside.Failed.{Failed}
use Rattle.script_fault.specs.Line.{Writes}
use Rattle.hb_wire.specs.Batches.{batch_of}
use Rattle.ledger_text.specs.Places.{before_batch}
use Rattle.ledger_text.specs.Text.{in_order, tx_text, alone}
use Rattle.ledger_text.specs.Seen.{Remembers}
use Rattle.ledger_text.proofs.ledger.put_transactions.Given as goal

abbrev pub invariant-loop-t : goal.invariant-loop-t
invariant-loop-t g l = record {
  text : Writes {T = Unit {0}} {E = Failed} (g.O.Sink.held l.fn.out) (g.O.Sink.held l.out) (g.O.Sink.faults l.fn.out) (g.O.Sink.faults l.out) (Ok tt)
      (in_order tx_text alone (before_batch (g.L.Ledger.lists l.ledger) l.spot) (take l.t (batch_of l.value)));
  seen : Remembers l.seen (before_batch (g.L.Ledger.lists l.ledger) l.spot ++ take l.t (batch_of l.value));
}
