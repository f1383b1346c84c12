use Rattle.std.proofs.Common.{◌++◌, take, Ok}
use Rattle.hb_base.specs.declared.outside.Failed.{Failed}
use Rattle.script_fault.specs.Line.{Writes}
use Rattle.hb_wire.specs.Lists.{listed}
use Rattle.ledger_text.specs.Places.{in_lists, in_batches}
use Rattle.ledger_text.specs.Text.{in_order, item_text, transactions_of}
use Rattle.ledger_text.specs.Seen.{Remembers}
use Rattle.ledger_text.proofs.ledger.put_batches.Given as goal

abbrev pub invariant-loop-index : goal.invariant-loop-index
invariant-loop-index g l = record {
  text : Writes {T = Unit {0}} {E = Failed} (g.O.Sink.held l.fn.out) (g.O.Sink.held l.out) (g.O.Sink.faults l.fn.out) (g.O.Sink.faults l.out) (Ok tt)
      (in_order item_text transactions_of (in_lists (g.L.Ledger.lists l.ledger) l.spot.place) (take l.index (listed l.spot.rest.now)));
  seen : Remembers l.seen (in_lists (g.L.Ledger.lists l.ledger) l.spot.place ++ in_batches l.spot.rest.now l.index);
}
