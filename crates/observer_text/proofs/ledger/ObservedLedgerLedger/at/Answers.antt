use Rattle.std.proofs.Common.{List, ap, arith}
use Rattle.std.proofs.lemmas.List.FromFn.{length-enumerate_from}
use Rattle.hb_base.specs.Numbers.{Numbers}
use Rattle.hb_wire.specs.declared.items.Item.{Item}
use Rattle.hb_wire.specs.Lists.{listed}
use Rattle.observer.specs.Standing.{ledger_of}
use Rattle.observer.proofs.Leading.{ledger_short}
use Rattle.observer_text.proofs.Numbered.{numbered_at}
use Rattle.observer_text.proofs.ledger.ObservedLedgerLedger.at.Goals as goal

pub list-requires : goal.list-requires
list-requires c =
    let lists : List (List Item) = ledger_of c.args.self.now.observer.now in
    omega (arith, c.if-place-count.false, c.count.ensures, length-enumerate_from 0 lists)

pub overflow_cast-result : goal.overflow_cast-result
overflow_cast-result c =
    let epochs = ap (λ (n : Numbers). n.epochs) c.config.ensures in
    omega (arith, list-requires c, ledger_short c.args.self.now.observer.now, epochs, c.liars-sound.ensures.sound.epochs.1)

pub overflow_cast-place : goal.overflow_cast-place
overflow_cast-place c = omega (arith, overflow_cast-result c)

pub returns-clause-some : goal.returns-clause-some
returns-clause-some c =
    let lists : List (List Item) = ledger_of c.args.self.now.observer.now in
    record { there = numbered_at lists c.args.place (listed c.list.result.now) c.list.ensures.value; shown = c.list.ensures.shown }
