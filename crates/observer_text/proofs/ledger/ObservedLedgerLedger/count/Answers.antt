use Rattle.std.proofs.Common.{sym, ◌∙◌}
use Rattle.std.proofs.lemmas.List.FromFn.{length-enumerate_from}
use Rattle.observer.specs.Standing.{ledger_of}
use Rattle.observer_text.proofs.ledger.ObservedLedgerLedger.count.Goals as goal

pub returns : goal.returns
returns c = c.epochs.ensures.value ∙ sym (length-enumerate_from 0 (ledger_of c.args.self.now.observer.now))
