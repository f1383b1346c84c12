use Rattle.std.proofs.Common.{sym, ap, ◌∙◌, List, length, arith}
use Rattle.hb_wire.specs.declared.items.Item.{Item}
use Rattle.observer.specs.Standing.{ObserverView}
use Rattle.observer.proofs.Taken.{heard_ledger}
use Rattle.observer.proofs.Leading.{some_more, ledger_ends, ledger_whole}
use Rattle.observer.proofs.observer.Observer.epochs.Goals as goal

pub loop-epoch-preserved : goal.loop-epoch-preserved
loop-epoch-preserved c =
    some_more c.args.self.now c.loop-epoch.epoch c.loop-epoch.invariant (sym c.has_list.ensures ∙ c.if-not-has_list.false)

pub returns-then-not-has_list-clause-value : goal.returns-then-not-has_list-clause-value
returns-then-not-has_list-clause-value c =
    let epochs = ap (λ (x : ObserverView). x.config.epochs) c.self.view_is in
    let inside = c.epochs-epoch-end.ensures.value in
    omega (
      arith,
      c.from.ensures,
      ledger_ends c.args.self.now c.loop-epoch.epoch (omega (arith, epochs, inside, c.loop-epoch-test.true)) c.loop-epoch.invariant
          (sym c.has_list.ensures ∙ c.if-not-has_list.true),
    )

pub returns-then-not-has_list-clause-observed : goal.returns-then-not-has_list-clause-observed
returns-then-not-has_list-clause-observed c = λ heard has.
    returns-then-not-has_list-clause-value c ∙ ap (λ (lists : List (List Item)). length lists) (heard_ledger c.args.self.now heard has)

pub returns-clause-value : goal.returns-clause-value
returns-clause-value c =
    let epochs = ap (λ (x : ObserverView). x.config.epochs) c.self.view_is in
    let inside = c.epochs-epoch-end.ensures.value in
    let all = c.epochs.ensures.value in
    omega (
      arith,
      epochs,
      all,
      c.from-2.ensures,
      ledger_whole c.args.self.now c.loop-epoch.epoch (omega (arith, epochs, inside, c.loop-epoch-test.false, c.loop-epoch.auto.epoch-end)) c.loop-epoch.invariant,
      c.loop-epoch-test.false,
      c.loop-epoch.auto.epoch-end,
      inside,
    )

pub returns-clause-observed : goal.returns-clause-observed
returns-clause-observed c = λ heard has.
    returns-clause-value c ∙ ap (λ (lists : List (List Item)). length lists) (heard_ledger c.args.self.now heard has)
