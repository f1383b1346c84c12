use Rattle.std.proofs.Common.{List, sym, subst, ◌∙◌}
use Rattle.observer.specs.Standing.{ObserverView}
use Rattle.observer.specs.Beside.{AreBeside}
use Rattle.observer.proofs.Computed.{agree_from, agree_by, legal_agree}
use Rattle.observer.proofs.agreeing.observers_agree.Goals as goal

pub returns-clause-exact : goal.returns-clause-exact
returns-clause-exact c =
    let report = c.args.report.now in
    let are : AreBeside report report.config.n c.as_slice.result.now =
    subst (λ (os : List ObserverView). AreBeside report report.config.n os) (sym c.as_slice.ensures.value) c.in_ok-observers.ensures in (
      λ passes. agree_from report c.as_slice.result.now are (sym c.all_agree.ensures ∙ passes),
      λ agree. c.all_agree.ensures ∙ agree_by report c.as_slice.result.now are agree,
    )

pub returns-clause-legal : goal.returns-clause-legal
returns-clause-legal c legal premise =
    let report = c.args.report.now in
    let are : AreBeside report report.config.n c.as_slice.result.now =
    subst (λ (os : List ObserverView). AreBeside report report.config.n os) (sym c.as_slice.ensures.value) c.in_ok-observers.ensures in
    c.all_agree.ensures ∙ agree_by report c.as_slice.result.now are (legal_agree report c.liars-sound.ensures.sound legal premise)
