-- Observers beside nodes, one more at a time.
use Rattle.std.proofs.Common.{◌≡◌, ℕ, ◌+◌, inl, inr, List, [], ◌∷◌, ◌++◌, length, refl, sym, subst, arith}
use Rattle.std.proofs.lemmas.Bool.{cases_lt}
use Rattle.std.proofs.lemmas.List.{get_or_push, length_push}
use Rattle.std.proofs.Math.ListN.{get_or-append}
use Rattle.hb_rules.specs.declared.report.Report.{Report}
use Rattle.observer.specs.Standing.{ObserverView}
use Rattle.observer.specs.Beside.{IsBeside, AreBeside}

pub beside_none : (report : Report) (observers : List ObserverView) → observers ≡ [] → AreBeside report 0 observers
beside_none report observers none = rw none (record { many = refl; each = λ i d inside. absurd (omega (arith, inside)) })

pub beside_push : (report : Report) (k : ℕ) (observers new : List ObserverView) (o : ObserverView) → AreBeside report k observers → IsBeside report k o
    → new ≡ observers ++ o ∷ [] → AreBeside report (k + 1) new
beside_push report k observers new o are beside is = rw is (record {
  many = omega (arith, length_push observers o, are.many);
  each = λ i d inside. elim (cases_lt i k) [
    | inl before ↦
        subst (λ (x : ObserverView). IsBeside report i x) (sym (get_or-append observers (o ∷ []) d i (omega (arith, before, are.many))))
        (are.each i d before)
    | inr past ↦
        let here : k ≡ i = omega (arith, inside, past) in
        let place : length observers ≡ i = omega (arith, here, are.many) in
        subst (λ (x : ObserverView). IsBeside report i x) (sym (get_or_push observers o d i place))
        (subst (λ (j : ℕ). IsBeside report j o) here beside)
  ];
})
