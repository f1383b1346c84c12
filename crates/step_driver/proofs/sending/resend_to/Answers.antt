use Rattle.std.proofs.Common.{inl, inr, refl, sym, ◌∙◌}
use Rattle.std.proofs.lemmas.Result.{on_ok_weaker}
use Rattle.step_driver.proofs.sending.resend_to.Goals as goal

pub returns-then-not-comes_to : goal.returns-then-not-comes_to
returns-then-not-comes_to c = inr (sym c.comes_to.ensures ∙ c.if-not-comes_to.true, refl)

pub returns : goal.returns
returns c = on_ok_weaker c.add.result (λ added. inl (sym c.comes_to.ensures ∙ c.if-not-comes_to.false, added)) c.add.ensures
