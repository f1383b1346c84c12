use Rattle.std.proofs.Common.{◌∷◌, [], true, false}
use Rattle.hb_rules.specs.declared.agreement_slot.AgreementSlot.TheVariants.{Support, ConfirmOne, PickOne}
use Rattle.aba_core.proofs.Passes.{Passed-append}
use Rattle.aba_core.proofs.aba.Aba.row_at.Goals as goal

pub returns-in-Support-clause-passed : goal.returns-in-Support-clause-passed
returns-in-Support-clause-passed c from le =
    rw c.in-Support.is (Passed-append from c.args.self.now c.offer.new.self c.offer-in-Support.new.self (Support c.args.round false ∷ []) (Support c.args.round true ∷ [])
    c.args.due.now c.offer.new.due c.offer-in-Support.new.due (c.offer.ensures.passed from le) (c.offer-in-Support.ensures.passed from le))

pub returns-in-ConfirmOne-clause-passed : goal.returns-in-ConfirmOne-clause-passed
returns-in-ConfirmOne-clause-passed c from le =
    rw c.in-ConfirmOne.is (Passed-append from c.args.self.now c.offer-in-ConfirmOne.new.self c.offer-in-ConfirmOne-2.new.self (ConfirmOne c.args.round false ∷ []) (ConfirmOne c.args.round true ∷ [])
    c.args.due.now c.offer-in-ConfirmOne.new.due c.offer-in-ConfirmOne-2.new.due (c.offer-in-ConfirmOne.ensures.passed from le) (c.offer-in-ConfirmOne-2.ensures.passed from le))

pub returns-in-PickOne-clause-passed : goal.returns-in-PickOne-clause-passed
returns-in-PickOne-clause-passed c from le =
    rw c.in-PickOne.is (Passed-append from c.args.self.now c.offer-in-PickOne.new.self c.offer-in-PickOne-2.new.self (PickOne c.args.round false ∷ []) (PickOne c.args.round true ∷ [])
    c.args.due.now c.offer-in-PickOne.new.due c.offer-in-PickOne-2.new.due (c.offer-in-PickOne.ensures.passed from le) (c.offer-in-PickOne-2.ensures.passed from le))
