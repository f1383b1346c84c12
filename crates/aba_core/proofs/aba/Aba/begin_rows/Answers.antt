use Rattle.std.proofs.Common.{◌∷◌, [], true, false, arith}
use Rattle.hb_rules.specs.declared.agreement_slot.AgreementSlot.TheVariants.{Begin}
use Rattle.aba_core.specs.Rows.{begin_slots}
use Rattle.aba_core.proofs.Names.{begin_known}
use Rattle.aba_core.proofs.Passes.{Passed-none, Passed-append}
use Rattle.aba_core.proofs.aba.Aba.begin_rows.Goals as goal

pub returns-then-from-gt0-clause-passed : goal.returns-then-from-gt0-clause-passed
returns-then-from-gt0-clause-passed c =
    rw (← c.self.view_is) (let known = begin_known c.self.inside.config (omega (arith, c.rounds-rounds.ensures.bounds.0, c.rounds-rounds.ensures.value)) in
    Passed-none c.args.from _ begin_slots c.args.due.now
    (λ resting. ((known.0, resting (Begin true) known.0 c.if-from-gt0.true), ((known.1.0, resting (Begin false) known.1.0 c.if-from-gt0.true), tt))))

pub offer-requires-2-clause-known : goal.offer-requires-2-clause-known
offer-requires-2-clause-known c =
    rw (c.offer.ensures.config, ← c.self.view_is) (begin_known c.self.inside.config (omega (arith, c.rounds-rounds.ensures.bounds.0, c.rounds-rounds.ensures.value))).1.0

pub returns-clause-passed : goal.returns-clause-passed
returns-clause-passed c =
    Passed-append c.args.from c.args.self.now c.offer.new.self c.offer-2.new.self (Begin true ∷ []) (Begin false ∷ []) c.args.due.now c.offer.new.due c.offer-2.new.due
    (c.offer.ensures.passed c.args.from (omega (arith, c.if-from-gt0.false))) (c.offer-2.ensures.passed c.args.from (omega (arith, c.if-from-gt0.false)))
