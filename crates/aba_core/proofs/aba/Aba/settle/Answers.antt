use Rattle.std.proofs.Common.{refl, sym, ◌∙◌}
use Rattle.aba_core.proofs.Passes.{Times-none, Times-more, Settled-from, less_room}
use Rattle.aba_core.proofs.aba.Aba.settle.Goals as goal

pub again-init : goal.again-init
again-init c = record { passed = Times-none c.args.from c.args.self.now c.args.due.now; config = refl; room = c.requires.room }

pub again-preserved : goal.again-preserved
again-preserved c = record {
  passed =
      Times-more c.args.from c.args.self.now c.again.self c.pass.new.self c.args.due.now c.again.due c.pass.new.due c.again.invariant.passed c.pass.ensures.passed;
  config = c.pass.ensures.config ∙ c.again.invariant.config;
  room = c.pass.ensures.room;
}

pub again-smaller : goal.again-smaller
again-smaller c =
    less_room c.args.from c.again.self c.pass.new.self _ c.again.due c.pass.new.due c.pass.ensures.passed
    (λ same. c.if-after-before.false (c.count-after.ensures ∙ same ∙ sym c.count-before.ensures))

pub returns-then-after-before : goal.returns-then-after-before
returns-then-after-before c =
    Settled-from c.args.from c.args.self.now c.again.self c.pass.new.self c.args.due.now c.again.due c.pass.new.due c.again.invariant.passed c.pass.ensures.passed
    (sym c.count-after.ensures ∙ c.if-after-before.true ∙ c.count-before.ensures)
