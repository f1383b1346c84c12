use Rattle.std.proofs.Common.{refl, ap, ◌∙◌, arith}
use Rattle.hb_base.specs.Numbers.{Numbers}
use Rattle.hb_rules.specs.Agreement.{confirms}
use Rattle.aba_core.specs.State.{AbaView}
use Rattle.aba_core.proofs.Passes.{Passed-before, Passed-round, Passed-above}
use Rattle.aba_core.proofs.aba.Aba.row.Goals as goal

pub loop-round-init : goal.loop-round-init
loop-round-init c = record {
  passed = Passed-before c.args.from c.args.self.now c.args.row c.args.due.now c.requires.in_use c.requires.from;
  config = refl;
  room = c.requires.room;
  later = omega arith;
  inside = c.requires.from;
}

pub loop-round-preserved : goal.loop-round-preserved
loop-round-preserved c =
    let rounds = ap (λ (n : Numbers). n.rounds) c.loop-round.invariant.config in
    record {
      passed =
          Passed-round c.args.from c.args.self.now c.loop-round.self c.row_at.new.self c.args.row c.loop-round.round c.args.due.now c.loop-round.due c.row_at.new.due
          c.loop-round.invariant.passed (c.row_at.ensures.passed c.args.from c.loop-round.invariant.later);
      config = c.row_at.ensures.config ∙ c.loop-round.invariant.config;
      room = c.row_at.ensures.room;
      later = omega (arith, c.loop-round.invariant.later);
      inside = omega (arith, c.loop-round-test.true, c.self.invariant.aba.top, ap (λ (a : AbaView). a.config.rounds) c.self.view_is, rounds);
    }

pub returns-clause-passed : goal.returns-clause-passed
returns-clause-passed c =
    Passed-above c.args.from c.args.self.now c.loop-round.self c.args.row c.args.due.now c.loop-round.due
    (λ h. ap confirms c.loop-round.invariant.config ∙ c.requires.in_use h) (rw c.self.view_is at c.self.invariant.aba) c.loop-round.invariant.passed.adds.place
    c.loop-round.round (omega (arith, c.loop-round-test.false, ap (λ (a : AbaView). a.top) c.self.view_is))
    (omega (arith, c.loop-round.invariant.inside, ap (λ (n : Numbers). n.rounds) c.loop-round.invariant.config)) c.loop-round.invariant.passed
