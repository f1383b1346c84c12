use Rattle.std.proofs.Common.{◌≡◌, ◌+◌, nat_lt, false, [], arith}
use Rattle.std.proofs.lemmas.Bool.{le-ltb}
use Rattle.aba_core.proofs.Passes.{Passed-none}
use Rattle.aba_core.proofs.aba.Aba.go_on_at.Goals as goal

pub overflow_add-round : goal.overflow_add-round
overflow_add-round c = omega (arith, c.requires.round, c.rounds-rounds.ensures.value, c.rounds-rounds.ensures.bounds.1)

pub returns-then-round-rounds-clause-passed : goal.returns-then-round-rounds-clause-passed
returns-then-round-rounds-clause-passed c from le =
    let past : nat_lt (c.args.round + 1) c.args.self.now.config.rounds ≡ false =
    le-ltb (c.args.round + 1) c.args.self.now.config.rounds (rw (← c.self.view_is) (omega (arith, c.if-round-rounds.true, c.rounds-rounds.ensures.value))) in
    rw past (Passed-none from c.args.self.now [] c.args.due.now (λ resting. tt))
