use Rattle.std.proofs.Common.{refl, arith}
use Rattle.aba_core.proofs.Marking.{Casts-past, Casts-round}
use Rattle.aba_core.proofs.Replacing.{sound_marked, holds_replaced}
use Rattle.aba_core.proofs.aba.Aba.cast_at.Goals as goal

pub returns-then-round-rounds : goal.returns-then-round-rounds
returns-then-round-rounds c =
    rw (← c.self.view_is) (Casts-past _ c.args.vote.now c.args.round c.requires.round.round (omega (arith, c.if-round-rounds.true, c.rounds.ensures.value)) c.requires.kind)

pub invariant_of-self : goal.invariant_of-self
invariant_of-self c =
    holds_replaced _ _ _ c.args.round c.max-self-inside.result _ c.self.invariant refl c.mark.ensures
    (sound_marked _ c.args.round c.max-self-inside.result _ c.self.invariant.aba
    (omega (arith, c.if-round-rounds.false, c.rounds.ensures.value))
    (omega (arith, c.max-self-inside.ensures)) (omega (arith, c.max-self-inside.ensures))
    (omega (arith, c.max-self-inside.ensures, c.self.invariant.aba.top, c.if-round-rounds.false, c.rounds.ensures.value)))

pub returns : goal.returns
returns c =
    rw (c.mark.ensures, ← c.self.view_is) (Casts-round _ c.args.vote.now c.args.round c.max-self-inside.result
    (rw (← c.self.view_is) at c.requires.round) c.requires.kind
    (omega (arith, c.if-round-rounds.false, c.rounds.ensures.value)) c.self.invariant.aba.count)
