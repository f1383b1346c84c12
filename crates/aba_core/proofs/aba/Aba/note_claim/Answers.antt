use Rattle.std.proofs.Common.{refl, arith}
use Rattle.aba_core.proofs.Notes.{Notes-claim_past}
use Rattle.aba_core.proofs.Noted.{claim_sound, claim_noted, claim_noted_less}
use Rattle.aba_core.proofs.Replacing.{holds_replaced}
use Rattle.aba_core.proofs.aba.Aba.note_claim.Goals as goal

pub returns-then-round-rounds : goal.returns-then-round-rounds
returns-then-round-rounds c =
    rw (← c.self.view_is) (Notes-claim_past _ c.args.round c.args.from c.args.vote.now (rw (← c.self.view_is) at c.requires.from) c.requires.kind
    (omega (arith, c.if-round-rounds.true, c.rounds.ensures.value)))

pub invariant_of-self : goal.invariant_of-self
invariant_of-self c =
    holds_replaced _ _ _ c.args.round _ _ c.self.invariant refl c.hear.ensures.replaced
    (claim_sound _ c.args.round c.args.from c.args.vote.now _ _
    (record { sound = c.self.invariant.aba; inside = omega (arith, c.if-round-rounds.false, c.rounds.ensures.value); read = refl })
    (record { claims = c.hear.ensures.claims; levels = c.hear.ensures.levels; rest = c.hear.ensures.rest }))

pub invariant_of-self-2 : goal.invariant_of-self-2
invariant_of-self-2 c =
    holds_replaced _ _ _ c.args.round _ _ c.self.invariant refl c.hear.ensures.replaced
    (claim_sound _ c.args.round c.args.from c.args.vote.now _ _
    (record { sound = c.self.invariant.aba; inside = omega (arith, c.if-round-rounds.false, c.rounds.ensures.value); read = refl })
    (record { claims = c.hear.ensures.claims; levels = c.hear.ensures.levels; rest = c.hear.ensures.rest }))

pub returns-then-not-hear : goal.returns-then-not-hear
returns-then-not-hear c =
    rw (c.hear.ensures.replaced, ← c.self.view_is) (claim_noted_less _ c.args.round c.args.from c.args.vote.now _ _
    (record { sound = c.self.invariant.aba; inside = omega (arith, c.if-round-rounds.false, c.rounds.ensures.value); read = refl })
    (record { claims = c.hear.ensures.claims; levels = c.hear.ensures.levels; rest = c.hear.ensures.rest })
    (rw (← c.self.view_is) at c.requires.from) (rw (← c.self.view_is) at c.requires.epoch) c.requires.kind (c.hear.ensures.same.0 c.if-not-hear.true))

pub returns : goal.returns
returns c =
    rw (c.hear.ensures.replaced, ← c.self.view_is) (claim_noted _ c.args.round c.args.from c.args.vote.now _ _
    (record { sound = c.self.invariant.aba; inside = omega (arith, c.if-round-rounds.false, c.rounds.ensures.value); read = refl })
    (record { claims = c.hear.ensures.claims; levels = c.hear.ensures.levels; rest = c.hear.ensures.rest })
    (rw (← c.self.view_is) at c.requires.from) (rw (← c.self.view_is) at c.requires.epoch) c.requires.kind (λ same. absurd (cc (c.if-not-hear.false, c.hear.ensures.same.1 same))))
