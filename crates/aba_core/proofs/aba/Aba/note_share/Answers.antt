use Rattle.std.proofs.Common.{refl, sym, subst, arith}
use Rattle.hb_base.specs.Numbers.{Numbers}
use Rattle.coin_deal.specs.Heard.{heard_share}
use Rattle.aba_core.specs.Made.{round_of}
use Rattle.aba_core.specs.Rounds.{IsRound}
use Rattle.aba_core.proofs.Notes.{Notes-share_past}
use Rattle.aba_core.proofs.Noted.{share_sound, share_noted, share_noted_less}
use Rattle.aba_core.proofs.Replacing.{holds_replaced}
use Rattle.aba_core.proofs.aba.Aba.note_share.Goals as goal

pub returns-then-round-rounds : goal.returns-then-round-rounds
returns-then-round-rounds c =
    rw (← c.self.view_is) (Notes-share_past _ c.args.round c.args.from c.args.share c.args.salt.now c.args.branch.now (rw (← c.self.view_is) at c.requires)
    (omega (arith, c.if-round-rounds.true, c.rounds.ensures.value)))

pub invariant_of-self : goal.invariant_of-self
invariant_of-self c =
    holds_replaced _ _ _ c.args.round _ _ c.self.invariant refl c.hear_share.ensures.exact
    (share_sound _ c.args.round (heard_share c.args.from c.args.share c.args.salt.now c.args.branch.now) _ _
    (record { sound = c.self.invariant.aba; inside = omega (arith, c.if-round-rounds.false, c.rounds.ensures.value); read = refl }) refl)

pub invariant_of-self-2 : goal.invariant_of-self-2
invariant_of-self-2 c =
    holds_replaced _ _ _ c.args.round _ _ c.self.invariant refl c.hear_share.ensures.exact
    (share_sound _ c.args.round (heard_share c.args.from c.args.share c.args.salt.now c.args.branch.now) _ _
    (record { sound = c.self.invariant.aba; inside = omega (arith, c.if-round-rounds.false, c.rounds.ensures.value); read = refl }) refl)

pub returns : goal.returns
returns c =
    rw (c.hear_share.ensures.exact, ← c.self.view_is) (share_noted _ c.args.round c.args.from c.args.share c.args.salt.now c.args.branch.now _ _
    (record { sound = c.self.invariant.aba; inside = omega (arith, c.if-round-rounds.false, c.rounds.ensures.value); read = refl }) refl
    (rw (← c.self.view_is) at c.requires) (c.hear_share.ensures.known c.if-not-hear_share.false).0 (c.hear_share.ensures.known c.if-not-hear_share.false).1)

pub returns-then-not-hear_share : goal.returns-then-not-hear_share
returns-then-not-hear_share c =
    rw (c.hear_share.ensures.exact, ← c.self.view_is) (share_noted_less _ c.args.round c.args.from c.args.share c.args.salt.now c.args.branch.now _ _
    (record { sound = c.self.invariant.aba; inside = omega (arith, c.if-round-rounds.false, c.rounds.ensures.value); read = refl }) refl
    (rw (← c.self.view_is) at c.requires) (c.hear_share.ensures.same c.if-not-hear_share.true))

-- each round is one of the lane and the epoch
pub hear_share-requires-clause-is_round : goal.hear_share-requires-clause-is_round
hear_share-requires-clause-is_round c =
    let s = c.self.inside in
    let r = c.args.round in
    let known = c.self.invariant.aba.each r (omega (arith, c.if-round-rounds.false, c.rounds.ensures.value)) in
    subst (λ (n : Numbers). IsRound n s.rounds.lane s.rounds.epoch r (round_of s.rounds r)) (sym c.self.invariant.config)
    (subst (λ j. IsRound s.config j s.rounds.epoch r (round_of s.rounds r)) (sym c.self.invariant.lane)
    (subst (λ e. IsRound s.config s.lane e r (round_of s.rounds r)) (sym c.self.invariant.epoch) known))
