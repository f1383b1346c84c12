use Rattle.std.proofs.Common.{sym, ap, ◌∙◌, arith}
use Rattle.hb_rules.specs.Owing.{Place}
use Rattle.aba_core.proofs.Passes.{Passed-filled, Passed-empty, Passed-cast, room_some, room_after}
use Rattle.aba_core.proofs.aba.Aba.offer.Goals as goal

pub returns-then-is_filled-clause-passed : goal.returns-then-is_filled-clause-passed
returns-then-is_filled-clause-passed c from le =
    Passed-filled from c.args.self.now c.args.slot c.args.due.now c.requires.known (sym c.is_filled.ensures ∙ c.if-is_filled.true)

pub push_reserved-requires : goal.push_reserved-requires
push_reserved-requires c =
    omega (arith, c.requires.room, room_some c.args.self.now c.args.slot c.requires.known (sym c.is_filled.ensures ∙ c.if-is_filled.false))

pub returns-in-Some-clause-passed : goal.returns-in-Some-clause-passed
returns-in-Some-clause-passed c from le =
    Passed-cast from c.args.self.now c.cast.new.self c.args.slot c.in-Some.vote c.args.due.now c.push_reserved.new.self c.requires.known le
    (sym c.is_filled.ensures ∙ c.if-is_filled.false) (sym c.choice.ensures ∙ c.in-Some.is) c.cast.ensures c.push_reserved.ensures.votes c.push_reserved.ensures.room

pub returns-in-Some-clause-config : goal.returns-in-Some-clause-config
returns-in-Some-clause-config c = ap (λ (p : Place). p.config) c.cast.ensures.place

pub returns-in-Some-clause-room : goal.returns-in-Some-clause-room
returns-in-Some-clause-room c =
    room_after 0 c.args.self.now c.cast.new.self _ c.args.due.now c.push_reserved.new.self
    (Passed-cast 0 c.args.self.now c.cast.new.self c.args.slot c.in-Some.vote c.args.due.now c.push_reserved.new.self c.requires.known (omega arith)
    (sym c.is_filled.ensures ∙ c.if-is_filled.false) (sym c.choice.ensures ∙ c.in-Some.is) c.cast.ensures c.push_reserved.ensures.votes c.push_reserved.ensures.room)
    c.requires.room

pub returns-in-None-clause-passed : goal.returns-in-None-clause-passed
returns-in-None-clause-passed c from le =
    Passed-empty from c.args.self.now c.args.slot c.args.due.now c.requires.known (sym c.choice.ensures ∙ c.in-None.is)
