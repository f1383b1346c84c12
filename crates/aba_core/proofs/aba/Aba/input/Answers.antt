use Rattle.std.proofs.Common.{◌≡◌, sym, ap, ◌∙◌, arith}
use Rattle.hb_rules.specs.Marks.{any_est}
use Rattle.hb_rules.specs.Owing.{Place}
use Rattle.aba_core.specs.State.{AbaView, place_of, mark_at}
use Rattle.aba_core.proofs.Inputs.{Takes-begun, Takes-settled, input_first, input_place}
use Rattle.aba_core.proofs.Rooms.{room-most}
use Rattle.aba_core.proofs.aba.Aba.input.Goals as goal

pub settle-requires : goal.settle-requires
settle-requires c =
    let place : place_of c.take.new.self ≡ place_of c.args.self.now = ap place_of c.take.ensures ∙ input_place c.args.bit c.args.self.now in
    let rounds : c.take.new.self.config.rounds ≡ c.args.self.now.config.rounds = ap (λ (p : Place). p.config.rounds) place in
    record {
      from = omega arith;
      room = omega (arith, room-most c.take.new.self, rounds, c.in_ok-reserve.ensures.room, c.room.ensures.enough);
    }

pub returns-then-has_begun-clause-ok : goal.returns-then-has_begun-clause-ok
returns-then-has_begun-clause-ok c =
    rw c.take.ensures (Takes-begun c.args.bit c.args.self.now c.args.due.now.votes c.reserve.new.self.votes c.room.ensures.sound
    (sym (input_first c.args.bit c.args.self.now) ∙ ap (λ (a : AbaView). mark_at a (any_est 0)) (sym c.take.ensures) ∙ sym c.has_begun.ensures ∙ c.if-has_begun.true)
    c.reserve.ensures.votes)

pub returns-clause-ok : goal.returns-clause-ok
returns-clause-ok c =
    Takes-settled c.args.bit c.args.self.now c.settle.new.self c.reserve.new.self c.settle.new.due c.args.due.now.votes c.room.ensures.sound
    (sym (input_first c.args.bit c.args.self.now) ∙ ap (λ (a : AbaView). mark_at a (any_est 0)) (sym c.take.ensures) ∙ sym c.has_begun.ensures ∙ c.if-has_begun.false)
    (rw c.take.ensures at c.settle.ensures) c.reserve.ensures.votes
