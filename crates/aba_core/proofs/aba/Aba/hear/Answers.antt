use Rattle.std.proofs.Common.{◌≡◌, ap, arith}
use Rattle.hb_rules.specs.Hearing.{hearing}
use Rattle.hb_rules.specs.Owing.{Place}
use Rattle.aba_core.proofs.Hears.{Hears-quiet, Hears-settled}
use Rattle.aba_core.proofs.Rooms.{room-most}
use Rattle.aba_core.proofs.aba.Aba.hear.Goals as goal

pub settle-requires : goal.settle-requires
settle-requires c =
    let notes = rw c.in-Some.is at c.noted.ensures in
    let rounds : c.noted.new.self.config.rounds ≡ c.args.self.now.config.rounds = ap (λ (p : Place). p.config.rounds) notes.place in
    record {
      from = omega (arith, notes.known, rounds);
      room = omega (arith, room-most c.noted.new.self, rounds, c.in_ok-reserve.ensures.room, c.room.ensures.enough);
    }

pub returns-in-Some-clause-ok : goal.returns-in-Some-clause-ok
returns-in-Some-clause-ok c =
    Hears-settled c.args.self.now c.noted.new.self c.settle.new.self (hearing c.args.from c.args.vote.now) c.in-Some.round c.reserve.new.self c.settle.new.due
    c.args.due.now.votes (rw c.in-Some.is at c.noted.ensures) c.settle.ensures c.reserve.ensures.votes

pub returns-in-None-clause-ok : goal.returns-in-None-clause-ok
returns-in-None-clause-ok c =
    Hears-quiet c.args.self.now c.noted.new.self (hearing c.args.from c.args.vote.now) c.args.due.now.votes c.reserve.new.self.votes c.room.ensures.sound
    (rw c.in-None.is at c.noted.ensures) c.reserve.ensures.votes
