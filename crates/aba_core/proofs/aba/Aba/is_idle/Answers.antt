use Rattle.std.proofs.Common.{◌∙◌, arith}
use Rattle.aba_core.proofs.Hears.{idle_told}
use Rattle.aba_core.proofs.Rooms.{room-most}
use Rattle.aba_core.proofs.aba.Aba.is_idle.Goals as goal

pub settle-requires-clause-room : goal.settle-requires-clause-room
settle-requires-clause-room c = omega (arith, room-most c.args.self, c.in_ok-reserve.ensures.room, c.room.ensures.enough)

pub returns : goal.returns
returns c = record {
  exact =
      idle_told c.args.self c.settle.new.self c.reserve.new.self c.settle.new.due c.votes.result.now c.is_empty.result
      (c.reserve.ensures.votes ∙ c.new-due.ensures) c.settle.ensures c.votes.ensures c.is_empty.ensures;
}
