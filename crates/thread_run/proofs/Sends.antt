-- The actors of a run may be sent to a thread. What the checker finds of itself for a type of few parts is put together here, part by part.
use Rattle.std.proofs.Crossing
use Rattle.std.proofs.MapsCrossing
use denote.Param.Send.{IsSend, sendable}
use Rattle.rbc_core.proofs.rbc.Rbc.TheSendSync as rbc_sent
use Rattle.coin_deal.proofs.dealt.Deal.TheSendSync as deal_sent
use Rattle.aba_core.specs.contracts.rounds.Rounds as rounds
use Rattle.aba_core.specs.contracts.aba.Aba as aba
use Rattle.lane_core.specs.contracts.cores.Cores as cores
use Rattle.lane_core.specs.contracts.lane.LaneCore as lane
use Rattle.desk_core.proofs.desk.DeskCore.TheSendSync as desk_sent
use Rattle.ledger_run.specs.contracts.node_core.NodeCore as core

rounds_send : IsSend rounds.the_row
rounds_send = search (deal_sent.the_send, deal_sent.the_sync, Crossing.crosses, sendable) depth 60 fits 20000

aba_send : IsSend aba.the_row
aba_send = search (rounds_send, Crossing.crosses, sendable) depth 60 fits 20000

cores_send : IsSend cores.the_row
cores_send = search (rbc_sent.the_send, aba_send, MapsCrossing.crosses, Crossing.crosses, sendable) depth 60 fits 20000

lane_send : IsSend lane.the_row
lane_send = search (cores_send, deal_sent.the_send, deal_sent.the_sync, MapsCrossing.crosses, Crossing.crosses, sendable) depth 60 fits 20000

pub core_send : IsSend core.the_row
core_send = search (lane_send, desk_sent.the_send, sendable) depth 60 fits 20000
