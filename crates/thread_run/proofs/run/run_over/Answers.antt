use denote.Param.Send.{sendable}
use Rattle.disk_model.proofs.memory.MemoryDisk.TheSendSync as disk_sent
use Rattle.journaled_actor.proofs.actor.JournaledActor.TheSendSync as actor_sent
use Rattle.post_book.proofs.seat.SharedSeat.TheSendSync as seat_sent
use Rattle.thread_run.proofs.Sends.{core_send}
use Rattle.thread_run.proofs.run.run_over.Goals as goal

pub serve_and_finish-requires-send-A : goal.serve_and_finish-requires-send-A
serve_and_finish-requires-send-A g c κs within = search (actor_sent.the_send, disk_sent.the_send, core_send, seat_sent.the_send, sendable) depth 60 fits 20000

pub returns-clause-of_book : goal.returns-clause-of_book
returns-clause-of_book g c = rw (← c.at-shared.ensures) c.serve_and_finish.ensures.of_book
