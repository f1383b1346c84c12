use Rattle.std.proofs.Common.{sym, subst, false}
use Rattle.disk_model.specs.Memory.{MemoryState, supply_of}
use Rattle.hb_rules.specs.declared.report.Fate.TheVariants.{Running}
use Rattle.journaled_actor.specs.Kept.{ActorParts, actor_view}
use Rattle.lane_core.specs.Lane.{LaneView, lane_terms}
use Rattle.step_driver.specs.Delivering.{IsPlayer}
use Rattle.cell_cases.proofs.Beginnings.{first_player}
use Rattle.cell_cases.proofs.beginning.begin.Goals as goal

pub begin-requires-clause-player : goal.begin-requires-clause-player
begin-requires-clause-player g c =
    let b = g.B.Book in
    let s = c.args.script.now in
    let seat = c.args.seat in
    subst (λ (a : ActorParts g.row.B-Seat.Denot MemoryState LaneView). IsPlayer s.config s false (record {
      seat = record { config = b.config a.seat; node = b.node a.seat; actor = b.actor a.seat; seen = b.seen a.seat };
      view = actor_view lane_terms supply_of (λ disk. disk.faults) a;
      fate = Running;
    })) (sym c.new_lane-lane.ensures)
    (first_player s c.quiet_disk.result (b.config seat) (b.seen seat) (b.node seat) (b.actor seat) c.requires.plans c.requires.honest c.requires.nodes c.quiet_disk.ensures c.requires.seat.1 c.requires.seat.2)
