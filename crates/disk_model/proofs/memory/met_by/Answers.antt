use Rattle.disk_model.proofs.Plans.{met_by_small}
use Rattle.disk_model.proofs.memory.met_by.Goals as goal

pub returns-in-Ok : goal.returns-in-Ok
returns-in-Ok c =
    met_by_small c.args.off c.args.number c.in-Ok.call c.args.plan.now.stops.items c.deref.result.now c.args.plan.now.faults.items
    c.deref-in-Ok.result.now c.stop_at.result c.is_planned.result c.met_at.result
    c.in-None.is c.in-Ok.ensures.0 c.in-Ok.ensures.1 c.deref.ensures.value c.deref-in-Ok.ensures.value c.stop_at.ensures c.is_planned.ensures c.met_at.ensures
