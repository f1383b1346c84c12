use Rattle.std.proofs.Common.{length, ap, arith}
use Rattle.ledger_run.proofs.Plans.{planned_count}
use Rattle.ledger_run.proofs.disks.disk_of.Goals as goal

pub new-requires : goal.new-requires
new-requires c = omega (arith, ap length c.in_ok-plan.ensures.stops, planned_count c.args.script.now c.args.node c.args.actor, c.requires.few)
