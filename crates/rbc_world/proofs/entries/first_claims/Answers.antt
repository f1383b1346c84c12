use Rattle.rbc_world.proofs.FirstClaims.{entries_none}
use Rattle.rbc_world.proofs.entries.first_claims.Goals as goal

pub loop-number-init : goal.loop-number-init
loop-number-init c = entries_none c.args.config.now c.args.kind c.args.posts.now c.no_entries-table.result c.no_entries-table.ensures
