use Rattle.std.proofs.Common.{arith}
use Rattle.last_deliveries.proofs.Lists.{IsKept-set}
use Rattle.last_deliveries.proofs.listing.add_to.Goals as goal

pub returns-clause-kept : goal.returns-clause-kept
returns-clause-kept c =
    IsKept-set c.args.lists.now.items c.args.number c.index_mut.result.now c.push.new.self (omega (arith, c.requires.each, c.ranges.number.fits)) c.index_mut.ensures.value c.push.ensures.kept
