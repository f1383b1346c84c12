use Rattle.gf_field.proofs.tables.logarithm.Goals as goal
use Rattle.gf_field.proofs.Powers.{LOGARITHMS-is}

pub returns-clause-below : goal.returns-clause-below
returns-clause-below c = (LOGARITHMS-is c.args.a c.requires c.ranges.a.fits).0

pub returns-clause-power : goal.returns-clause-power
returns-clause-power c = (LOGARITHMS-is c.args.a c.requires c.ranges.a.fits).1
