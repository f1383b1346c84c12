use Rattle.gf_field.proofs.tables.power.Goals as goal
use Rattle.gf_field.proofs.Powers.{POWERS-is}

pub returns : goal.returns
returns c = POWERS-is c.args.exponent c.requires
