use Rattle.hb_rules.proofs.Lawful.{terms_lawful}
use Rattle.hb_rules.proofs.laws.term_laws.Goals as goal

pub returns : goal.returns
returns c = terms_lawful
