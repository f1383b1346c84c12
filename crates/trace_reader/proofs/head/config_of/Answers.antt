use Rattle.trace_reader.proofs.Heads.{none_fits}
use Rattle.trace_reader.proofs.head.config_of.Goals as goal

pub returns-clause-none : goal.returns-clause-none
returns-clause-none c =
    none_fits c.new.result c.args.head.now c.nodes_of-liars.result c.nodes_of-liars.ensures.marks c.nodes_of-liars.ensures.number c.new.ensures.found
