use Rattle.scenario_gen.proofs.Found.{found}
use Rattle.scenario_gen.proofs.numbers.config_of.Goals as goal

pub unwrap-requires : goal.unwrap-requires
unwrap-requires c =
    let sound = found c.args.number c.args.n c.args.epochs c.args.batch c.requires.nodes.0 c.requires.nodes.1 c.requires.epochs c.requires.batch in
    c.new.ensures.found.1 (rw (c.faulty_of.ensures.value, c.liars_of.ensures) sound)
