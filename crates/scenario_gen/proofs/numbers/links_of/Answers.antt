use Rattle.std.proofs.Common.{◌+◌, ◌-◌, [], Some, None, ap}
use Rattle.net_script.specs.declared.script.Link.{Link}
use Rattle.net_script.specs.declared.script.Shape.TheVariants as shapes
use Rattle.seed_words.proofs.Moving.{one_more}
use Rattle.scenario_gen.specs.Generated.{dropped_from}
use Rattle.scenario_gen.proofs.numbers.links_of.Goals as goal

pub loop-j-preserved : goal.loop-j-preserved
loop-j-preserved c =
    let n = c.args.n in
    let j = c.loop-j.j in
    one_more (dropped_from n) [] c.loop-j.rules.items _ _ j c.loop-j.invariant c.in_ok-push.ensures.items
    (ap (λ f. let link : Link = record { from = Some (n - f + j); to = None; every = 3; at = 1; shape = shapes.Drop } in link) c.faulty_of-f.ensures.value)
