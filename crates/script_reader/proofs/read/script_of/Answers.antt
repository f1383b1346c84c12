use Rattle.std.proofs.Common.{◌≡◌, ap, ◌∙◌}
use Rattle.hb_base.specs.NodeSet.{is_in}
use Rattle.net_script.specs.Sound.{nodes_of}
use Rattle.net_script.proofs.Lying.{those_lie}
use Rattle.script_reader.proofs.Planned.{plans_in_order, plans_sound}
use Rattle.script_reader.proofs.read.script_of.Goals as goal

pub returns-clause-sound : goal.returns-clause-sound
returns-clause-sound c =
    let listed = c.requires.listed in
    let n = c.args.head.sizes.nodes in
    let nodes = c.nodes_of-nodes.result in
    let stops = c.args.lists.stops.items in
    let faults = c.args.lists.faults.items in
    let liars = c.args.lists.liars.items in
    let lie : nodes ≡ nodes_of liars = rw c.as_slice.ensures.value at c.nodes_of-nodes.ensures.exact in
    rw (c.config_of.ensures, c.in_ok-plans.ensures) (record {
      workers = c.requires.bounded.workers.1;
      submit = listed.submit;
      liars = listed.liars;
      few = listed.few;
      apart = listed.apart;
      lie = lie;
      liars_lie = λ node. ap (λ set. is_in set node) lie ∙ those_lie n liars c.requires.bounded.nodes.1 listed.liars node;
      links = listed.links;
      few_links = listed.few_links;
      plans = plans_sound n nodes stops faults listed.stops listed.faults listed.few_stops listed.few_faults;
      in_order = plans_in_order n nodes stops faults;
    })
