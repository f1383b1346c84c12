-- The core of any actor of a node, as contracts see it.
use Rattle.std.specs.Prelude.{List}
use Rattle.hb_wire.specs.declared.vote.Vote.{Vote}
use Rattle.hb_rules.specs.Hearing.{Hearing}
use Rattle.hb_rules.specs.Terms.{Terms}
use Rattle.lane_core.specs.Lane.{lane_terms, Stands}
use Rattle.desk_core.specs.Desk.{desk_terms, StandsFor}
use Rattle.ledger_run.specs.declared.node_core.NodeCore.{NodeCore}
use Rattle.ledger_run.specs.declared.node_core.NodeCore.TheVariants.{Lane, Desk}

-- by what it goes
abbrev pub core_terms : NodeCore → Terms
core_terms (Lane lane) = lane_terms lane
core_terms (Desk desk) = desk_terms desk

-- it stands for these votes and for what was heard
abbrev pub core_stands : NodeCore → List Vote → List Hearing → Type 0
core_stands (Lane lane) own heard = Stands lane own heard
core_stands (Desk desk) own heard = StandsFor desk own heard
