-- What happens to the disks of a run.
use Rattle.std.specs.Prelude.{ℕ, ◌+◌, ◌&&◌, Bool, true, false, List, [], ◌∷◌, map, if◌then◌else◌}
use Rattle.std.specs.List.{filter, flat_map, range_with_len}
use Rattle.hb_base.specs.NodeSet.{is_in}
use Rattle.disk_model.specs.declared.plan.Stop.{Stop}
use Rattle.script_reader.specs.declared.stops.StopAt.{StopAt}
use Rattle.script_reader.specs.declared.stops.CallAt.{CallAt}
use Rattle.script_reader.specs.Entries.{is_call_of, is_stop_of, stop_of}
use Rattle.net_script.specs.Scenario.{Planned}

-- what happens to the disk of an actor, in the scenario's order
abbrev pub stops_of : List StopAt → ℕ → ℕ → List Stop
stops_of stops node actor = map stop_of (filter (is_stop_of node actor) stops)

abbrev pub faults_of : List CallAt → ℕ → ℕ → List ℕ
faults_of faults node actor = map (λ at. at.call) (filter (is_call_of node actor) faults)

abbrev pub is_empty : {X : Type 0} → List X → Bool
is_empty [] = true
is_empty (x ∷ xs) = false

-- the entry of an actor, where something happens to its disk
abbrev pub entry_if : Planned → List Planned
entry_if plan = if is_empty plan.stops && is_empty plan.faults then [] else plan ∷ []

unfoldable pub actor_plan : List StopAt → List CallAt → ℕ → ℕ → List Planned
actor_plan stops faults node actor = entry_if (record { node = node; actor = actor; stops = stops_of stops node actor; faults = faults_of faults node actor })

-- the entries of a node's actors, in their order; none at a node that lies, where no actor has a disk
unfoldable pub node_plans : ℕ → List Bool → List StopAt → List CallAt → ℕ → List Planned
node_plans n liars stops faults node = if is_in liars node then [] else flat_map (actor_plan stops faults node) (range_with_len 0 (n + 1))

-- the entries of all nodes, in their order
unfoldable pub plans_of : ℕ → List Bool → List StopAt → List CallAt → List Planned
plans_of n liars stops faults = flat_map (node_plans n liars stops faults) (range_with_len 0 n)
