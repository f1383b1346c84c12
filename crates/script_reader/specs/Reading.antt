-- Which bytes are a scenario, which one, and which is the first fault of those that are none.
use Rattle.std.specs.Prelude.{ℕ, ◌*◌, ◌-◌, ◌^◌, nat_lt, nat_le, List, length, Option, None, ok_or, Result, Ok, if◌then◌else◌}
use Rattle.std.specs.Str.{is_utf8}
use Rattle.serde_json.specs.Data.{Data}
use Rattle.serde_json.specs.Read.{read}
use Rattle.hb_base.specs.Limits.{most_nodes, most_faulty, most_epochs, most_rounds, most_batch, most_workers, latest_version, longest_scenario}
use Rattle.hb_base.specs.Numbers.{numbers}
use Rattle.script_fault.specs.declared.fault.ScriptFault.{ScriptFault}
use Rattle.script_fault.specs.declared.fault.ScriptFault.TheVariants.{TooLong, NotJson, TooFewNodes}
use Rattle.script_fault.specs.declared.place.ListName.TheVariants as lists
use Rattle.script_fault.specs.declared.place.KeyName.TheVariants as keys
use Rattle.net_script.specs.declared.script.Submit.{Submit}
use Rattle.net_script.specs.declared.script.LiarAt.{LiarAt}
use Rattle.net_script.specs.declared.script.Link.{Link}
use Rattle.script_reader.specs.declared.stops.StopAt.{StopAt}
use Rattle.script_reader.specs.declared.stops.CallAt.{CallAt}
use Rattle.script_reader.specs.declared.lists.Lists.{Lists}
use Rattle.script_reader.specs.declared.top.Sizes.{Sizes}
use Rattle.script_reader.specs.declared.top.Head.{Head}
use Rattle.script_reader.specs.Fault.{◌>>=◌, check}
use Rattle.script_fault.specs.Place.{top}
use Rattle.script_reader.specs.Fields.{entry_at, number_at, number_or, order_or_fifo}
use Rattle.script_reader.specs.Entries.{submits_at, liars_at, links_at, stops_at, faults_at}
use Rattle.net_script.specs.Sound.{nodes_of}
use Rattle.script_reader.specs.Plans.{plans_of}
use Rattle.net_script.specs.Scenario.{Scenario}

-- ---- the keys with numbers, and the order

-- these numbers, and those that may be missing
unfoldable pub with_usual : ℕ → ℕ → ℕ → Data → Result Sizes ScriptFault
with_usual nodes faulty epochs d = do
  rounds ← number_or most_rounds (top keys.Rounds) 1 most_rounds d
  batch ← number_or most_batch (top keys.Batch) 1 most_batch d
  seed ← number_or 0 (top keys.Seed) 0 (2 ^ 64 - 1) d
  version ← number_or 1 (top keys.Version) 1 latest_version d
  workers ← number_or 0 (top keys.Workers) 0 most_workers d
  Ok (record { nodes = nodes; faulty = faulty; epochs = epochs; rounds = rounds; batch = batch; seed = seed; version = version; workers = workers })

unfoldable pub sizes_at : Data → Result Sizes ScriptFault
sizes_at d = do
  nodes ← number_at (top keys.Nodes) 1 most_nodes d
  faulty ← number_at (top keys.Faulty) 0 most_faulty d
  epochs ← number_at (top keys.Epochs) 1 most_epochs d
  with_usual nodes faulty epochs d

-- what comes before the lists: the keys, the numbers and the order, and more than three times as many nodes as may be faulty
unfoldable pub head_at : Data → Result Head ScriptFault
head_at d = do
  known ← entry_at lists.Top 0 d
  sizes ← sizes_at d
  order ← order_or_fifo (top keys.Order) d
  enough ← check (nat_lt (3 * sizes.faulty) sizes.nodes) (TooFewNodes sizes.nodes sizes.faulty)
  Ok (record { sizes = sizes; order = order })

-- ---- the lists

pub record Listed : Type 0 where
  pub submit : List Submit
  pub liars : List LiarAt
  pub links : List Link
  pub stops : List StopAt
  pub faults : List CallAt

-- the lists, wherever they lie in memory
abbrev pub listed : Lists → Listed
listed ls = record { submit = ls.submit.items; liars = ls.liars.items; links = ls.links.items; stops = ls.stops.items; faults = ls.faults.items }

unfoldable pub lists_at : ℕ → ℕ → List (List ℕ) → Data → Result Listed ScriptFault
lists_at n f cast d = do
  submit ← submits_at n d
  liars ← liars_at n f cast d
  links ← links_at n d
  stops ← stops_at n d
  faults ← faults_at n d
  Ok (record { submit = submit; liars = liars; links = links; stops = stops; faults = faults })

-- ---- the scenario

unfoldable pub scenario : Head → Listed → Scenario
scenario head ls = record {
  config = numbers head.sizes.nodes head.sizes.faulty head.sizes.epochs head.sizes.rounds head.sizes.batch head.sizes.seed head.sizes.version
      (nodes_of ls.liars);
  workers = head.sizes.workers;
  order = head.order;
  submit = ls.submit;
  liars = ls.liars;
  links = ls.links;
  plans = plans_of head.sizes.nodes (nodes_of ls.liars) ls.stops ls.faults;
}

unfoldable pub scenario_at : List (List ℕ) → Data → Result Scenario ScriptFault
scenario_at cast d = do
  head ← head_at d
  ls ← lists_at head.sizes.nodes head.sizes.faulty cast d
  Ok (scenario head ls)

-- the JSON value that bytes spell: those of a text that serde_json reads
abbrev pub json_of : List ℕ → Option Data
json_of bytes = if is_utf8 bytes then read bytes else None

-- the scenario that bytes spell, for a cast with boxes of these names, or the first fault
unfoldable pub scenario_of : List ℕ → List (List ℕ) → Result Scenario ScriptFault
scenario_of bytes cast = do
  short ← check (nat_le (length bytes) longest_scenario) TooLong
  d ← ok_or (json_of bytes) NotJson
  scenario_at cast d
