-- What holds of the numbers and lists that are read.
use Rattle.std.specs.Prelude.{ℕ, ◌<◌, ◌≤◌, Bool, List, length, count_by}
use Rattle.std.specs.List.{All, AllPairs}
use Rattle.hb_base.specs.Counting.{count_nodes}
use Rattle.hb_base.specs.NodeSet.{is_in}
use Rattle.hb_base.specs.Limits.{most_nodes, most_faulty, most_epochs, most_rounds, most_batch, most_workers, latest_version}
use Rattle.hb_base.specs.Limits.{most_links, most_stops, most_faults}
use Rattle.hb_base.specs.Numbers.{IsBetween}
use Rattle.script_reader.specs.declared.lists.Lists.{Lists}
use Rattle.script_reader.specs.declared.stops.StopAt.{StopAt}
use Rattle.script_reader.specs.declared.stops.CallAt.{CallAt}
use Rattle.script_reader.specs.declared.top.Sizes.{Sizes}
use Rattle.script_reader.specs.Entries.{is_call_of, is_stop_of}
use Rattle.net_script.specs.Sound.{IsSubmit, IsLiar, AreApart, IsLink, IsNumbered}

pub record IsCall (n : ℕ) (at : CallAt) : Type 0 where
  pub node : at.node < n
  pub actor : at.actor ≤ n
  pub call : IsNumbered at.call

abbrev pub IsStop : ℕ → StopAt → Type 0
IsStop n stop = IsCall n stop.at

-- no disk stops, and none fails, more often than it may
abbrev pub AreFewStops : List StopAt → Type 0
AreFewStops stops = (node actor : ℕ) → count_by (is_stop_of node actor) stops ≤ most_stops

abbrev pub AreFewFaults : List CallAt → Type 0
AreFewFaults faults = (node actor : ℕ) → count_by (is_call_of node actor) faults ≤ most_faults

-- the numbers of a scenario, each within its limits
pub record AreBounded (sizes : Sizes) : Type 0 where
  pub nodes : IsBetween 1 most_nodes sizes.nodes
  pub faulty : IsBetween 0 most_faulty sizes.faulty
  pub epochs : IsBetween 1 most_epochs sizes.epochs
  pub rounds : IsBetween 1 most_rounds sizes.rounds
  pub batch : IsBetween 1 most_batch sizes.batch
  pub version : IsBetween 1 latest_version sizes.version
  pub workers : IsBetween 0 most_workers sizes.workers

-- a set of at most so many nodes
pub record HasAtMost (most : ℕ) (set : List Bool) : Type 0 where
  pub few : count_nodes most_nodes (is_in set) ≤ most

-- the lists of a scenario of n nodes, of which at most f lie
pub record AreListed (n f : ℕ) (ls : Lists) : Type 0 where
  pub submit : All (IsSubmit n) ls.submit.items
  pub liars : All (IsLiar n) ls.liars.items
  pub few : length ls.liars.items ≤ f
  pub apart : AllPairs AreApart ls.liars.items
  pub links : All (IsLink n) ls.links.items
  pub few_links : length ls.links.items ≤ most_links
  pub stops : All (IsStop n) ls.stops.items
  pub few_stops : AreFewStops ls.stops.items
  pub faults : All (IsCall n) ls.faults.items
  pub few_faults : AreFewFaults ls.faults.items
