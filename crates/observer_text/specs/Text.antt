-- What is printed of the observers of a run. Numbers are in decimal. The letter i is a node of the run.
use Rattle.std.specs.Prelude.{◌≡◌, ℕ, List, ◌++◌, length, codes, Option, Result, Ok, Err, ⊤}
use Rattle.std.specs.Io.KnownBytes.{Appends, Keeps}
use Rattle.std.specs.List.{enumerate_from, flat_map, range_with_len}
use Rattle.hb_base.specs.Outside.{Rose, AppendsFront}
use Rattle.hb_wire.specs.declared.items.Item.{Item}
use Rattle.hb_rules.specs.declared.report.Report.{Report}
use Rattle.ledger_text.specs.Lines.{counted, numbers_line, end_line}
use Rattle.ledger_text.specs.Text.{lists_text}
use Rattle.observer.specs.Beside.{observed_beside}
use Rattle.observer_text.specs.declared.fault.ObserveFault.{ObserveFault}
use Rattle.observer_text.specs.declared.fault.ObserveFault.TheVariants.{Sink, Memory}

-- the observer beside node i, and how many epochs its ledger has
unfoldable pub observer_line : ℕ → ℕ → List ℕ
observer_line i epochs = counted (codes "observer ") i ++ (counted (codes " epochs ") epochs ++ codes "\n")

-- the observer beside node i with this ledger, whose lists are those of the epochs from 0 on
unfoldable pub observer_text : ℕ → List (List Item) → List ℕ
observer_text i lists = observer_line i (length lists) ++ lists_text (enumerate_from 0 lists)

-- the observer beside node i in a run
abbrev pub beside_text : Report → ℕ → List ℕ
beside_text report i = observer_text i (observed_beside report i)

-- the whole text
unfoldable pub observe_text : Report → List ℕ
observe_text report =
    numbers_line (codes "observe") report.config ++ (flat_map (beside_text report) (range_with_len 0 report.config.n) ++ end_line report.status)

-- A sink took a text. Or it failed after a front of it, and its count of faults rose. Or memory was wanting, and nothing was
-- written.
abbrev pub Prints : Option (List ℕ) → Option (List ℕ) → ℕ → ℕ → Result ⊤ ObserveFault → List ℕ → Type 0
Prints held held_after faults faults_after (Ok done) text = Appends held held_after text × (faults_after ≡ faults)
Prints held held_after faults faults_after (Err Sink) text = AppendsFront held held_after text × Rose faults faults_after
Prints held held_after faults faults_after (Err Memory) text = Keeps held held_after × (faults_after ≡ faults)
