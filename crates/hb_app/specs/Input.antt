-- How much of the input is read, and what it says to a cast with these names.
use Rattle.std.specs.Prelude.{◌≡◌, ◌⊎◌, ℕ, ◌+◌, List, Option, None, Some, Result, Err}
use Rattle.hb_base.specs.Limits.{longest_scenario}
use Rattle.script_fault.specs.declared.fault.ScriptFault.{ScriptFault}
use Rattle.script_fault.specs.declared.fault.ScriptFault.TheVariants.{TooLong}
use Rattle.net_script.specs.Scenario.{Scenario}
use Rattle.script_reader.specs.Reading.{scenario_of}
use Rattle.input_reader.specs.Input.{ReadsMost}
use Rattle.input_reader.specs.Streams.{SourceView, ReadsAll}

-- bytes that are taken at most: one more than a scenario may have shows that there are more
abbrev pub most_taken : ℕ
most_taken = longest_scenario + 1

-- what a source has left, where it tells that, has this first fault
abbrev pub HasFault : List (List ℕ) → Option (List ℕ) → ScriptFault → Type 0
HasFault names None fault = Unit {0}
HasFault names (Some input) fault = scenario_of input names ≡ Err fault

-- the whole input was read, and says this
abbrev pub Says : List (List ℕ) → SourceView → SourceView → Result Scenario ScriptFault → Type 0
Says names old new read = (input : List ℕ) × ReadsAll old new input × (scenario_of input names ≡ read)

-- the input has this first fault: it was read whole, or as far as it ever is and is too long
pub record Refuses (names : List (List ℕ)) (old new : SourceView) (fault : ScriptFault) : Type 0 where
  pub first : HasFault names old.left fault
  pub reads : Says names old new (Err fault) ⊎ (ReadsMost longest_scenario old new × (fault ≡ TooLong))
