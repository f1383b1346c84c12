-- The inputs of an agreement.
use Rattle.std.specs.Prelude.{Bool, true, false}
use Rattle.aba_core.specs.State.{AbaView}

-- the state once its lane has delivered, and once its own desk wants no more lanes
abbrev pub with_input : Bool → AbaView → AbaView
with_input true a = record a { is_delivered = true }
with_input false a = record a { no_more = true }
