-- What is seen of an output, and what calls on it come to.
use Rattle.std.specs.Prelude.{◌≡◌, ℕ, ◌⊎◌, List, Option}
use Rattle.std.specs.Io.KnownBytes.{Appends}
use Rattle.hb_base.specs.Outside.{Rose, AppendsFront}

-- a sink: what it holds, where it tells that, and how many of its calls have failed
pub record SinkView : Type 0 where
  pub held : Option (List ℕ)
  pub faults : ℕ

-- the sink that is seen through the two members of its trait
abbrev pub sink_view : {S : Type 0} → (S → Option (List ℕ)) → (S → ℕ) → S → SinkView
sink_view held faults sink = record { held = held sink; faults = faults sink }

-- all these bytes were put, and no put failed
pub record HasPut (old new : SinkView) (bytes : List ℕ) : Type 0 where
  pub appended : Appends old.held new.held bytes
  pub quiet : new.faults ≡ old.faults

-- a put failed, and of these bytes a front was put
pub record FailsWithin (old new : SinkView) (bytes : List ℕ) : Type 0 where
  pub front : AppendsFront old.held new.held bytes
  pub rose : Rose old.faults new.faults

-- all these bytes were put, unless a put failed
abbrev pub PutsOrFails : SinkView → SinkView → List ℕ → Type 0
PutsOrFails old new bytes = HasPut old new bytes ⊎ FailsWithin old new bytes

-- a line was put and the wanted status answered, or a put failed and 7 was answered
abbrev pub PutsOr7 : SinkView → SinkView → List ℕ → ℕ → ℕ → Type 0
PutsOr7 old new line wanted status = ((status ≡ wanted) × HasPut old new line) ⊎ ((status ≡ 7) × FailsWithin old new line)
