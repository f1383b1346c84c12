-- What is seen of an output, and what calls on it come to.
use Rattle.std.specs.Prelude.{◌≡◌, ℕ, ◌⊎◌, List, Option}
use Rattle.std.specs.Io.KnownBytes.{Appends, Keeps}
use Rattle.hb_base.specs.Outside.{Rose, AppendsFront}

-- a sink: the sink itself, what it holds, where it tells that, and how many of its calls have failed
pub record SinkView (S : Type 0) : Type 0 where
  pub itself : S
  pub held : Option (List ℕ)
  pub faults : ℕ

-- the sink that is seen through the two members of its trait
abbrev pub sink_view : {S : Type 0} → (S → Option (List ℕ)) → (S → ℕ) → S → SinkView S
sink_view held faults sink = record { itself = sink; held = held sink; faults = faults sink }

-- nothing was asked of the sink: it is as it was
abbrev pub IsUntouched : {S : Type 0} → SinkView S → SinkView S → Type 0
IsUntouched old new = new ≡ old

-- nothing was put, and no put failed
abbrev pub IsUnused : {S : Type 0} → SinkView S → SinkView S → Type 0
IsUnused old new = Keeps old.held new.held × (new.faults ≡ old.faults)

-- all these bytes were put, and no put failed
abbrev pub HasPut : {S : Type 0} → SinkView S → SinkView S → List ℕ → Type 0
HasPut old new bytes = Appends old.held new.held bytes × (new.faults ≡ old.faults)

-- a put failed, and of these bytes a front was put
abbrev pub FailsWithin : {S : Type 0} → SinkView S → SinkView S → List ℕ → Type 0
FailsWithin old new bytes = AppendsFront old.held new.held bytes × Rose old.faults new.faults

-- all these bytes were put, unless a put failed
abbrev pub PutsOrFails : {S : Type 0} → SinkView S → SinkView S → List ℕ → Type 0
PutsOrFails old new bytes = HasPut old new bytes ⊎ FailsWithin old new bytes

-- a line was put and the wanted status answered, or a put failed and 7 was answered
abbrev pub PutsOr7 : {S : Type 0} → SinkView S → SinkView S → List ℕ → ℕ → ℕ → Type 0
PutsOr7 old new line wanted status = ((status ≡ wanted) × HasPut old new line) ⊎ ((status ≡ 7) × FailsWithin old new line)
