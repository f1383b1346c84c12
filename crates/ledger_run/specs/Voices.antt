-- What speaks for the nodes that lie. A cast is a list of boxes of a type L; `name` tells the name of each.
use Rattle.std.specs.Prelude.{◌≡◌, ℕ, ◌<◌, ◌==◌, bytes_eq, true, false, List, [], ◌∷◌, length, remove, Option, Some, None, slice_get, if◌then◌else◌}
use Rattle.std.specs.Option.{option_map}
use Rattle.net_script.specs.declared.script.LiarAt.{LiarAt}
use Rattle.step_driver.specs.declared.place.Place.{Place}
use Rattle.step_driver.specs.declared.place.Place.TheVariants.{Correct, Lying}

-- ---- whom a cast has for them

-- of the first n boxes of a cast none has this name
pub record NoneHas {L : Type 0} (name : L → List ℕ) (wanted : List ℕ) (cast : List L) (n : ℕ) : Type 0 where
  pub each : (p : ℕ) (other : L) → p < n → slice_get cast p ≡ Some other → bytes_eq (name other) wanted ≡ false

-- the box at a place is the first of a cast with this name
pub record IsFirst {L : Type 0} (name : L → List ℕ) (wanted : List ℕ) (cast : List L) (place : ℕ) (box : L) : Type 0 where
  pub stands : slice_get cast place ≡ Some box
  pub named : bytes_eq (name box) wanted ≡ true
  pub none_before : NoneHas name wanted cast place

abbrev pub HasFirst : {L : Type 0} → (L → List ℕ) → List ℕ → List L → ℕ → Type 0
HasFirst {L} name wanted cast place = (box : L) × IsFirst name wanted cast place box

-- Of a cast the first box with this name was taken, and the rest is left; nothing was taken where there is none.
abbrev pub IsTaken : {L : Type 0} → (L → List ℕ) → List ℕ → List L → Option L → List L → Type 0
IsTaken name wanted cast (Some box) rest = (place : ℕ) × (IsFirst name wanted cast place box × (rest ≡ remove cast place))
IsTaken name wanted cast None rest = NoneHas name wanted cast (length cast) × (rest ≡ cast)

-- For each wanted name in order a box was taken, of those that none before has taken, and the rest is left.
abbrev pub AreTaken : {L : Type 0} → (L → List ℕ) → List (List ℕ) → List L → List (Option L) → List L → Type 0
AreTaken name [] cast [] rest = rest ≡ cast
AreTaken name [] cast (voice ∷ voices) rest = ⊥
AreTaken name (wanted ∷ more) cast [] rest = ⊥
AreTaken {L} name (wanted ∷ more) cast (voice ∷ voices) rest = (left : List L) × (IsTaken name wanted cast voice left × AreTaken name more left voices rest)

-- Of each wanted name in order the first box of the cast that has it and that none before has taken; none where there is none.
pub record AreHired {L : Type 0} (name : L → List ℕ) (wanted : List (List ℕ)) (cast : List L) (voices : List (Option L)) : Type 0 where
  pub left : List L
  pub taken : AreTaken name wanted cast voices left

-- ---- the liar at a node

-- how many posts the liar at node i hears
abbrev pub hears_at : ℕ → List LiarAt → ℕ
hears_at i [] = 0
hears_at i (liar ∷ liars) = if liar.node == i then liar.hears else hears_at i liars

-- of the voices of these liars, in their order, that of the one at node i
abbrev pub voice_at : {L : Type 0} → ℕ → List LiarAt → List (Option L) → Option L
voice_at i [] voices = None
voice_at i (liar ∷ liars) [] = None
voice_at i (liar ∷ liars) (voice ∷ voices) = if liar.node == i then voice else voice_at i liars voices

-- the voices once it was taken out
abbrev pub without_voice : {L : Type 0} → ℕ → List LiarAt → List (Option L) → List (Option L)
without_voice i [] voices = voices
without_voice i (liar ∷ liars) [] = []
without_voice i (liar ∷ liars) (voice ∷ voices) = if liar.node == i then None ∷ voices else voice ∷ without_voice i liars voices

-- of the first n liars none is at node i
pub record NoneAt (i : ℕ) (liars : List LiarAt) (n : ℕ) : Type 0 where
  pub each : (p : ℕ) (other : LiarAt) → p < n → slice_get liars p ≡ Some other → (other.node == i) ≡ false

-- the liar at a place of a list is the first at node i
pub record IsAt (i : ℕ) (liars : List LiarAt) (place : ℕ) (liar : LiarAt) : Type 0 where
  pub stands : slice_get liars place ≡ Some liar
  pub here : (liar.node == i) ≡ true
  pub none_before : NoneAt i liars place

abbrev pub StandsAt : ℕ → List LiarAt → ℕ → Type 0
StandsAt i liars place = (liar : LiarAt) × IsAt i liars place liar

-- at a place there is a node that lies, which hears so many posts; what speaks for it is this liar, or nothing where it is none
abbrev pub IsHiredWith : {A V L : Type 0} → (V → Option L) → Place A V → ℕ → Option L → Type 0
IsHiredWith liar_of (Correct player) hears liar = ⊥
IsHiredWith liar_of (Lying hired) hears liar = (hired.hears ≡ hears) × (option_map liar_of hired.mouth ≡ Some liar)
