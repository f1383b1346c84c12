-- What an outside object tells of its calls: the bytes that it has left or holds, and a count of its faults.
use Rattle.std.specs.Prelude.{◌≡◌, ℕ, ◌+◌, ◌-◌, ◌^◌, ◌≤◌, min, Bool, true, false, List, length, take, Option, Result, OnOk, IfErr, MatchResult}
use Rattle.std.specs.Io.KnownBytes.{Appends}

-- a count went up by one or more, or was at its end already
abbrev pub Rose : ℕ → ℕ → Type 0
Rose before after = min (before + 1) (2 ^ 64 - 1) ≤ after

-- a count went up if a test passed, and else is as before
abbrev pub RoseIf : Bool → ℕ → ℕ → Type 0
RoseIf true before after = Rose before after
RoseIf false before after = after ≡ before

-- a call never lowers its object's count of faults, raises it where it fails with a fault of the object's own, and else leaves it
pub record HasCauseOf {T E : Type 0} (is_own : E → Bool) (before after : ℕ) (result : Result T E) : Type 0 where
  pub later : before ≤ after
  pub failed : IfErr result (λ fault. RoseIf (is_own fault) before after)
  pub quiet : OnOk result (after ≡ before)

-- the same for an object that fails with no other fault than its own
abbrev pub HasCause : {T E : Type 0} → ℕ → ℕ → Result T E → Type 0
HasCause before after result = HasCauseOf (λ _. true) before after result

-- a call that failed counts as one fault, and one that succeeded as none
abbrev pub CountsOne : {T E : Type 0} → ℕ → ℕ → Result T E → Type 0
CountsOne before after result = MatchResult result (λ _. after ≡ before) (λ _. after ≡ min (before + 1) (2 ^ 64 - 1))

-- known bytes grow by some front of these bytes
abbrev pub AppendsFront : Option (List ℕ) → Option (List ℕ) → List ℕ → Type 0
AppendsFront old new bytes = (n : ℕ) × (n ≤ length bytes) × Appends old new (take n bytes)

-- a put appends all its bytes, or fails after a front of them
abbrev pub Puts : {T E : Type 0} → Option (List ℕ) → Option (List ℕ) → Result T E → List ℕ → Type 0
Puts old new result bytes = MatchResult result (λ _. Appends old new bytes) (λ _. AppendsFront old new bytes)
