-- What the calls of a disk do, and what a crash may leave between two syncs.
use Rattle.std.specs.Prelude.{◌≡◌, ◌⊎◌, ℕ, ◌+◌, ◌-◌, ◌<◌, ◌≤◌, min, max, List, ◌++◌, length, take, drop, slice_index}
use Rattle.disk_model.specs.declared.disk.Half.{Half}
use Rattle.disk_model.specs.Image.{Image, half_of, other}

-- the bytes with these written over them from an offset on, and past the end
abbrev pub overwritten : ℕ → List ℕ → List ℕ → List ℕ
overwritten at bytes old = take at old ++ bytes ++ drop (at + length bytes) old

-- n bytes from an offset on have gone into the front of a buffer, all that there are or all that it takes
pub record Reads (bytes : List ℕ) (at : ℕ) (before after : List ℕ) (n : ℕ) : Type 0 where
  pub count : n ≡ min (length before) (length bytes - at)
  pub is : after ≡ take n (drop at bytes) ++ drop n before

-- After a write of n bytes that a crash cuts short: any bytes in the range and past the old end, the same elsewhere.
pub record TornWrite (at n : ℕ) (old new : List ℕ) : Type 0 where
  pub no_shorter : length old ≤ length new
  pub no_longer : length new ≤ max (length old) (at + n)
  pub below : (k : ℕ) → k < length old → k < at → slice_index new k ≡ slice_index old k
  pub above : (k : ℕ) → k < length old → at + n ≤ k → slice_index new k ≡ slice_index old k

-- After a cut to n bytes that a crash cuts short: any length between, any bytes in what was cut off, the same in front.
pub record Cut (n : ℕ) (old new : List ℕ) : Type 0 where
  pub no_shorter : min n (length old) ≤ length new
  pub no_longer : length new ≤ length old
  pub front : (k : ℕ) → k < n → k < length new → slice_index new k ≡ slice_index old k

-- a step of one half, the other staying as it was
pub record OnHalf (half : Half) (step : List ℕ → List ℕ → Type 0) (old new : Image) : Type 0 where
  pub here : step (half_of half old) (half_of half new)
  pub there : half_of (other half) new ≡ half_of (other half) old

-- each image that may be left now is one that might have been left before, after a step
abbrev pub Follows : (Image → Image → Type 0) → (Image → Type 0) → (Image → Type 0) → Type 0
Follows step old new = (c : Image) → new c → (d : Image) × old d × step d c

-- a crash leaves this and nothing else
abbrev pub Only : Image → (Image → Type 0) → Type 0
Only image may_leave = (c : Image) → may_leave c → c ≡ image

-- what might have been left before may be left now
abbrev pub Keeps : (Image → Type 0) → (Image → Type 0) → Type 0
Keeps old new = (c : Image) → old c → new c

-- Time goes on: a crash since t might have left what it might have left before, or what it may leave now.
pub record Elapses (before now : ℕ) (past since : ℕ → Image → Type 0) (may_leave : Image → Type 0) : Type 0 where
  pub later : before ≤ now
  pub nothing_else : (t : ℕ) (c : Image) → t ≤ before → since t c → past t c ⊎ may_leave c
  pub keeps : (t : ℕ) (c : Image) → t ≤ before → past t c → since t c

-- A crash at any moment since old leaves an image that has P.
pub record LeavesOnly {D : Type 0} (moment : D → ℕ) (left_since : D → ℕ → Image → Type 0) (old new : D) (P : Image → Type 0) : Type 0 where
  pub later : moment old ≤ moment new
  pub each : (c : Image) → left_since new (moment old) c → P c
  -- for a run that began earlier
  pub before : (t : ℕ) (c : Image) → t ≤ moment old → left_since new t c → left_since old t c ⊎ P c
