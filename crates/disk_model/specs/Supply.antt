-- The power supply of a disk, with its plan of stops and faults.
use Rattle.std.specs.Prelude.{◌≡◌, ◌⊎◌, ℕ, ◌<◌, ◌≤◌, Bool, true, false, List, [], Contains}

-- whether the disk is off, how many stops of its plan are still to come, the faults of its plan, and the number of its last
-- numbered call
pub record Supply : Type 0 where
  pub off : Bool
  pub stops : ℕ
  pub planned : List ℕ
  pub calls : ℕ

-- a disk that has no plan and is never off
abbrev pub mains : Supply
mains = record { off = false; stops = 0; planned = []; calls = 0 }

-- What the calls of a disk do to its supply: none switches it on, one that switches it off uses up a stop, and no other does.
pub record Draws (before now : Supply) : Type 0 where
  pub stays_off : before.off ≡ true → now.off ≡ true
  pub no_more : now.stops ≤ before.stops
  pub uses_up : before.off ≡ false → now.off ≡ true → now.stops < before.stops
  pub kept : now.off ≡ before.off → now.stops ≡ before.stops
  pub planned : now.planned ≡ before.planned
  pub calls : before.calls ≤ now.calls

-- the disk is off, or the last numbered call is named in the faults of the plan
abbrev pub IsNamed : Supply → Type 0
IsNamed supply = (supply.off ≡ true) ⊎ Contains supply.planned supply.calls
