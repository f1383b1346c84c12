-- What stands where after a write over a list, and what an error says.
use Rattle.std.proofs.Common.{◌≡◌, ◌≤◌, ◌<◌, ◌+◌, length, ℕ, List, max, slice_index}
use Rattle.std.proofs.Common.{arith, Result, Ok, Err, OnErr}
use Rattle.std.proofs.lemmas.List.{places}
use Rattle.disk_model.specs.Disk.{overwritten}

pub length-overwritten : (at : ℕ) (bytes old : List ℕ) → at ≤ length old → length (overwritten at bytes old) ≡ max (length old) (at + length bytes)
length-overwritten at bytes old h = grind (arith, places)

pub overwritten_below : (at : ℕ) (bytes old : List ℕ) (k : ℕ) → at ≤ length old → k < at → slice_index (overwritten at bytes old) k ≡ slice_index old k
overwritten_below at bytes old k h l = grind (arith, places)

pub overwritten_above : (at : ℕ) (bytes old : List ℕ) (k : ℕ) → at ≤ length old → at + length bytes ≤ k
    → slice_index (overwritten at bytes old) k ≡ slice_index old k
overwritten_above at bytes old k h l = grind (arith, places)

-- what holds in any case holds of an error
pub on_err : {T E : Type 0} (r : Result T E) (P : Type 0) → P → OnErr r P
on_err (Ok x) P p = tt
on_err (Err e) P p = p
