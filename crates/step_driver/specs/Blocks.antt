-- Envelopes that lie in blocks.
use Rattle.std.specs.Prelude.{◌≡◌, ℕ, ◌+◌, ◌<◌, List, length, take, remove, Some, slice_get}
use Rattle.std.specs.List.{flat_map}
use Rattle.step_driver.specs.declared.envelope.Envelope.{Envelope}

-- the envelopes of all blocks, in order
abbrev pub joined : List (List Envelope) → List Envelope
joined blocks = flat_map (λ block. block) blocks

-- the envelope at a place of all is at a place of this block
pub record IsFound (blocks : List (List Envelope)) (at number place : ℕ) : Type 0 where
  pub block : List Envelope
  pub stands : slice_get blocks number ≡ Some block
  pub within : place < length block
  pub before : length (joined (take number blocks)) + place ≡ at

-- one was taken out
pub record IsTakenAt (old : List Envelope) (at : ℕ) (taken : Envelope) (new : List Envelope) : Type 0 where
  pub stands : slice_get old at ≡ Some taken
  pub rest : new ≡ remove old at
  pub less : length new + 1 ≡ length old
