-- What a crash may leave of a disk: the bytes of its two halves.
use Rattle.std.specs.Prelude.{ℕ, List}
use Rattle.disk_model.specs.declared.disk.Half.{Half}
use Rattle.disk_model.specs.declared.disk.Half.TheVariants.{A, B}

-- the bytes of both halves
pub record Image : Type 0 where
  pub a : List ℕ
  pub b : List ℕ

-- the bytes of one half
abbrev pub half_of : Half → Image → List ℕ
half_of A image = image.a
half_of B image = image.b

-- the half beside this one
abbrev pub other : Half → Half
other A = B
other B = A

-- the image with these bytes in one half
abbrev pub with_half : Half → List ℕ → Image → Image
with_half A bytes image = record { a = bytes; b = image.b }
with_half B bytes image = record { a = image.a; b = bytes }
