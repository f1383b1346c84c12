-- Both halves of a disk in memory.
use Rattle.std.specs.Prelude.{◌<◌, ◌+◌, length}
use Rattle.disk_model.specs.declared.disk.Half.{Half}
use Rattle.disk_model.specs.declared.disk.Half.TheVariants.{A, B}
use Rattle.disk_model.specs.declared.halves.Halves.{Halves}
use Rattle.disk_model.specs.declared.plan.Leave.{Leave}
use Rattle.disk_model.specs.Image.{Image}
use Rattle.disk_model.specs.Area.{AreaState, MayBeLeft, at_rest, left_by}

-- what a read gives
abbrev pub content_of : Halves → Image
content_of halves = record { a = halves.a.content; b = halves.b.content }

-- what a crash may leave
pub record HalvesMayLeave (halves : Halves) (c : Image) : Type 0 where
  pub a : MayBeLeft halves.a c.a
  pub b : MayBeLeft halves.b c.b

-- a change of one half
abbrev pub on_half : Half → (AreaState → AreaState) → Halves → Halves
on_half A change halves = record { a = change halves.a; b = halves.b }
on_half B change halves = record { a = halves.a; b = change halves.b }

-- both with nothing pending
abbrev pub settled : Halves → Halves
settled halves = record { a = at_rest halves.a.content; b = at_rest halves.b.content }

-- what a stop leaves of both, with nothing pending
abbrev pub restored : Leave → Halves → Halves
restored leave halves = record { a = at_rest (left_by leave halves.a); b = at_rest (left_by leave halves.b) }

-- a read of one of them gives bytes
abbrev pub HasBytes : Halves → Type 0
HasBytes halves = 0 < length halves.a.content + length halves.b.content
