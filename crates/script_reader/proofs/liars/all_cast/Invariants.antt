use Rattle.std.proofs.Common.{◌≡◌, [], take, drop}
use Rattle.script_reader.specs.Entries.{all_cast}
use Rattle.script_reader.proofs.liars.all_cast.Given as goal

-- the liars that are left, behind those before them, decide as all do
abbrev pub invariant-loop-i : goal.invariant-loop-i
invariant-loop-i l = all_cast l.cast (take l.i l.liars) (drop l.i l.liars) ≡ all_cast l.cast [] l.liars
