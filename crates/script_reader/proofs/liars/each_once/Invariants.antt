use Rattle.std.proofs.Common.{◌≡◌, [], take, drop}
use Rattle.script_reader.specs.Entries.{each_once}
use Rattle.script_reader.proofs.liars.each_once.Given as goal

-- the liars that are left, behind those before them, decide as all do
abbrev pub invariant-loop-i : goal.invariant-loop-i
invariant-loop-i l = each_once (take l.i l.liars) (drop l.i l.liars) ≡ each_once [] l.liars
