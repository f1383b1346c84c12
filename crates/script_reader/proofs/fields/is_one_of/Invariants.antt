use Rattle.std.proofs.Common.{◌≡◌, drop}
use Rattle.script_reader.specs.Fields.{is_one_of}
use Rattle.script_reader.proofs.fields.is_one_of.Given as goal

-- the keys that are left decide as all do
abbrev pub invariant-loop-key : goal.invariant-loop-key
invariant-loop-key l = is_one_of (drop l.key-index l.keys) l.text ≡ is_one_of l.keys l.text
