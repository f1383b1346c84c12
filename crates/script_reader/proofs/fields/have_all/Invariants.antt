use Rattle.std.proofs.Common.{◌≡◌, drop}
use Rattle.serde_json.specs.View.{view}
use Rattle.script_reader.specs.Fields.{have_all}
use Rattle.script_reader.proofs.fields.have_all.Given as goal

-- the keys that are left decide as all do
abbrev pub invariant-loop-key : goal.invariant-loop-key
invariant-loop-key l = have_all l.spot.list l.spot.index (drop l.key-index l.keys) (view l.value) ≡ have_all l.spot.list l.spot.index l.keys (view l.value)
