use Rattle.std.proofs.Common.{◌≡◌}
use Rattle.serde_json.specs.View.{members_view}
use Rattle.script_reader.specs.Fields.{no_other}
use Rattle.script_reader.proofs.fields.no_other.Given as goal

-- the members that are left decide as all do
abbrev pub invariant-loop-key : goal.invariant-loop-key
invariant-loop-key l = no_other l.spot.list l.spot.index (members_view l.key-iterator) ≡ no_other l.spot.list l.spot.index (members_view l.members.entries)
