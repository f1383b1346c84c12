use Rattle.std.proofs.Common.{◌≡◌, [], drop}
use Rattle.std.specs.List.{All}
use Rattle.serde_json.specs.View.{items_view}
use Rattle.script_reader.specs.Entries.{entries_from}
use Rattle.script_reader.proofs.entries.read_entries.Given as goal

-- what is left, behind what was read, reads as all does
abbrev pub invariant-loop-value : goal.invariant-loop-value
invariant-loop-value g l = record {
  reads : entries_from (g.E.Entry.reads l.n) l.entries.items l.index (items_view (drop l.value-index l.values))
      ≡ entries_from (g.E.Entry.reads l.n) [] 0 (items_view l.values);
  sound : All (g.E.Entry.is_sound l.n) l.entries.items;
}
