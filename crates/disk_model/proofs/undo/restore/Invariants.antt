use Rattle.std.proofs.Common.{◌≡◌, length}
use Rattle.disk_model.specs.Undo.{put_back, AreWithin}
use Rattle.disk_model.proofs.undo.restore.Given as goal

-- what is left to be put back makes of the bytes so far what all makes of those at first
abbrev pub invariant-loop-range : goal.invariant-loop-range
invariant-loop-range l =
    let left = l.range-iterator.iter.rest.now in
    record {
      within : AreWithin (length l.bytes) left;
      so_far : put_back left l.bytes ≡ put_back l.saved l.fn.bytes;
    }
