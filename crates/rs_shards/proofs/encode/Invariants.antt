use Rattle.std.proofs.Common.{◌≡◌, map}
use Rattle.std.specs.List.{range_with_len}
use Rattle.rs_shards.specs.Completing.{piece_at}
use Rattle.rs_shards.proofs.encode.Given as goal

-- the pieces before i
abbrev pub invariant-loop-i : goal.invariant-loop-i
invariant-loop-i l = l.pieces.items ≡ map (piece_at l.width l.frame.items) (range_with_len 0 l.i)
