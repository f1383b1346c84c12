use Rattle.std.proofs.Common.{◌≡◌, length, take}
use Rattle.coin_deal.specs.Heard.{points, values}
use Rattle.coin_share.specs.Shares.{added_of}
use Rattle.coin_share.proofs.secret.Given as goal

-- the points and the values of the shares before i
abbrev pub invariant-loop-i : goal.invariant-loop-i
invariant-loop-i l = record {
  points_are : take l.i l.points ≡ points (added_of (take l.i l.shares));
  values_are : take l.i l.values ≡ values (added_of (take l.i l.shares));
  room_for_points : length l.points ≡ 6;
  room_for_values : length l.values ≡ 6;
}
