use Rattle.std.proofs.Common.{◌≡◌, ◌≤◌, ◌-◌, length, take}
use Rattle.disk_model.specs.Image.{half_of}
use Rattle.disk_model.specs.Disk.{Only}
use Rattle.vote_journal.specs.Runs.{Runs, IsUnfailed}
use Rattle.vote_journal.proofs.recover.read_half.Given as goal

abbrev pub invariant-loop-bytes : goal.invariant-loop-bytes
invariant-loop-bytes g l = record {
  seen : g.D.Disk.seen l.disk ≡ g.D.Disk.seen l.initial.disk;
  durable : Only (g.D.Disk.seen l.disk) (g.D.Disk.may_leave l.disk);
  runs : Runs g.D.Disk.moment g.D.Disk.left_since g.D.Disk.faults g.D.Disk.supply l.initial.disk l.disk (λ c. c ≡ g.D.Disk.seen l.initial.disk);
  unfailed : IsUnfailed g.D.Disk.faults g.D.Disk.supply l.initial.disk l.disk;
  front : l.bytes.items ≡ take (length l.bytes.items) (half_of l.half (g.D.Disk.seen l.initial.disk));
  within : length l.bytes.items ≤ length (half_of l.half (g.D.Disk.seen l.initial.disk));
}

abbrev pub decreases-loop-bytes : goal.decreases-loop-bytes
decreases-loop-bytes g l = length (half_of l.half (g.D.Disk.seen l.initial.disk)) - length l.bytes.items
