-- The faults of a disk.
use Rattle.std.specs.Prelude.{Bool, true, false}
use Rattle.disk_model.specs.declared.disk.DiskFault.{DiskFault}
use Rattle.disk_model.specs.declared.disk.DiskFault.TheVariants.{Failed, Memory}

-- the disk itself has failed; want of memory is no fault of it
abbrev pub is_failed : DiskFault → Bool
is_failed Failed = true
is_failed Memory = false
