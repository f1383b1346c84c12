-- A disk's fault as the journal tells it.
use Rattle.disk_model.specs.declared.disk.DiskFault.{DiskFault}
use Rattle.disk_model.specs.declared.disk.DiskFault.TheVariants.{Failed as DiskFailed, Memory as DiskMemory}
use Rattle.vote_journal.specs.declared.fault.JournalFault.{JournalFault}
use Rattle.vote_journal.specs.declared.fault.JournalFault.TheVariants.{Failed, Memory}

abbrev pub journal_fault : DiskFault → JournalFault
journal_fault DiskFailed = Failed
journal_fault DiskMemory = Memory
