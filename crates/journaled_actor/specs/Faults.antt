-- Why an actor ends.
use Rattle.vote_journal.specs.declared.fault.JournalFault.{JournalFault}
use Rattle.vote_journal.specs.declared.fault.JournalFault.TheVariants.{Failed, NotAJournal, Memory as JournalMemory}
use Rattle.hb_rules.specs.declared.actor.ActorFault.{ActorFault}
use Rattle.hb_rules.specs.declared.actor.ActorFault.TheVariants.{Journal, Memory}

-- by its journal's fault
abbrev pub actor_fault : JournalFault → ActorFault
actor_fault Failed = Journal
actor_fault NotAJournal = Journal
actor_fault JournalMemory = Memory
