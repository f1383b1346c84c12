use Rattle.disk_model.specs.Halves.{HalvesMayLeave, content_of}
use Rattle.disk_model.specs.Memory.{MemoryState}
use Rattle.vote_journal.specs.Usable.{IsUsable}
use Rattle.journal_cases.proofs.tests.written.Given as goal

abbrev pub invariant-loop-done : goal.invariant-loop-done
invariant-loop-done l = IsUsable (λ (d : MemoryState). content_of d.halves) (λ (d : MemoryState). HalvesMayLeave d.halves) l.journal
