use Rattle.vote_journal.proofs.Starts.{empty_sound}
use Rattle.journal_cases.proofs.tests.new_journal.Goals as goal

pub returns-in-Ok : goal.returns-in-Ok
returns-in-Ok c = c.in-Ok.ensures.usable (empty_sound _ c.in_ok-disk.ensures.nothing)
