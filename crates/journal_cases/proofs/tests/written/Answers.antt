use Rattle.vote_journal.proofs.Starts.{empty_sound}
use Rattle.journal_cases.proofs.tests.written.Goals as goal

pub loop-done-init : goal.loop-done-init
loop-done-init c = c.in-Ok.ensures.usable (empty_sound _ c.requires.nothing)
