use Rattle.std.proofs.Common.{sym, subst}
use Rattle.vote_journal.specs.Runs.{IsUnfailed}
use Rattle.vote_journal.specs.Usable.{disk_of}
use Rattle.vote_journal.proofs.Moments.{same_fault}
use Rattle.vote_journal.proofs.journal.Journal.recover.Goals as goal

pub returns-in-Err-clause-unfailed : goal.returns-in-Err-clause-unfailed
returns-in-Err-clause-unfailed g c = λ other.
    subst (λ (new : g.row.D.Denot). IsUnfailed g.D.Disk.faults g.D.Disk.supply c.args.disk new) (sym c.into_disk.ensures)
    (subst (λ (old : g.row.D.Denot). IsUnfailed g.D.Disk.faults g.D.Disk.supply old (disk_of c.reopen.new.self)) c.shut-journal.ensures
    (c.in-Err.ensures.unfailed (λ failed. other (same_fault failed))))
