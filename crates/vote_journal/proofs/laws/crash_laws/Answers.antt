use Rattle.vote_journal.proofs.laws.crash_laws.Goals as goal

pub returns-clause-only : goal.returns-clause-only
returns-clause-only g c = λ old new text most left since may. since.each left (g.met.D.Disk.counts_now new (g.D.Disk.moment old) left since.later may)

pub returns-clause-maybe : goal.returns-clause-maybe
returns-clause-maybe g c = λ old new text payload most left since may.
    since.each left (g.met.D.Disk.counts_now new (g.D.Disk.moment old) left since.later may)
