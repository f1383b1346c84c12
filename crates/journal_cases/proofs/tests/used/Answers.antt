use Rattle.std.proofs.Common.{List, [], ◌∷◌, refl, subst}
use Rattle.vote_journal.specs.Calls.{JournalCall, Recover, Append, Did}
use Rattle.vote_journal.proofs.Always.{always}
use Rattle.journal_cases.proofs.tests.used.Goals as goal

pub returns-in-Ok-recover : goal.returns-in-Ok-recover
returns-in-Ok-recover g c =
    let steps : List (JournalCall × g.row.D.Denot) =
    (Recover, c.in-Ok.journal.disk) ∷ (Append c.args.payload.now, c.append.new.self.disk) ∷ (Recover, c.in-Ok-recover.journal.disk) ∷ [] in
    let again = subst (λ (disk : g.row.D.Denot). Did g.D.Disk.seen g.D.Disk.may_leave g.D.Disk.moment g.D.Disk.left_since g.D.Disk.faults
    g.D.Disk.supply Recover disk c.in-Ok-recover.journal.disk) c.into_disk.ensures c.in-Ok-recover.ensures.pending in
    always g.D.Disk.seen g.D.Disk.may_leave g.D.Disk.moment g.D.Disk.left_since g.D.Disk.faults g.D.Disk.supply g.met.D.Disk.counts_now
    g.met.D.Disk.only_now g.met.D.Disk.seen_may_stay
    steps c.args.disk _ c.requires.empty (c.in-Ok.ensures.pending, (c.append.ensures.step.runs, (again, c.into_disk-in-Ok-recover.ensures)))

pub returns : goal.returns
returns g c =
    let steps : List (JournalCall × g.row.D.Denot) =
    (Recover, c.in-Ok.journal.disk) ∷ (Append c.args.payload.now, c.append.new.self.disk) ∷ (Recover, c.in-Err-recover.disk) ∷ [] in
    let again = subst (λ (disk : g.row.D.Denot). Did g.D.Disk.seen g.D.Disk.may_leave g.D.Disk.moment g.D.Disk.left_since g.D.Disk.faults
    g.D.Disk.supply Recover disk c.in-Err-recover.disk) c.into_disk.ensures c.in-Err-recover.ensures.pending in
    always g.D.Disk.seen g.D.Disk.may_leave g.D.Disk.moment g.D.Disk.left_since g.D.Disk.faults g.D.Disk.supply g.met.D.Disk.counts_now
    g.met.D.Disk.only_now g.met.D.Disk.seen_may_stay
    steps c.args.disk _ c.requires.empty (c.in-Ok.ensures.pending, (c.append.ensures.step.runs, (again, refl)))
