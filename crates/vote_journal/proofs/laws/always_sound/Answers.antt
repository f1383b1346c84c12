use Rattle.vote_journal.proofs.Always.{always}
use Rattle.vote_journal.proofs.laws.always_sound.Goals as goal

pub returns : goal.returns
returns g c =
    always g.D.Disk.seen g.D.Disk.may_leave g.D.Disk.moment g.D.Disk.left_since g.D.Disk.faults g.D.Disk.supply g.met.D.Disk.counts_now
    g.met.D.Disk.only_now g.met.D.Disk.seen_may_stay
