use Rattle.std.proofs.Common.{arith}
use Rattle.vote_journal.specs.Usable.{disk_of, entries_in_journal}
use Rattle.journaled_actor.proofs.Crashes.{left_now}
use Rattle.journaled_actor.proofs.Going.{disk_failed, disk_still, fault_not_full}
use Rattle.journaled_actor.proofs.Left.{says_maybe, added_few}
use Rattle.journaled_actor.proofs.Safe.{usable_says, entries_say}
use Rattle.vote_journal.proofs.Moments.{done_unfailed}
use Rattle.journaled_actor.proofs.casting.keep.Goals as goal

pub record-requires : goal.record-requires
record-requires g c = record { usable = c.requires.ready.usable; short = omega arith }

pub returns-in-Ok : goal.returns-in-Ok
returns-in-Ok g c =
    let d = g.D.Disk in
    let did = c.in-Ok.ensures in
    record {
      ready = record {
        usable = did.usable;
        few = added_few (entries_in_journal d.seen c.args.journal.now) _ _ _ c.args.entry.payload (entries_say c.requires.ready.usable) c.requires.ready.few did.entries did.text;
      };
      entries = did.entries;
      text = did.text;
      images = λ image may. left_now d.may_leave d.moment d.left_since g.met.D.Disk.counts_now (disk_of c.args.journal.now) (disk_of c.record.new.journal) _ did.step.runs.moments image may;
      disk = record { draws = did.step.runs.draws; no_fewer = did.step.runs.faults_stay; failed = λ h. absurd (cc (h)); unfailed = λ _. done_unfailed did.step };
      other = λ h. cc (h);
    }

pub returns-in-Err : goal.returns-in-Err
returns-in-Err g c =
    let d = g.D.Disk in
    let did = c.in-Err.ensures in
    rw c.fault_of.ensures (record {
      ready = tt;
      entries = tt;
      text = tt;
      images = λ image may. left_now d.may_leave d.moment d.left_since g.met.D.Disk.counts_now (disk_of c.args.journal.now) (disk_of c.record.new.journal) _ did.step.runs.moments image may;
      disk = disk_failed did.step.runs.draws did.step.runs.faults_stay did.step.failed did.step.no_other did.step.unfailed;
      other = fault_not_full c.in-Err.fault;
    })

pub returns-then-len : goal.returns-then-len
returns-then-len g c =
    let d = g.D.Disk in
    let j = c.args.journal.now in
    record {
      ready = tt;
      entries = tt;
      text = tt;
      images = λ image may. says_maybe _ c.args.entry.payload _ _ image (omega arith) (usable_says d.seen d.may_leave j c.requires.ready.usable image may);
      disk = disk_still (λ h. cc (h));
      other = λ h. cc (h);
    }
