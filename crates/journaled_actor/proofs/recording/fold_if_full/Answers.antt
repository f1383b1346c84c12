use Rattle.std.proofs.Common.{refl, sym, ◌∙◌, arith}
use Rattle.std.proofs.lemmas.Result.{on_ok_weaker}
use Rattle.vote_journal.specs.Usable.{disk_of, entries_in_journal}
use Rattle.vote_journal.proofs.Moments.{stood, unfailed_same}
use Rattle.journaled_actor.proofs.Left.{full_is, folded_full, folded_not}
use Rattle.journaled_actor.proofs.Safe.{usable_says}
use Rattle.journaled_actor.proofs.recording.fold_if_full.Goals as goal

pub fold-requires : goal.fold-requires
fold-requires g c =
    let u = c.requires in
    let es = entries_in_journal g.D.Disk.seen c.args.journal.now in
    let full = full_is es (sym c.is_full.ensures ∙ c.if-is_full.true) in
    record { usable = u; some = omega (arith, u.count, full.0); small = omega (arith, u.bytes, full.1) }

pub returns-then-is_full : goal.returns-then-is_full
returns-then-is_full g c =
    let did = c.fold.ensures in
    record {
      usable = did.usable;
      entries = on_ok_weaker c.fold.result (λ one. one ∙ sym (folded_full (entries_in_journal g.D.Disk.seen c.args.journal.now) (sym c.is_full.ensures ∙ c.if-is_full.true))) did.one;
      text = did.text;
      step = did.step;
    }

pub returns-else-is_full : goal.returns-else-is_full
returns-else-is_full g c =
    let j = c.args.journal.now in
    let d = g.D.Disk in
    record {
      usable = c.requires;
      entries = sym (folded_not (entries_in_journal g.D.Disk.seen c.args.journal.now) (sym c.is_full.ensures ∙ c.if-is_full.false));
      text = refl;
      step = record {
        durable = c.requires.durable;
        runs = stood d.moment d.left_since d.faults d.supply (disk_of j) _
            (λ image since. usable_says d.seen d.may_leave j c.requires image (g.met.D.Disk.only_now (disk_of j) image since));
        failed = tt;
        no_other = tt;
        unfailed = λ _. unfailed_same d.faults d.supply (disk_of j);
      };
    }
