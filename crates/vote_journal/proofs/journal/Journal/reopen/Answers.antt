use Rattle.std.proofs.Common.{◌∙◌, ap, length, arith, List, ℕ, Err}
use Rattle.std.specs.List.{concat}
use Rattle.vote_journal.specs.Text.{blocks}
use Rattle.vote_journal.specs.declared.fault.JournalFault.{JournalFault}
use Rattle.vote_journal.proofs.Moments.{same_fault}
use Rattle.vote_journal.proofs.Arranges.{opens, arranged_text, live_text}
use Rattle.vote_journal.proofs.Foreign.{sound_ours}
use Rattle.vote_journal.proofs.journal.Journal.reopen.Goals as goal

pub returns-in-Ok-clause-same : goal.returns-in-Ok-clause-same
returns-in-Ok-clause-same g c = λ sound.
    (opens c.in-Ok.opened.live (g.D.Disk.seen c.args.self.now.disk) (g.D.Disk.seen c.open.new.disk) c.in-Ok.ensures.live (c.in-Ok.ensures.arranged sound)).same

pub returns-in-Ok-clause-text : goal.returns-in-Ok-clause-text
returns-in-Ok-clause-text g c = λ sound. arranged_text (g.D.Disk.seen c.args.self.now.disk) (g.D.Disk.seen c.open.new.disk) sound (c.in-Ok.ensures.arranged sound)

pub returns-in-Ok-clause-read : goal.returns-in-Ok-clause-read
returns-in-Ok-clause-read g c = λ sound. ap concat c.in-Ok.ensures.entries ∙ live_text (g.D.Disk.seen c.args.self.now.disk) sound

pub returns-in-Ok-clause-usable : goal.returns-in-Ok-clause-usable
returns-in-Ok-clause-usable g c = λ sound.
    let o = opens c.in-Ok.opened.live (g.D.Disk.seen c.args.self.now.disk) (g.D.Disk.seen c.open.new.disk) c.in-Ok.ensures.live (c.in-Ok.ensures.arranged sound) in
    let e = c.in-Ok.ensures in
    record {
      live = o.live;
      spare = o.spare;
      durable = c.in-Ok.ensures.durable;
      gate = omega (arith, e.gate, ap (λ (es : List (List ℕ)). length (blocks es)) o.same);
      small = e.small;
      count = omega (arith, c.min.ensures, c.len.ensures, ap length c.in-Ok.ensures.entries, ap length o.same);
      bytes = omega (arith, e.bytes, ap (λ (es : List (List ℕ)). length (concat es)) o.same);
    }

pub returns-in-Err-clause-no_foreign : goal.returns-in-Err-clause-no_foreign
returns-in-Err-clause-no_foreign g c = λ sound is. absurd (cc (c.in-Err.ensures.foreign is, sound_ours (g.D.Disk.seen c.args.self.now.disk) sound))

pub returns-in-Ok-clause-cut : goal.returns-in-Ok-clause-cut
returns-in-Ok-clause-cut g c = λ sound.
    (opens c.in-Ok.opened.live (g.D.Disk.seen c.args.self.now.disk) (g.D.Disk.seen c.open.new.disk) c.in-Ok.ensures.live (c.in-Ok.ensures.arranged sound)).cut

pub returns-in-Err-clause-unfailed : goal.returns-in-Err-clause-unfailed
returns-in-Err-clause-unfailed g c = λ well. c.in-Err.ensures.unfailed (λ failed. well (ap (λ (f : JournalFault). Err f) (same_fault failed)))
