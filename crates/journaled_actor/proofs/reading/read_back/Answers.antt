use Rattle.std.proofs.Common.{◌≡◌, List, length, ap, ◌∙◌, subst}
use Rattle.std.proofs.lemmas.Result.{err_from_is_err_and}
use Rattle.std.specs.List.{concat}
use Rattle.hb_base.specs.Numbers.{Numbers}
use Rattle.vote_journal.specs.Text.{text_of}
use Rattle.vote_journal.specs.Usable.{disk_of}
use Rattle.hb_wire.specs.declared.post.Post.{Post}
use Rattle.journaled_actor.specs.Kept.{Covers, IsSafe}
use Rattle.journaled_actor.specs.Payload.{payload, AreWritten}
use Rattle.journaled_actor.proofs.Going.{disk_failed, fault_not_full}
use Rattle.journaled_actor.proofs.Left.{reopened, votes_read}
use Rattle.journaled_actor.proofs.Safe.{few_same}
use Rattle.journaled_actor.proofs.reading.read_back.Goals as goal

pub returns-in-Err : goal.returns-in-Err
returns-in-Err g c =
    let d = g.D.Disk in
    let m = g.met.D.Disk in
    let t = g.C.Core.terms c.args.core.now in
    let old = disk_of c.args.journal.now in
    let new = disk_of c.reopen.new.self in
    let sound = (c.requires.safe.1 (d.seen old) (m.seen_may_stay old)).sound in
    let did = c.in-Err.ensures in
    let runs = did.pending sound in
    let safe : (posts : List Post) → IsSafe t posts (d.may_leave old) → IsSafe t posts (d.may_leave new) =
    λ posts before. reopened d.seen d.may_leave d.moment d.left_since m.counts_now m.seen_may_stay old new runs t posts before in
    rw c.fault_of.ensures (record {
      safe = safe;
      covers = tt;
      text = tt;
      same = tt;
      ready = tt;
      written = tt;
      disk = disk_failed runs.draws runs.faults_stay did.failed (did.no_foreign sound) did.unfailed;
      other = fault_not_full c.in-Err.fault;
    })

pub returns-in_err-text : goal.returns-in_err-text
returns-in_err-text g c =
    let d = g.D.Disk in
    let m = g.met.D.Disk in
    let t = g.C.Core.terms c.args.core.now in
    let old = disk_of c.args.journal.now in
    let new = disk_of c.reopen.new.self in
    let sound = (c.requires.safe.1 (d.seen old) (m.seen_may_stay old)).sound in
    let did = c.in-Ok.ensures in
    let runs = did.pending sound in
    let safe : (posts : List Post) → IsSafe t posts (d.may_leave old) → IsSafe t posts (d.may_leave new) =
    λ posts before. reopened d.seen d.may_leave d.moment d.left_since m.counts_now m.seen_may_stay old new runs t posts before in
    let p = err_from_is_err_and c.from_residual.result c.from_residual.ensures.1 in
    rw (p.1, p.2) (record {
      safe = safe;
      covers = tt;
      text = tt;
      same = tt;
      ready = tt;
      written = tt;
      disk = record { draws = runs.draws; no_fewer = runs.faults_stay; failed = λ h. absurd (cc (h)); unfailed = λ _. did.unfailed (λ h. absurd (cc (h))) };
      other = λ h. cc (h);
    })

pub returns-in_err-read_votes : goal.returns-in_err-read_votes
returns-in_err-read_votes g c =
    let d = g.D.Disk in
    let m = g.met.D.Disk in
    let t = g.C.Core.terms c.args.core.now in
    let old = disk_of c.args.journal.now in
    let new = disk_of c.reopen.new.self in
    let sound = (c.requires.safe.1 (d.seen old) (m.seen_may_stay old)).sound in
    let did = c.in-Ok.ensures in
    let runs = did.pending sound in
    let safe : (posts : List Post) → IsSafe t posts (d.may_leave old) → IsSafe t posts (d.may_leave new) =
    λ posts before. reopened d.seen d.may_leave d.moment d.left_since m.counts_now m.seen_may_stay old new runs t posts before in
    let p = err_from_is_err_and c.from_residual-in_err-read_votes.result c.from_residual-in_err-read_votes.ensures.1 in
    rw (p.1, p.2) (record {
      safe = safe;
      covers = tt;
      text = tt;
      same = tt;
      ready = tt;
      written = tt;
      disk = record { draws = runs.draws; no_fewer = runs.faults_stay; failed = λ h. absurd (cc (h)); unfailed = λ _. did.unfailed (λ h. absurd (cc (h))) };
      other = λ h. cc (h);
    })

pub returns : goal.returns
returns g c =
    let d = g.D.Disk in
    let m = g.met.D.Disk in
    let t = g.C.Core.terms c.args.core.now in
    let old = disk_of c.args.journal.now in
    let new = disk_of c.reopen.new.self in
    let sound = (c.requires.safe.1 (d.seen old) (m.seen_may_stay old)).sound in
    let did = c.in-Ok.ensures in
    let runs = did.pending sound in
    let safe : (posts : List Post) → IsSafe t posts (d.may_leave old) → IsSafe t posts (d.may_leave new) =
    λ posts before. reopened d.seen d.may_leave d.moment d.left_since m.counts_now m.seen_may_stay old new runs t posts before in
    let found = c.in_ok-read_votes.ensures in
    let text_is = c.deref-2.ensures.value ∙ c.in_ok-text.ensures ∙ ap concat c.deref.ensures.value ∙ did.read sound in
    let items = c.in_ok-read_votes.field-0.items in
    let read : (posts : List Post) → IsSafe t posts (d.may_leave old) → Covers t posts items × (text_of (d.seen old) ≡ payload items) =
    λ posts before. votes_read t posts (d.seen old) c.config.result c.deref-2.result.now items c.config.ensures text_is found.votes
    (before (d.seen old) (m.seen_may_stay old)) in
    record {
      safe = safe;
      covers = λ posts before. (read posts before).0;
      text = did.text sound ∙ (read c.requires.safe.0 c.requires.safe.1).1;
      same = did.text sound;
      ready = record {
        usable = did.usable sound;
        few = few_same _ _ _ _ (ap length (did.same sound)) (did.text sound) (c.requires.safe.1 (d.seen old) (m.seen_may_stay old)).few;
      };
      written = subst (λ (n : Numbers). AreWritten n c.in_ok-read_votes.field-0.items) c.config.ensures found.written;
      disk = record { draws = runs.draws; no_fewer = runs.faults_stay; failed = λ h. absurd (cc (h)); unfailed = λ _. did.unfailed (λ h. absurd (cc (h))) };
      other = λ h. cc (h);
    }
