use Rattle.std.proofs.Common.{◌≡◌, ℕ, List, [], ◌∷◌, ◌++◌, refl, sym, ap, ◌∙◌, subst}
use Rattle.std.proofs.lemmas.Result.{err_from_is_err_and, on_ok_weaker}
use Rattle.vote_journal.specs.Text.{text_of}
use Rattle.vote_journal.specs.Usable.{disk_of, entries_in_journal}
use Rattle.hb_base.specs.Numbers.{Numbers}
use Rattle.hb_wire.specs.declared.vote.Vote.{Vote}
use Rattle.hb_rules.specs.Terms.{AreSpelled}
use Rattle.journaled_actor.specs.Folding.{folded_if_full}
use Rattle.journaled_actor.specs.Payload.{payload, AreWritten}
use Rattle.journaled_actor.proofs.Going.{seat_still, disk_still, disk_done}
use Rattle.journaled_actor.proofs.Left.{always_ok, ready_most, safe_covered, safe_all, spelled_due, cast_none, all_as_before, all_cast, nothing_in, something, entries_same, entries_more}
use Rattle.journaled_actor.proofs.Safe.{safe_maybe, payload_append}
use Rattle.hb_rules.proofs.Turns.{turn_after}
use Rattle.journaled_actor.proofs.casting.cast.Goals as goal

pub returns-then-is_empty : goal.returns-then-is_empty
returns-then-is_empty g c =
    let t = g.C.Core.terms c.args.core.now in
    let posts = g.B.Book.seen c.args.seat.now in
    record {
      seat = seat_still g.met.B.Book.stays c.requires.seat (λ h. cc (h));
      safe = safe_all t posts c.requires.opened.0 c.requires.ready c.requires.opened.1;
      ready = c.requires.ready;
      all = λ votes all are. all_as_before t posts (text_of (g.D.Disk.seen (disk_of c.args.journal.now))) votes c.args.due.now (nothing_in c.args.due.now (sym c.if-is_empty.ensures)) all;
      entries = sym (entries_same (entries_in_journal g.D.Disk.seen c.args.journal.now) c.args.due.now (nothing_in c.args.due.now (sym c.if-is_empty.ensures)));
      nothing = λ _. (refl, refl);
      cast = cast_none t posts c.args.due.now;
      disk = disk_still (λ h. cc (h));
    }

pub write_votes-requires : goal.write_votes-requires
write_votes-requires g c =
    let t = g.C.Core.terms c.args.core.now in
    subst (λ (d : Numbers). AreSpelled d c.args.due.now) (sym c.config.ensures)
    (spelled_due t (g.B.Book.seen c.args.seat.now) c.requires.opened.0 c.args.due.now c.requires.opened.2)

pub returns-in_err-entry : goal.returns-in_err-entry
returns-in_err-entry g c =
    let t = g.C.Core.terms c.args.core.now in
    let posts = g.B.Book.seen c.args.seat.now in
    let p = err_from_is_err_and c.from_residual.result c.from_residual.ensures.1 in
    rw (p.1, p.2) (record {
      seat = seat_still g.met.B.Book.stays c.requires.seat (λ h. cc (h));
      safe = safe_all t posts c.requires.opened.0 c.requires.ready c.requires.opened.1;
      ready = tt;
      all = tt;
      entries = tt;
      nothing = λ none. absurd (something c.args.due.now (sym c.if-is_empty.ensures) none);
      cast = cast_none t posts c.args.due.now;
      disk = disk_still (λ h. cc (h));
    })

pub returns-in_err-keep : goal.returns-in_err-keep
returns-in_err-keep g c =
    let t = g.C.Core.terms c.args.core.now in
    let posts = g.B.Book.seen c.args.seat.now in
    let p = err_from_is_err_and c.from_residual-in_err-keep.result c.from_residual-in_err-keep.ensures.1 in
    let did = c.in_err-keep.ensures in
    rw (p.1, p.2) (record {
      seat = seat_still g.met.B.Book.stays c.requires.seat did.other;
      safe = safe_maybe t posts (g.D.Disk.may_leave (disk_of c.keep.new.journal)) (text_of (g.D.Disk.seen (disk_of c.args.journal.now))) c.in_ok-entry.entry.payload
          _
          c.requires.opened.0 c.args.due.now c.requires.opened.1 c.requires.opened.2 c.in_ok-entry.ensures.text (ready_most c.requires.ready) did.images;
      ready = tt;
      all = tt;
      entries = tt;
      nothing = λ none. absurd (something c.args.due.now (sym c.if-is_empty.ensures) none);
      cast = cast_none t posts c.args.due.now;
      disk = did.disk;
    })

pub post_all-requires : goal.post_all-requires
post_all-requires g c =
    let t = g.C.Core.terms c.args.core.now in
    record {
      seat = c.requires.seat;
      is = c.requires.is;
      written = subst (λ (d : Numbers). AreWritten d c.args.due.now) c.config.ensures c.in_ok-entry.ensures.written;
      turn = (
        c.requires.opened.0,
        turn_after t (g.B.Book.seen c.args.seat.now) c.requires.opened.0 c.args.due.now c.requires.opened.2 c.requires.opened.1.complete,
      );
    }

pub returns : goal.returns
returns g c =
    let t = g.C.Core.terms c.args.core.now in
    let old = g.B.Book.seen c.args.seat.now in
    let new = g.B.Book.seen c.post_all.new.seat in
    let text = text_of (g.D.Disk.seen (disk_of c.args.journal.now)) in
    let now = text_of (g.D.Disk.seen (disk_of c.keep.new.journal)) in
    let due = c.args.due.now in
    let kept = c.in_ok-keep.ensures in
    let did = c.post_all.ensures in
    let says_of : (votes : List Vote) → text ≡ payload votes → now ≡ payload (votes ++ due) =
    λ votes is. kept.text ∙ ap (λ (xs : List ℕ). xs ++ c.in_ok-entry.entry.payload) is
    ∙ ap (λ (xs : List ℕ). payload votes ++ xs) c.in_ok-entry.ensures.text ∙ sym (payload_append votes due) in
    record {
      seat = did.seat;
      safe = safe_covered t new (c.requires.opened.0 ++ due) kept.ready (says_of c.requires.opened.0 c.requires.opened.1.says)
          (did.covers c.requires.opened.0 (turn_after t old c.requires.opened.0 due c.requires.opened.2 c.requires.opened.1.complete));
      ready = always_ok c.post_all.result kept.ready;
      all = on_ok_weaker c.post_all.result (λ complete votes all are.
          all_cast t old new text now votes due did.seat.longer all are (says_of votes all.says) complete) did.all;
      entries = always_ok c.post_all.result (kept.entries
          ∙ ap (λ (xs : List ℕ). folded_if_full (entries_in_journal g.D.Disk.seen c.args.journal.now) ++ xs ∷ []) c.in_ok-entry.ensures.text
          ∙ sym (entries_more (entries_in_journal g.D.Disk.seen c.args.journal.now) due (sym c.if-is_empty.ensures)));
      nothing = λ none. absurd (something due (sym c.if-is_empty.ensures) none);
      cast = did.cast;
      disk = disk_done kept.disk did.other;
    }
