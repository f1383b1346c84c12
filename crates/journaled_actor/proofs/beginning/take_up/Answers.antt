use Rattle.std.proofs.Common.{◌+◌, List, [], refl, sym, ap, ◌∙◌, subst, arith}
use Rattle.std.proofs.lemmas.Result.{err_from_is_err_and}
use Rattle.hb_wire.specs.declared.vote.Vote.{Vote}
use Rattle.vote_journal.specs.Text.{text_of}
use Rattle.vote_journal.specs.Usable.{disk_of}
use Rattle.journaled_actor.specs.Kept.{IsAll, Covers}
use Rattle.journaled_actor.specs.Payload.{payload, AreWritten}
use Rattle.journaled_actor.proofs.Counts.{few_again, cast_again, cast_no_vote}
use Rattle.journaled_actor.proofs.Going.{is_still, seat_still, seat_then, disk_then, disk_done, disk_again, other_still}
use Rattle.journaled_actor.proofs.Left.{always_ok, safe_covered, few_more}
use Rattle.journaled_actor.proofs.Payloads.{no_votes}
use Rattle.hb_rules.proofs.Turns.{turn_begins, votes_longer}
use Rattle.journaled_actor.proofs.beginning.take_up.Goals as goal

pub read_back-requires : goal.read_back-requires
read_back-requires g c = record { safe = (g.B.Book.seen c.args.seat.now, c.requires.safe) }

pub returns-in_err-votes : goal.returns-in_err-votes
returns-in_err-votes g c =
    let t = g.C.Core.terms c.args.core.now in
    let posts = g.B.Book.seen c.args.seat.now in
    let p = err_from_is_err_and c.from_residual.result c.from_residual.ensures.1 in
    let did = c.in_err-votes.ensures in
    rw (p.1, p.2) (record {
      terms = refl;
      seat = seat_still g.met.B.Book.stays c.requires.seat (other_still did.other);
      safe = did.safe posts c.requires.safe;
      ready = tt;
      opened = tt;
      again = tt;
      few = λ most few. few_more t posts most few;
      nothing = λ none idle. record { not_full = other_still did.other; cast = refl };
      disk = disk_again did.disk;
      keeps_room = omega arith;
    })

pub post_all-requires : goal.post_all-requires
post_all-requires g c =
    let t = g.C.Core.terms c.args.core.now in
    let posts = g.B.Book.seen c.args.seat.now in
    let read = c.in_ok-votes.ensures in
    record {
      seat = c.requires.seat;
      is = c.requires.is;
      written = subst (AreWritten t.config) (sym c.deref.ensures.value) read.written;
      turn = ([], turn_begins t posts c.deref.result.now (subst (Covers t posts) (sym c.deref.ensures.value) (read.covers posts c.requires.safe)));
    }

pub returns-in_err-post_all : goal.returns-in_err-post_all
returns-in_err-post_all g c =
    let t = g.C.Core.terms c.args.core.now in
    let old = g.B.Book.seen c.args.seat.now in
    let new = g.B.Book.seen c.post_all.new.seat in
    let p = err_from_is_err_and c.from_residual-in_err-post_all.result c.from_residual-in_err-post_all.ensures.1 in
    let read = c.in_ok-votes.ensures in
    let did = c.in_err-post_all.ensures in
    let votes = c.deref.result.now in
    let covers : Covers t old votes = subst (Covers t old) (sym c.deref.ensures.value) (read.covers old c.requires.safe) in
    rw (p.1, p.2) (record {
      terms = refl;
      seat = did.seat;
      safe = safe_covered t new votes read.ready (read.text ∙ ap payload (sym c.deref.ensures.value)) (did.covers [] (turn_begins t old votes covers));
      ready = tt;
      opened = tt;
      again = tt;
      few = λ most few. few_again t old old new votes most covers.are did.cast few;
      nothing = λ none idle. absurd (cc (did.nothing (no_votes votes (sym (read.text ∙ ap payload (sym c.deref.ensures.value)) ∙ read.same ∙ none))));
      disk = disk_done read.disk did.other;
      keeps_room = omega arith;
    })

pub begin-requires : goal.begin-requires
begin-requires g c =
    let t = g.C.Core.terms c.args.core.now in
    let old = g.B.Book.seen c.args.seat.now in
    let new = g.B.Book.seen c.post_all.new.seat in
    let read = c.in_ok-votes.ensures in
    let did = c.in_ok-post_all.ensures in
    let votes = c.deref.result.now in
    let covers : Covers t old votes = subst (Covers t old) (sym c.deref.ensures.value) (read.covers old c.requires.safe) in
    let all : IsAll t new (text_of (g.D.Disk.seen (disk_of c.read_back.new.journal))) votes = record {
      says = read.text ∙ ap payload (sym c.deref.ensures.value);
      are = votes_longer t old new votes did.seat.longer covers.are;
      complete = did.all [] (turn_begins t old votes covers);
    } in
    record {
      seat = did.seat.stays;
      is = is_still c.requires.is did.seat.same;
      lawful = c.requires.lawful;
      ready = read.ready;
      all = subst (λ (xs : List Vote). IsAll t new (text_of (g.D.Disk.seen (disk_of c.read_back.new.journal))) xs)
          (c.deref.ensures.value ∙ sym c.deref-2.ensures.value) all;
    }

pub returns : goal.returns
returns g c =
    let t = g.C.Core.terms c.args.core.now in
    let old = g.B.Book.seen c.args.seat.now in
    let read = c.in_ok-votes.ensures in
    let did = c.in_ok-post_all.ensures in
    let begun = c.begin.ensures in
    let votes = c.deref.result.now in
    let covers : Covers t old votes = subst (Covers t old) (sym c.deref.ensures.value) (read.covers old c.requires.safe) in
    record {
      terms = begun.terms;
      seat = seat_then g.met.B.Book.goes_on did.seat begun.seat;
      safe = begun.safe;
      ready = begun.ready;
      opened = begun.opened;
      again = always_ok c.begin.result (record {
        each = λ vote stands.
            let more = cast_again t old (g.B.Book.seen c.post_all.new.seat) votes covers did.whole vote stands in
            begun.once vote (omega (arith, more)) ∙ more;
      });
      nothing = λ none idle.
          let no_vote = no_votes votes (sym (read.text ∙ ap payload (sym c.deref.ensures.value)) ∙ read.same ∙ none) in
          let rest = begun.nothing (c.deref-2.ensures.value ∙ sym c.deref.ensures.value ∙ no_vote) idle in
          record {
            not_full = rest.not_full;
            cast = rest.cast ∙ cast_no_vote t old (g.B.Book.seen c.post_all.new.seat) votes no_vote did.cast;
          };
      few = λ most few. begun.few (most + 1) (omega arith) (few_again t old old (g.B.Book.seen c.post_all.new.seat) votes most covers.are did.cast few);
      disk = disk_then read.disk begun.disk;
      keeps_room = begun.keeps_room;
    }
