use Rattle.std.proofs.Common.{◌≡◌, List, [], ◌++◌, refl, sym, ap, ◌∙◌, subst, arith}
use Rattle.std.proofs.lemmas.Result.{err_from_is_err_and, on_ok_weaker}
use Rattle.vote_journal.specs.Text.{text_of}
use Rattle.vote_journal.specs.Usable.{disk_of}
use Rattle.hb_wire.specs.declared.vote.Vote.{Vote}
use Rattle.hb_rules.specs.Terms.{Terms}
use Rattle.journaled_actor.specs.Going.{SeatGoes}
use Rattle.journaled_actor.specs.Kept.{IsOf, IsSafe, CastSome}
use Rattle.journaled_actor.proofs.Counts.{few_new, once_cast, cast_no_vote}
use Rattle.journaled_actor.proofs.Going.{seat_still, disk_still, ok_not_full}
use Rattle.journaled_actor.proofs.Left.{safe_all, begins, open_cast}
use Rattle.journaled_actor.proofs.beginning.begin.Goals as goal

pub rebuild-requires : goal.rebuild-requires
rebuild-requires g c = record { own = (g.B.Book.seen c.args.seat.now, c.requires.all.are) }

pub returns-in_err-rebuild : goal.returns-in_err-rebuild
returns-in_err-rebuild g c =
    let t = g.C.Core.terms c.args.core.now in
    let posts = g.B.Book.seen c.args.seat.now in
    let p = err_from_is_err_and c.from_residual.result c.from_residual.ensures.1 in
    rw (p.1, p.2) (record {
      terms = c.in_err-rebuild.ensures.terms;
      seat = seat_still g.met.B.Book.stays c.requires.seat (λ h. cc (h));
      safe = safe_all t posts c.args.votes.now c.requires.ready c.requires.all;
      ready = tt;
      opened = tt;
      once = λ vote stands. refl;
      few = λ most one few. few;
      nothing = λ none idle. record { not_full = λ h. cc (h); cast = refl };
      disk = disk_still (λ h. cc (h));
      keeps_room = omega (arith, c.clear.ensures.keeps_room, c.in_err-rebuild.ensures.keeps_room);
    })

pub cast-requires : goal.cast-requires
cast-requires g c =
    let b = g.B.Book in
    let t = g.C.Core.terms c.args.core.now in
    let u = g.C.Core.terms c.rebuild.new.self in
    let made = c.in_ok-rebuild.ensures in
    let may = begins t u (b.seen c.args.seat.now) (text_of (g.D.Disk.seen (disk_of c.args.journal.now))) c.args.votes.now c.votes.result.now made.terms
    c.requires.lawful c.requires.all (c.votes.ensures ∙ made.owed ∙ ap (λ (xs : List Vote). xs ++ t.owed c.args.votes.now []) c.clear.ensures.votes) in
    record {
      seat = c.requires.seat;
      is = subst (λ (v : Terms). IsOf v (b.config c.args.seat.now) (b.node c.args.seat.now) (b.actor c.args.seat.now)) (sym made.terms) c.requires.is;
      ready = c.requires.ready;
      opened = (c.args.votes.now, may.0, may.1);
    }

pub returns : goal.returns
returns g c =
    let b = g.B.Book in
    let d = g.D.Disk in
    let t = g.C.Core.terms c.args.core.now in
    let u = g.C.Core.terms c.rebuild.new.self in
    let made = c.in_ok-rebuild.ensures in
    let did = c.cast.ensures in
    let old = b.seen c.args.seat.now in
    let new = b.seen c.cast.new.seat in
    let votes = c.args.votes.now in
    let due = c.votes.result.now in
    let text = text_of (d.seen (disk_of c.args.journal.now)) in
    let due_is : due ≡ t.owed votes [] = c.votes.ensures ∙ made.owed ∙ ap (λ (xs : List Vote). xs ++ t.owed votes []) c.clear.ensures.votes in
    let may = begins t u old text votes due made.terms c.requires.lawful c.requires.all due_is in
    record {
      terms = made.terms;
      seat = subst (λ (v : Terms). SeatGoes b.config b.node b.actor b.seen b.knows b.moved v c.args.seat.now c.cast.new.seat c.args.book.now c.cast.new.book
          c.args.out.now c.cast.new.out c.cast.result) made.terms did.seat;
      safe = subst (λ (v : Terms). IsSafe v new (d.may_leave (disk_of c.cast.new.journal))) made.terms did.safe;
      ready = did.ready;
      opened = on_ok_weaker c.cast.result (λ all. open_cast t u new (text_of (d.seen (disk_of c.cast.new.journal))) (g.C.Core.stands c.rebuild.new.self) votes due []
          made.terms c.requires.lawful due_is made.stands (all votes may.0 may.1)) did.all;
      once =
          let may_t = begins t t old text votes due refl c.requires.lawful c.requires.all due_is in
          once_cast t old new text votes due c.requires.all may_t.1 (subst (λ (v : Terms). CastSome v old new due) made.terms did.cast);
      few = λ most one few.
          let may_t = begins t t old text votes due refl c.requires.lawful c.requires.all due_is in
          few_new t old new text votes due most c.requires.all may_t.1 (subst (λ (v : Terms). CastSome v old new due) made.terms did.cast) one few;
      nothing = λ none idle.
          let no_due : due ≡ [] = due_is ∙ ap (λ (xs : List Vote). t.owed xs []) none ∙ idle in
          record {
            not_full = ok_not_full (did.nothing no_due).0;
            cast = cast_no_vote t old new due no_due (subst (λ (v : Terms). CastSome v old new due) made.terms did.cast);
          };
      disk = did.disk;
      keeps_room = omega (arith, c.clear.ensures.keeps_room, made.keeps_room);
    }
