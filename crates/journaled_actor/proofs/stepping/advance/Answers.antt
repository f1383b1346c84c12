use Rattle.std.proofs.Common.{◌≡◌, ℕ, List, [], ◌∷◌, ◌++◌, inl, inr, length, refl, sym, ap, ◌∙◌, subst, arith, length-append}
use Rattle.std.proofs.lemmas.Result.{err_from_is_err_and, on_ok_weaker}
use Rattle.hb_wire.specs.declared.vote.Vote.{Vote}
use Rattle.hb_base.specs.Numbers.{Numbers}
use Rattle.vote_journal.specs.Text.{text_of}
use Rattle.vote_journal.specs.Usable.{disk_of}
use Rattle.hb_rules.specs.Book.{Watched}
use Rattle.hb_rules.specs.Terms.{Terms, heard_got}
use Rattle.journaled_actor.specs.Going.{SeatGoes}
use Rattle.journaled_actor.specs.Kept.{IsOf, IsSafe, CastSome, heard_with}
use Rattle.journaled_actor.proofs.Counts.{few_new, cast_no_vote}
use Rattle.journaled_actor.proofs.Going.{is_still, seat_watched, seat_later, disk_still, ok_no_error}
use Rattle.journaled_actor.proofs.Heard.{got_longer, seen_more}
use Rattle.journaled_actor.proofs.Left.{always_ok, safe_all, few_watched, steps, heard_now, open_step}
use Rattle.journaled_actor.proofs.Owing.{all_watched, owed_by_cast}
use Rattle.journaled_actor.proofs.Posted.{at_terms, watched_prefix, watched_cast}
use Rattle.journaled_actor.proofs.stepping.advance.Goals as goal

pub receive-requires : goal.receive-requires
receive-requires g c = record {
  seat = c.requires.seat;
  is = c.requires.is;
  post = c.requires.post;
  stands = (c.requires.opened.votes, _, c.requires.opened.holds);
}

pub returns-in_err-receive : goal.returns-in_err-receive
returns-in_err-receive g c =
    let b = g.B.Book in
    let t = g.C.Core.terms c.args.core.now in
    let s = c.args.seat.now in
    let old = b.seen s in
    let new = b.seen c.receive.new.seat in
    let p = err_from_is_err_and c.from_residual.result c.from_residual.ensures.1 in
    let did = c.in_err-receive.ensures in
    let prefix = watched_prefix (b.config s) (b.node s) (b.actor s) old new did.watched in
    let same = watched_cast t old new (at_terms t (b.config s) (b.node s) (b.actor s) c.requires.is (λ (d : Numbers) (i x : ℕ). Watched d i x old new) did.watched) in
    rw (p.1, p.2) (record {
      terms = did.terms;
      seat = seat_watched c.requires.is did.seat did.same did.moved did.watched (λ h. cc (h));
      safe = safe_all t new c.requires.opened.votes c.requires.ready
          (all_watched t old new (text_of (g.D.Disk.seen (disk_of c.args.journal.now))) c.requires.opened.votes prefix same c.requires.opened.all);
      ready = tt;
      opened = tt;
      got = tt;
      kept = inl did.unheard;
      unheard = λ _. (refl, refl, refl, same);
      owed = λ _. (refl, refl, same);
      few = λ most one few. few_watched t old new most same few;
      disk = disk_still (λ h. cc (h));
      keeps_room = omega (arith, c.clear.ensures.keeps_room, did.keeps_room);
    })

pub cast-requires : goal.cast-requires
cast-requires g c =
    let b = g.B.Book in
    let t = g.C.Core.terms c.args.core.now in
    let u = g.C.Core.terms c.receive.new.core in
    let s = c.args.seat.now in
    let r = c.receive.new.seat in
    let old = b.seen s in
    let mid = b.seen r in
    let got = c.args.got.now.items in
    let text = text_of (g.D.Disk.seen (disk_of c.args.journal.now)) in
    let did = c.in_ok-receive.ensures in
    let here = c.requires.opened in
    let votes = here.votes in
    let due = c.votes.result.now in
    let hears = did.owed.2 votes (heard_got t old got) here.holds here.idle in
    let prefix = watched_prefix (b.config s) (b.node s) (b.actor s) old mid did.watched in
    let same = watched_cast t old mid
    (at_terms t (b.config s) (b.node s) (b.actor s) c.requires.is (λ (d : Numbers) (i x : ℕ). Watched d i x old mid) did.watched) in
    let all = all_watched t old mid text votes prefix same here.all in
    let heard = heard_with t (heard_got t old got) did.owed.0 in
    let heard_is = heard_now t old mid got c.args.k did.owed.0 prefix c.requires.got did.owed.1 in
    let due_is : due ≡ t.owed votes heard =
    c.votes.ensures ∙ hears.due ∙ ap (λ (xs : List Vote). xs ++ t.owed votes heard) c.clear.ensures.votes in
    let may = steps t u mid text (got ++ c.args.k ∷ []) votes due heard did.terms c.requires.lawful heard_is all due_is in
    record {
      seat = did.seat;
      is = subst (λ (v : Terms). IsOf v (b.config r) (b.node r) (b.actor r)) (sym did.terms) (is_still c.requires.is did.same);
      ready = c.requires.ready;
      opened = (votes, may.0, may.1);
    }

pub returns : goal.returns
returns g c =
    let b = g.B.Book in
    let t = g.C.Core.terms c.args.core.now in
    let u = g.C.Core.terms c.receive.new.core in
    let s = c.args.seat.now in
    let r = c.receive.new.seat in
    let old = b.seen s in
    let mid = b.seen r in
    let got = c.args.got.now.items in
    let text = text_of (g.D.Disk.seen (disk_of c.args.journal.now)) in
    let did = c.in_ok-receive.ensures in
    let here = c.requires.opened in
    let votes = here.votes in
    let due = c.votes.result.now in
    let hears = did.owed.2 votes (heard_got t old got) here.holds here.idle in
    let prefix = watched_prefix (b.config s) (b.node s) (b.actor s) old mid did.watched in
    let same = watched_cast t old mid
    (at_terms t (b.config s) (b.node s) (b.actor s) c.requires.is (λ (d : Numbers) (i x : ℕ). Watched d i x old mid) did.watched) in
    let all = all_watched t old mid text votes prefix same here.all in
    let heard = heard_with t (heard_got t old got) did.owed.0 in
    let heard_is = heard_now t old mid got c.args.k did.owed.0 prefix c.requires.got did.owed.1 in
    let due_is : due ≡ t.owed votes heard =
    c.votes.ensures ∙ hears.due ∙ ap (λ (xs : List Vote). xs ++ t.owed votes heard) c.clear.ensures.votes in
    let may = steps t u mid text (got ++ c.args.k ∷ []) votes due heard did.terms c.requires.lawful heard_is all due_is in
    let new = b.seen c.cast.new.seat in
    let now = text_of (g.D.Disk.seen (disk_of c.cast.new.journal)) in
    let cast = c.cast.ensures in
    record {
      terms = did.terms;
      seat = seat_later g.met.B.Book.goes_on c.requires.is did.seat did.same did.moved did.watched
          (subst (λ (v : Terms). SeatGoes b.config b.node b.actor b.seen b.knows b.moved v r c.cast.new.seat c.receive.new.book c.cast.new.book
          c.args.out.now c.cast.new.out c.cast.result) did.terms cast.seat);
      safe = subst (λ (v : Terms). IsSafe v new (g.D.Disk.may_leave (disk_of c.cast.new.journal))) did.terms cast.safe;
      ready = cast.ready;
      opened = on_ok_weaker c.cast.result (λ whole. open_step t u old mid new now (g.C.Core.stands c.receive.new.core) got c.args.k votes due heard did.terms
          c.requires.lawful prefix cast.seat.longer c.requires.got c.requires.post heard_is due_is hears.holds (whole votes may.0 may.1)) cast.all;
      got = always_ok c.cast.result did.got;
      kept = inr did.got;
      unheard = λ none. absurd (omega (arith, ap length (sym did.got ∙ none), length-append got (c.args.k ∷ [])));
      owed = λ idle.
          let no_due : due ≡ [] =
          due_is ∙ ap (t.owed votes) (heard_is ∙ got_longer t old mid (got ++ c.args.k ∷ []) prefix (seen_more t old got c.args.k c.requires.got c.requires.post))
          ∙ sym (owed_by_cast t old text votes (heard_got t old (got ++ c.args.k ∷ [])) c.requires.lawful here.all) ∙ idle in
          let none = cast.nothing no_due in (
            ok_no_error _ none.0,
            none.1,
            cast_no_vote t mid new due no_due (subst (λ (v : Terms). CastSome v mid new due) did.terms cast.cast) ∙ same,
          );
      few = λ most one few.
          let same_terms = steps t t mid text (got ++ c.args.k ∷ []) votes due heard refl c.requires.lawful heard_is all due_is in
          few_new t mid new text votes due most all same_terms.1 (subst (λ (v : Terms). CastSome v mid new due) did.terms cast.cast) one
          (few_watched t old mid most same few);
      disk = cast.disk;
      keeps_room = omega (arith, c.clear.ensures.keeps_room, did.keeps_room);
    }
