use Rattle.std.proofs.Common.{refl, ◌∙◌, ap, length, arith}
use Rattle.std.proofs.lemmas.Result.{err_from_is_err_and}
use Rattle.journaled_actor.proofs.Going.{is_still, moves_on}
use Rattle.journaled_actor.proofs.Posted.{posting_begins, posting_covers, posting_done}
use Rattle.journaled_actor.proofs.Nexts.{next_spelled, next_allowed, next_posted, next_failed, next_told, cast_some, cast_whole}
use Rattle.journaled_actor.proofs.posting.post_all.Goals as goal

pub loop-vote-init : goal.loop-vote-init
loop-vote-init g c = (
  c.requires.seat,
  (refl, refl, refl),
  g.met.B.Book.stays (g.B.Book.node c.args.seat.now) (g.B.Book.actor c.args.seat.now) c.args.book.now,
  posting_begins (g.C.Core.terms c.args.core.now) (g.B.Book.seen c.args.seat.now) c.args.votes.now c.args.out.now,
)

pub post_one-requires : goal.post_one-requires
post_one-requires g c =
    let here = c.loop-vote.invariant in
    let is = is_still c.requires.is here.1 in
    record {
      seat = here.0;
      spelled = next_spelled is c.requires.written c.loop-vote-test.true c.vote-item.is here.3 c.requires.turn.0 c.requires.turn.1;
      allowed = next_allowed is c.requires.written c.loop-vote-test.true c.vote-item.is here.3 c.requires.turn.0 c.requires.turn.1;
    }

pub loop-vote-preserved : goal.loop-vote-preserved
loop-vote-preserved g c =
    let here = c.loop-vote.invariant in
    let is = is_still c.requires.is here.1 in
    let did = c.in_ok-post_one.ensures in (
      did.seat,
      (did.same.0 ∙ here.1.0, did.same.1 ∙ here.1.1, did.same.2 ∙ here.1.2),
      moves_on g.B.Book.config g.B.Book.node g.B.Book.actor g.B.Book.moved g.met.B.Book.goes_on c.args.seat.now c.loop-vote.seat c.args.book.now c.loop-vote.book c.post_one.new.book here.1 here.2 did.moved,
      next_posted is c.requires.written c.loop-vote-test.true c.vote-item.is here.3 did.ok,
    )

pub returns-in_err-post_one : goal.returns-in_err-post_one
returns-in_err-post_one g c =
    let b = g.B.Book in
    let here = c.loop-vote.invariant in
    let is = is_still c.requires.is here.1 in
    let p = err_from_is_err_and c.from_residual.result c.from_residual.ensures.1 in
    let did = c.in_err-post_one.ensures in
    let came = next_failed is c.requires.written c.loop-vote-test.true c.vote-item.is here.3 did.err in
    rw (p.1, p.2) (record {
      seat = record {
        stays = did.seat;
        same = (did.same.0 ∙ here.1.0, did.same.1 ∙ here.1.1, did.same.2 ∙ here.1.2);
        book = moves_on b.config b.node b.actor b.moved g.met.B.Book.goes_on c.args.seat.now c.loop-vote.seat c.args.book.now c.loop-vote.book c.post_one.new.book here.1 here.2 did.moved;
        longer = came.is.prefix;
        told = next_told is c.requires.written c.loop-vote-test.true c.vote-item.is here.3 c.in_err-post_one.field-0.0 did.other did.full;
        full = λ full. (did.full full).2;
      };
      covers = λ done turn. posting_covers (g.C.Core.terms c.args.core.now) (b.seen c.args.seat.now) (b.seen c.post_one.new.seat) c.args.votes.now came.count c.args.out.now came.out came.is done turn;
      all = tt;
      cast = cast_some came.is;
      whole = tt;
      nothing = λ none. absurd (omega (arith, c.loop-vote-test.true, ap length none));
      other = did.other;
    })

pub returns : goal.returns
returns g c =
    let here = c.loop-vote.invariant in
    record {
      seat = record {
        stays = here.0;
        same = here.1;
        book = here.2;
        longer = here.3.prefix;
        told = λ _. here.3.told;
        full = λ h. absurd (cc (h));
      };
      covers = λ done turn. posting_covers (g.C.Core.terms c.args.core.now) (g.B.Book.seen c.args.seat.now) (g.B.Book.seen c.loop-vote.seat) c.args.votes.now c.loop-vote.vote-index c.args.out.now c.loop-vote.out here.3 done turn;
      all = λ done turn. posting_done (g.C.Core.terms c.args.core.now) (g.B.Book.seen c.args.seat.now) (g.B.Book.seen c.loop-vote.seat) c.args.votes.now c.loop-vote.vote-index c.args.out.now c.loop-vote.out (omega arith) here.3 done turn;
      cast = cast_some here.3;
      whole = cast_whole (omega arith) here.3;
      nothing = λ none. refl;
      other = λ h. absurd (cc (h));
    }
