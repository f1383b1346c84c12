use Rattle.std.proofs.Common.{length, arith}
use Rattle.liar_cell.proofs.Speaking.{longer, GoesOn-then, IsQuiet-then, TakesNothing-of, TakesNothing-then, PutsOwn-none, PutsOwn-more, PutsOwn-later, taker_after}
use Rattle.liar_cell.proofs.held.HeldLiar.send.Goals as goal

pub loop-k-init : goal.loop-k-init
loop-k-init g c =
    let o = c.args.self.now in
    let m = c.count-end.new.self in
    record {
      goes = c.count-end.ensures.goes;
      quiet = c.count-end.ensures.quiet;
      nothing = TakesNothing-of o m c.count-end.ensures.rest;
      within = omega (arith, c.count-end.ensures.count);
      so_far = omega (arith, c.requires, c.count-end.ensures.count, longer o.seat.seen m.seat.seen c.count-end.ensures.goes.seen);
      told = PutsOwn-none c.args.first o m c.count-end.ensures.rest.0;
    }

pub loop-k-preserved : goal.loop-k-preserved
loop-k-preserved g c =
    let b = g.B.Book in
    let o = c.args.self.now in
    let m = c.loop-k.self in
    let q = c.send_one.new.self in
    let was = c.loop-k.invariant in
    let goes = c.send_one.ensures.goes in
    record {
      goes = GoesOn-then b.moved g.met.B.Book.goes_on o m q was.goes goes;
      quiet = IsQuiet-then o m q was.quiet c.send_one.ensures.quiet;
      nothing = TakesNothing-then o m q was.nothing (record { taker = taker_after c.loop-k.k m q c.send_one.ensures.sent; back = c.send_one.ensures.back });
      within = omega (arith, was.within, longer m.seat.seen q.seat.seen goes.seen);
      so_far = omega (arith, c.loop-k-test.true);
      told = PutsOwn-more c.args.first c.loop-k.k o m q goes.script goes.same.1 goes.seen was.nothing.taker was.told c.send_one.ensures.sent;
    }

pub returns-clause-goes : goal.returns-clause-goes
returns-clause-goes g c = c.loop-k.invariant.goes

pub returns-clause-quiet : goal.returns-clause-quiet
returns-clause-quiet g c = c.loop-k.invariant.quiet

pub returns-clause-nothing : goal.returns-clause-nothing
returns-clause-nothing g c = c.loop-k.invariant.nothing

pub returns-clause-told : goal.returns-clause-told
returns-clause-told g c =
    let was = c.loop-k.invariant in
    PutsOwn-later c.args.first c.loop-k.k (length c.loop-k.self.seat.seen) c.args.self.now c.loop-k.self (omega (arith, was.within, was.so_far)) was.told
