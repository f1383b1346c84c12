use Rattle.std.proofs.Common.{[], ◌∷◌, ◌++◌, true, false, subst}
use Rattle.liar_cell.specs.HeldLiar.{LiarView}
use Rattle.liar_cell.specs.LiarTurns.{GoesOn, ServesBack, ServesNew}
use Rattle.liar_cell.proofs.Speaking.{longer, GoesOn-refl, GoesOn-then}
use Rattle.liar_cell.proofs.LiarTurnings.{with_mail, GoesOn-mail, HoldsBack-start, HoldsBack-on, TakesOne-new, Turned-back}
use Rattle.liar_cell.proofs.held.HeldLiar.turn.Goals as goal

pub loop-init : goal.loop-init
loop-init g c =
    let o = c.args.self.now in
    record { goes = GoesOn-refl g.B.Book.moved g.met.B.Book.stays o; held = ([], HoldsBack-start o) }

pub returns-in-None-take-clause-goes : goal.returns-in-None-take-clause-goes
returns-in-None-take-clause-goes g c =
    let b = g.B.Book in
    let m = c.loop.self in
    let mail = c.take.new.self.mail in
    let q = c.serve_back.new.self in
    let goes : GoesOn b.moved (with_mail m mail) q = subst (λ (v : LiarView _). GoesOn b.moved v q) c.take.ensures.rest c.serve_back.ensures.goes in
    GoesOn-then b.moved g.met.B.Book.goes_on c.args.self.now m q c.loop.invariant.goes (GoesOn-mail b.moved m q mail goes)

pub returns-in-None-take-clause-turned : goal.returns-in-None-take-clause-turned
returns-in-None-take-clause-turned g c =
    let b = g.B.Book in
    let o = c.args.self.now in
    let m = c.loop.self in
    let mail = c.take.new.self.mail in
    let q = c.serve_back.new.self in
    let r = c.serve_back.result in
    let was = c.loop.invariant in
    let goes : GoesOn b.moved (with_mail m mail) q = subst (λ (v : LiarView _). GoesOn b.moved v q) c.take.ensures.rest c.serve_back.ensures.goes in
    let served : ServesBack r (with_mail m mail) q = subst (λ (v : LiarView _). ServesBack r v q) c.take.ensures.rest c.serve_back.ensures.served in
    Turned-back b.moved r was.held.0 o m q mail was.held.1 (longer o.seat.seen m.seat.seen was.goes.seen)
    (record { mail = c.in-None-take.ensures.taken; asked = c.take.ensures.asked }) (c.in-None-take.ensures.empty, c.in-None-take.ensures.own)
    c.in-None-take.ensures.looked goes served

pub returns-then-serve_new-clause-goes : goal.returns-then-serve_new-clause-goes
returns-then-serve_new-clause-goes g c =
    let b = g.B.Book in
    let m = c.loop.self in
    let mail = c.take.new.self.mail in
    let q = c.serve_new.new.self in
    let goes : GoesOn b.moved (with_mail m mail) q = subst (λ (v : LiarView _). GoesOn b.moved v q) c.take.ensures.rest c.serve_new.ensures.goes in
    GoesOn-then b.moved g.met.B.Book.goes_on c.args.self.now m q c.loop.invariant.goes (GoesOn-mail b.moved m q mail goes)

pub returns-then-serve_new-clause-turned : goal.returns-then-serve_new-clause-turned
returns-then-serve_new-clause-turned g c =
    let b = g.B.Book in
    let o = c.args.self.now in
    let m = c.loop.self in
    let mail = c.take.new.self.mail in
    let q = c.serve_new.new.self in
    let k = c.in-Some-take.k in
    let was = c.loop.invariant in
    let goes : GoesOn b.moved (with_mail m mail) q = subst (λ (v : LiarView _). GoesOn b.moved v q) c.take.ensures.rest c.serve_new.ensures.goes in
    let served : ServesNew k true (with_mail m mail) q =
    subst (λ (v : LiarView _). ServesNew k true v q) c.take.ensures.rest (subst (λ r. ServesNew k r c.take.new.self q) c.if-serve_new.true c.serve_new.ensures.served) in
    TakesOne-new b.moved was.held.0 k o m q mail was.held.1 (longer o.seat.seen m.seat.seen was.goes.seen)
    (record { mail = c.in-Some-take.ensures.taken; asked = c.take.ensures.asked }) goes served

pub loop-preserved : goal.loop-preserved
loop-preserved g c =
    let b = g.B.Book in
    let o = c.args.self.now in
    let m = c.loop.self in
    let mail = c.take.new.self.mail in
    let q = c.serve_new.new.self in
    let k = c.in-Some-take.k in
    let was = c.loop.invariant in
    let goes : GoesOn b.moved (with_mail m mail) q = subst (λ (v : LiarView _). GoesOn b.moved v q) c.take.ensures.rest c.serve_new.ensures.goes in
    let served : ServesNew k false (with_mail m mail) q =
    subst (λ (v : LiarView _). ServesNew k false v q) c.take.ensures.rest (subst (λ r. ServesNew k r c.take.new.self q) c.if-serve_new.false c.serve_new.ensures.served) in
    record {
      goes = GoesOn-then b.moved g.met.B.Book.goes_on o m q was.goes (GoesOn-mail b.moved m q mail goes);
      held = (was.held.0 ++ k ∷ [], HoldsBack-on b.moved was.held.0 k o m q mail was.held.1 (record { mail = c.in-Some-take.ensures.taken; asked = c.take.ensures.asked }) goes served);
    }
