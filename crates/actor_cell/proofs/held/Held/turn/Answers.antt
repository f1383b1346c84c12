use Rattle.std.proofs.Common.{◌≡◌, [], ◌∷◌, ◌++◌, false, refl, sym, ap, ◌∙◌, subst}
use Rattle.hb_rules.proofs.Reports.{running_of}
use Rattle.net_script.specs.declared.script.Script.{Script}
use Rattle.actor_cell.specs.Held.{HeldView, player_at}
use Rattle.actor_cell.specs.Turning.{turning, ServesBack, ServesNew}
use Rattle.actor_cell.proofs.Hearings.{moved_on}
use Rattle.actor_cell.proofs.Turnings.{HoldsBack-start, HoldsBack-on, Took, seat_taken, WasShown-later, Turned-back, Turned-new}
use Rattle.actor_cell.proofs.held.Held.turn.Goals as goal

pub loop-init : goal.loop-init
loop-init g c =
    let b = g.B.Book in
    let a = g.A.Actor in
    record {
      script = refl;
      moved = g.met.B.Book.stays (b.node (a.seat c.args.self.now.actor)) (b.actor (a.seat c.args.self.now.actor)) c.args.self.now.book;
      running = sym (ap (λ (v : HeldView _ _). v.fate) c.self.view_is) ∙ running_of c.self.inside.fate (sym c.is_running.ensures ∙ c.if-not-is_running.false);
      held = ([], HoldsBack-start c.args.self.now.script (turning b.config b.node b.actor b.seen a.seat a.view c.args.self.now));
    }

pub returns-in-None-take-clause-moved : goal.returns-in-None-take-clause-moved
returns-in-None-take-clause-moved g c =
    let b = g.B.Book in
    let a = g.A.Actor in
    let o = turning b.config b.node b.actor b.seen a.seat a.view c.args.self.now in
    let m = turning b.config b.node b.actor b.seen a.seat a.view c.loop.self in
    let m1 = turning b.config b.node b.actor b.seen a.seat a.view c.take.new.self in
    let took : Took m m1 [] = record {
      player = ap (λ (v : HeldView _ _). player_at b.config b.node b.actor b.seen a.seat a.view v.actor v.fate) c.take.ensures.rest;
      back = ap (λ (v : HeldView _ _). v.back) c.take.ensures.rest;
      mail = c.in-None-take.ensures.taken;
      asked = c.take.ensures.asked;
    } in
    let here : b.moved o.player.seat.node o.player.seat.actor c.args.self.now.book c.take.new.self.book = rw (ap (λ (v : HeldView _ _). v.book) c.take.ensures.rest) c.loop.invariant.moved in
    moved_on b.moved g.met.B.Book.goes_on c.args.self.now.book c.take.new.self.book c.serve_back.new.self.book o.player m1.player (seat_taken c.args.self.now.script c.loop.invariant.held.0 [] o m m1 c.loop.invariant.held.1 took) here c.serve_back.ensures.moved

pub returns-in-None-take-clause-whole : goal.returns-in-None-take-clause-whole
returns-in-None-take-clause-whole g c =
    let b = g.B.Book in
    let a = g.A.Actor in
    let o = turning b.config b.node b.actor b.seen a.seat a.view c.args.self.now in
    let m = turning b.config b.node b.actor b.seen a.seat a.view c.loop.self in
    let m1 = turning b.config b.node b.actor b.seen a.seat a.view c.take.new.self in
    let took : Took m m1 [] = record {
      player = ap (λ (v : HeldView _ _). player_at b.config b.node b.actor b.seen a.seat a.view v.actor v.fate) c.take.ensures.rest;
      back = ap (λ (v : HeldView _ _). v.back) c.take.ensures.rest;
      mail = c.in-None-take.ensures.taken;
      asked = c.take.ensures.asked;
    } in
    let here : b.moved o.player.seat.node o.player.seat.actor c.args.self.now.book c.take.new.self.book = rw (ap (λ (v : HeldView _ _). v.book) c.take.ensures.rest) c.loop.invariant.moved in
    λ did. WasShown-later b.is_whole b.moved b.seen g.met.B.Book.goes_on c.args.self.now.book c.take.new.self.book c.serve_back.new.self.book (a.seat c.serve_back.new.self.actor) o.player m1.player
    (seat_taken c.args.self.now.script c.loop.invariant.held.0 [] o m m1 c.loop.invariant.held.1 took) here (c.serve_back.ensures.whole did)

pub returns-in-None-take-clause-turned : goal.returns-in-None-take-clause-turned
returns-in-None-take-clause-turned g c =
    let b = g.B.Book in
    let a = g.A.Actor in
    let s = c.args.self.now.script in
    let o = turning b.config b.node b.actor b.seen a.seat a.view c.args.self.now in
    let m = turning b.config b.node b.actor b.seen a.seat a.view c.loop.self in
    let m1 = turning b.config b.node b.actor b.seen a.seat a.view c.take.new.self in
    let q = turning b.config b.node b.actor b.seen a.seat a.view c.serve_back.new.self in
    let same : c.take.new.self.script ≡ s = ap (λ (v : HeldView _ _). v.script) c.take.ensures.rest ∙ c.loop.invariant.script in
    let took : Took m m1 [] = record {
      player = ap (λ (v : HeldView _ _). player_at b.config b.node b.actor b.seen a.seat a.view v.actor v.fate) c.take.ensures.rest;
      back = ap (λ (v : HeldView _ _). v.back) c.take.ensures.rest;
      mail = c.in-None-take.ensures.taken;
      asked = c.take.ensures.asked;
    } in
    Turned-back s c.serve_back.result c.loop.invariant.held.0 o m m1 q c.loop.invariant.running c.loop.invariant.held.1 took (c.in-None-take.ensures.empty, c.in-None-take.ensures.own)
    c.in-None-take.ensures.looked
    (subst (λ (t : Script). ServesBack t c.serve_back.result m1 q) same c.serve_back.ensures.served)

pub returns-then-serve_new-clause-moved : goal.returns-then-serve_new-clause-moved
returns-then-serve_new-clause-moved g c =
    let b = g.B.Book in
    let a = g.A.Actor in
    let o = turning b.config b.node b.actor b.seen a.seat a.view c.args.self.now in
    let m = turning b.config b.node b.actor b.seen a.seat a.view c.loop.self in
    let m1 = turning b.config b.node b.actor b.seen a.seat a.view c.take.new.self in
    let took : Took m m1 (c.in-Some-take.k ∷ []) = record {
      player = ap (λ (v : HeldView _ _). player_at b.config b.node b.actor b.seen a.seat a.view v.actor v.fate) c.take.ensures.rest;
      back = ap (λ (v : HeldView _ _). v.back) c.take.ensures.rest;
      mail = c.in-Some-take.ensures.taken;
      asked = c.take.ensures.asked;
    } in
    let here : b.moved o.player.seat.node o.player.seat.actor c.args.self.now.book c.take.new.self.book = rw (ap (λ (v : HeldView _ _). v.book) c.take.ensures.rest) c.loop.invariant.moved in
    moved_on b.moved g.met.B.Book.goes_on c.args.self.now.book c.take.new.self.book c.serve_new.new.self.book o.player m1.player (seat_taken c.args.self.now.script c.loop.invariant.held.0 (c.in-Some-take.k ∷ []) o m m1 c.loop.invariant.held.1 took) here c.serve_new.ensures.moved

pub returns-then-serve_new-clause-whole : goal.returns-then-serve_new-clause-whole
returns-then-serve_new-clause-whole g c =
    let b = g.B.Book in
    let a = g.A.Actor in
    let o = turning b.config b.node b.actor b.seen a.seat a.view c.args.self.now in
    let m = turning b.config b.node b.actor b.seen a.seat a.view c.loop.self in
    let m1 = turning b.config b.node b.actor b.seen a.seat a.view c.take.new.self in
    let took : Took m m1 (c.in-Some-take.k ∷ []) = record {
      player = ap (λ (v : HeldView _ _). player_at b.config b.node b.actor b.seen a.seat a.view v.actor v.fate) c.take.ensures.rest;
      back = ap (λ (v : HeldView _ _). v.back) c.take.ensures.rest;
      mail = c.in-Some-take.ensures.taken;
      asked = c.take.ensures.asked;
    } in
    let here : b.moved o.player.seat.node o.player.seat.actor c.args.self.now.book c.take.new.self.book = rw (ap (λ (v : HeldView _ _). v.book) c.take.ensures.rest) c.loop.invariant.moved in
    λ did. WasShown-later b.is_whole b.moved b.seen g.met.B.Book.goes_on c.args.self.now.book c.take.new.self.book c.serve_new.new.self.book (a.seat c.serve_new.new.self.actor) o.player m1.player
    (seat_taken c.args.self.now.script c.loop.invariant.held.0 (c.in-Some-take.k ∷ []) o m m1 c.loop.invariant.held.1 took) here c.serve_new.ensures.whole

pub returns-then-serve_new-clause-turned : goal.returns-then-serve_new-clause-turned
returns-then-serve_new-clause-turned g c =
    let b = g.B.Book in
    let a = g.A.Actor in
    let s = c.args.self.now.script in
    let k = c.in-Some-take.k in
    let o = turning b.config b.node b.actor b.seen a.seat a.view c.args.self.now in
    let m = turning b.config b.node b.actor b.seen a.seat a.view c.loop.self in
    let m1 = turning b.config b.node b.actor b.seen a.seat a.view c.take.new.self in
    let q = turning b.config b.node b.actor b.seen a.seat a.view c.serve_new.new.self in
    let same : c.take.new.self.script ≡ s = ap (λ (v : HeldView _ _). v.script) c.take.ensures.rest ∙ c.loop.invariant.script in
    let took : Took m m1 (k ∷ []) = record {
      player = ap (λ (v : HeldView _ _). player_at b.config b.node b.actor b.seen a.seat a.view v.actor v.fate) c.take.ensures.rest;
      back = ap (λ (v : HeldView _ _). v.back) c.take.ensures.rest;
      mail = c.in-Some-take.ensures.taken;
      asked = c.take.ensures.asked;
    } in
    Turned-new s c.loop.invariant.held.0 k o m m1 q c.loop.invariant.running c.loop.invariant.held.1 took
    (subst (λ r. ServesNew s k r m1 q) c.if-serve_new.true (subst (λ (t : Script). ServesNew t k c.serve_new.result m1 q) same c.serve_new.ensures.served))

pub loop-preserved : goal.loop-preserved
loop-preserved g c =
    let b = g.B.Book in
    let a = g.A.Actor in
    let s = c.args.self.now.script in
    let k = c.in-Some-take.k in
    let o = turning b.config b.node b.actor b.seen a.seat a.view c.args.self.now in
    let m = turning b.config b.node b.actor b.seen a.seat a.view c.loop.self in
    let m1 = turning b.config b.node b.actor b.seen a.seat a.view c.take.new.self in
    let q = turning b.config b.node b.actor b.seen a.seat a.view c.serve_new.new.self in
    let same : c.take.new.self.script ≡ s = ap (λ (v : HeldView _ _). v.script) c.take.ensures.rest ∙ c.loop.invariant.script in
    let took : Took m m1 (k ∷ []) = record {
      player = ap (λ (v : HeldView _ _). player_at b.config b.node b.actor b.seen a.seat a.view v.actor v.fate) c.take.ensures.rest;
      back = ap (λ (v : HeldView _ _). v.back) c.take.ensures.rest;
      mail = c.in-Some-take.ensures.taken;
      asked = c.take.ensures.asked;
    } in
    let here : b.moved o.player.seat.node o.player.seat.actor c.args.self.now.book c.take.new.self.book = rw (ap (λ (v : HeldView _ _). v.book) c.take.ensures.rest) c.loop.invariant.moved in
    let served : ServesNew s k false m1 q = subst (λ r. ServesNew s k r m1 q) c.if-serve_new.false (subst (λ (t : Script). ServesNew t k c.serve_new.result m1 q) same c.serve_new.ensures.served) in
    record {
      script = c.serve_new.ensures.script ∙ same;
      running = served.1;
      moved = moved_on b.moved g.met.B.Book.goes_on c.args.self.now.book c.take.new.self.book c.serve_new.new.self.book o.player m1.player
          (seat_taken s c.loop.invariant.held.0 (k ∷ []) o m m1 c.loop.invariant.held.1 took) here c.serve_new.ensures.moved;
      held = (c.loop.invariant.held.0 ++ k ∷ [], HoldsBack-on s c.loop.invariant.held.0 k o m m1 q c.loop.invariant.held.1 c.loop.invariant.running took served);
    }
