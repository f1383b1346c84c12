use Rattle.std.proofs.Common.{List, ℕ, take, drop, length, ap, sym, subst, get_or, arith}
use Rattle.std.proofs.lemmas.List.{take_more, length-drop}
use Rattle.hb_rules.specs.declared.report.Fate.TheVariants.{Running}
use Rattle.actor_cell.specs.Held.{player_at}
use Rattle.actor_cell.specs.Mail.{MailView, AreSent, deliveries}
use Rattle.actor_cell.proofs.Hearings.{IsPrefix-refl, IsSameSeat-refl, IsShown-then, moved_on, shown_longer, OnErr-any}
use Rattle.actor_cell.proofs.Mailing.{IsSameTaker-then}
use Rattle.actor_cell.proofs.Sendings.{deliveries-more, deliveries-kept, AreStanding-so_far, take_rest}
use Rattle.actor_cell.proofs.Turnings.{WasShown-look, WasShown-later}
use Rattle.actor_cell.proofs.sending.send_all.Goals as goal

pub returns-in_err-send_one-clause-shown : goal.returns-in_err-send_one-clause-shown
returns-in_err-send_one-clause-shown g c =
    let b = g.B.Book in
    let a = g.A.Actor in
    IsShown-then (player_at b.config b.node b.actor b.seen a.seat a.view c.args.actor.now Running) (player_at b.config b.node b.actor b.seen a.seat a.view c.loop-k.actor Running)
    (player_at b.config b.node b.actor b.seen a.seat a.view c.send_one.new.actor Running) c.loop-k.invariant.shown c.send_one.ensures.shown

pub returns-in_err-send_one-clause-some : goal.returns-in_err-send_one-clause-some
returns-in_err-send_one-clause-some g c =
    let b = g.B.Book in
    let a = g.A.Actor in
    let s = c.args.script.now in
    let p = player_at b.config b.node b.actor b.seen a.seat a.view c.loop-k.actor Running in
    let q = player_at b.config b.node b.actor b.seen a.seat a.view c.send_one.new.actor Running in
    let front = take c.loop-k.k-index c.args.numbers.now in
    let stand = AreStanding-so_far (b.seen (a.seat c.args.actor.now)) p.seat.seen c.args.numbers.now c.loop-k.k-index
    (shown_longer (player_at b.config b.node b.actor b.seen a.seat a.view c.args.actor.now Running) p c.loop-k.invariant.shown) c.requires.stand in
    let sent : AreSent s.config (deliveries s.config s q.seat.seen front) c.args.mail.now c.send_one.new.mail =
    subst (λ (m : MailView). AreSent s.config (deliveries s.config s q.seat.seen front) c.args.mail.now m) (sym c.in_err-send_one.ensures.none)
    (deliveries-kept s.config s p.seat.seen q.seat.seen front c.args.mail.now c.loop-k.mail (shown_longer p q c.send_one.ensures.shown) stand c.loop-k.invariant.sent) in
    OnErr-any c.from_residual.result _ (
      front,
      drop c.loop-k.k-index c.args.numbers.now,
      (λ none. omega (arith, length-drop c.loop-k.k-index c.args.numbers.now, ap (λ (ks : List ℕ). length ks) none, c.loop-k-test.true)),
      take_rest c.args.numbers.now c.loop-k.k-index,
      sent,
    )

pub returns-in_err-send_one-clause-looked : goal.returns-in_err-send_one-clause-looked
returns-in_err-send_one-clause-looked g c =
    let b = g.B.Book in
    let a = g.A.Actor in
    let o = player_at b.config b.node b.actor b.seen a.seat a.view c.args.actor.now Running in
    let p = player_at b.config b.node b.actor b.seen a.seat a.view c.loop-k.actor Running in
    let last = a.seat c.send_one.new.actor in
    let new = c.send_one.new.book in
    OnErr-any c.from_residual.result _
    (WasShown-later b.is_whole b.moved b.seen g.met.B.Book.goes_on c.args.book.now c.loop-k.book new last o p c.loop-k.invariant.shown.seat c.loop-k.invariant.moved
    (WasShown-look b.is_whole b.moved b.seen g.met.B.Book.stays c.loop-k.book new new (a.seat c.loop-k.actor) last last p p (IsSameSeat-refl p) c.send_one.ensures.whole
    (g.met.B.Book.stays p.seat.node p.seat.actor new) (IsPrefix-refl (b.seen last))))

pub loop-k-preserved : goal.loop-k-preserved
loop-k-preserved g c =
    let b = g.B.Book in
    let a = g.A.Actor in
    let s = c.args.script.now in
    let o = player_at b.config b.node b.actor b.seen a.seat a.view c.args.actor.now Running in
    let p = player_at b.config b.node b.actor b.seen a.seat a.view c.loop-k.actor Running in
    let q = player_at b.config b.node b.actor b.seen a.seat a.view c.send_one.new.actor Running in
    let front = take c.loop-k.k-index c.args.numbers.now in
    let stand = AreStanding-so_far o.seat.seen p.seat.seen c.args.numbers.now c.loop-k.k-index (shown_longer o p c.loop-k.invariant.shown) c.requires.stand in
    record {
      seat = c.send_one.ensures.seat;
      moved = moved_on b.moved g.met.B.Book.goes_on c.args.book.now c.loop-k.book c.send_one.new.book o p c.loop-k.invariant.shown.seat c.loop-k.invariant.moved c.send_one.ensures.moved;
      shown = IsShown-then o p q c.loop-k.invariant.shown c.send_one.ensures.shown;
      sent = subst (λ (ks : List ℕ). AreSent s.config (deliveries s.config s q.seat.seen ks) c.args.mail.now c.send_one.new.mail)
          (sym (take_more c.args.numbers.now c.loop-k.k-index 0 c.loop-k-test.true))
          (deliveries-more s.config s p.seat.seen q.seat.seen front (get_or c.args.numbers.now c.loop-k.k-index 0) c.args.mail.now c.loop-k.mail c.send_one.new.mail
          (shown_longer p q c.send_one.ensures.shown) stand c.loop-k.invariant.sent c.in_ok-send_one.ensures.sent);
    }

pub returns-in_err-send_one-clause-taker : goal.returns-in_err-send_one-clause-taker
returns-in_err-send_one-clause-taker g c = IsSameTaker-then c.args.mail.now c.loop-k.mail c.send_one.new.mail c.loop-k.invariant.sent.taker c.send_one.ensures.taker
