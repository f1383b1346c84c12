use Rattle.std.proofs.Common.{List, ℕ, [], sym, ◌∙◌, subst}
use Rattle.hb_rules.specs.declared.report.Fate.TheVariants.{Running}
use Rattle.hb_rules.specs.Actor.{Told}
use Rattle.hb_rules.proofs.Reports.{running_of}
use Rattle.step_driver.proofs.Playing.{not_running}
use Rattle.actor_cell.specs.Held.{player_at}
use Rattle.actor_cell.specs.Mail.{sent_of, ArePut, deliveries}
use Rattle.actor_cell.specs.Turning.{IsShown, Starts}
use Rattle.actor_cell.proofs.Sendings.{AreStanding-told}
use Rattle.actor_cell.proofs.Turnings.{IsPlayer-starts, Begins-sent, Begins-ended}
use Rattle.actor_cell.proofs.held.Held.begin.Goals.{then-is_running, else-is_running}
use Rattle.actor_cell.proofs.held.Held.begin.Goals as goal

pub new-held-requires-clause-player : goal.new-held-requires-clause-player
new-held-requires-clause-player g c =
    let b = g.B.Book in
    let a = g.A.Actor in
    let s = c.args.script.now in
    let o = player_at b.config b.node b.actor b.seen a.seat a.view c.args.actor Running in
    let m = player_at b.config b.node b.actor b.seen a.seat a.view c.start-fate.new.actor c.start-fate.result in
    IsPlayer-starts s.config s o m c.new-out.result c.start-fate.new.out c.requires.player c.start-fate.ensures.starts

pub send-requires-clause-stand : goal.send-requires-clause-stand
send-requires-clause-stand g c =
    let b = g.B.Book in
    let a = g.A.Actor in
    let run = running_of c.start-fate.result (sym c.is_running.ensures ∙ c.if-is_running.true) in
    let old = b.seen (a.seat c.args.actor) in
    let new = b.seen (a.seat c.start-fate.new.actor) in
    let terms = (a.view c.args.actor).terms in
    rw c.new-held.ensures.actor.0 (AreStanding-told terms old new c.start-fate.new.out
    (subst (λ (out : List ℕ). Told terms old new out c.start-fate.new.out) c.new-out.ensures (c.start-fate.ensures.starts.told run)))

pub returns-clause-begun : goal.returns-clause-begun
returns-clause-begun g c =
    let b = g.B.Book in
    let a = g.A.Actor in
    let s = c.args.script.now in
    let o = player_at b.config b.node b.actor b.seen a.seat a.view c.args.actor Running in
    let m = player_at b.config b.node b.actor b.seen a.seat a.view c.start-fate.new.actor c.start-fate.result in
    let out = c.start-fate.new.out in
    let put_in = c.new-held.ensures.actor in
    let mail_is = c.new-held.ensures.mail.0 in
    let starts : Starts o m [] out = subst (λ (first : List ℕ). Starts o m first out) c.new-out.ensures c.start-fate.ensures.starts in
    elim c.if-is_running.branch [
      | then-is_running w ↦
          let run = running_of c.start-fate.result (sym c.is_running.ensures ∙ w.if-is_running.true) in
          let q = player_at b.config b.node b.actor b.seen a.seat a.view w.send.new.self.actor w.send.new.self.fate in
          let sent = w.send.ensures.sent in
          let shown : IsShown m q = rw (← put_in.0, ← put_in.1) w.send.ensures.shown in
          let put : ArePut s.config (deliveries s.config s q.seat.seen sent.0) (sent_of c.args.mail) (sent_of w.send.new.self.mail) = rw (← put_in.3, ← mail_is) sent.5 in
          rw w.held-is (Begins-sent s o m q out sent.0 sent.1 (sent_of c.args.mail) (sent_of w.send.new.self.mail) starts run shown sent.2 sent.3 sent.4 put)
      | else-is_running w ↦
          rw (w.held-is, put_in.0, put_in.1, mail_is) (Begins-ended s o m out (sent_of c.args.mail) starts
          (not_running c.start-fate.result (sym c.is_running.ensures ∙ w.if-is_running.false)))
    ]
