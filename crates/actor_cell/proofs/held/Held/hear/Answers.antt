use Rattle.std.proofs.Common.{List, ℕ, [], refl, sym, ◌∙◌, subst}
use Rattle.hb_rules.specs.declared.report.Fate.TheVariants.{Running}
use Rattle.actor_cell.specs.Held.{HeldView, player_at}
use Rattle.hb_rules.specs.Report.{IsReceived}
use Rattle.hb_rules.specs.Actor.{Told}
use Rattle.hb_rules.proofs.Reports.{running_of}
use Rattle.step_driver.proofs.Playing.{not_running}
use Rattle.actor_cell.specs.Mail.{sent_of}
use Rattle.actor_cell.specs.Turning.{Hears}
use Rattle.actor_cell.proofs.Sendings.{AreStanding-told}
use Rattle.actor_cell.proofs.Turnings.{Hears-fates, IsHeld-hears, IsHeard-sent, IsHeard-ended}
use Rattle.actor_cell.proofs.held.Held.hear.Goals as goal

pub invariant_of-self : goal.invariant_of-self
invariant_of-self g c =
    let b = g.B.Book in
    let n = g.B.NamedBook in
    let a = g.A.Actor in
    let o = player_at b.config b.node b.actor b.seen a.seat a.view c.self.inside.actor c.self.inside.fate in
    let q = player_at b.config b.node b.actor b.seen a.seat a.view c.hear-self-inside.new.actor c.hear-self-inside.result in
    let comes = subst (λ (v : HeldView _ _). IsReceived v.script.config v.script (b.seen (a.seat v.actor)) (b.node (a.seat v.actor)) (b.actor (a.seat v.actor)) c.args.k) (sym c.self.view_is) c.requires.comes in
    let hears : Hears c.args.k o q c.new-out.result c.hear-self-inside.new.out = Hears-fates c.args.k (player_at b.config b.node b.actor b.seen a.seat a.view c.self.inside.actor Running) q c.self.inside.fate
    c.new-out.result c.hear-self-inside.new.out c.hear-self-inside.ensures.hears in
    IsHeld-hears b.knows g.J.RunName.is_script g.J.RunName.book (a.seat c.self.inside.actor) (a.seat c.hear-self-inside.new.actor) c.self.inside.book c.hear-self-inside.new.book (n.name c.self.inside.book) (n.name c.hear-self-inside.new.book)
    c.self.inside.script.now c.self.inside.mail c.args.k o q c.new-out.result c.hear-self-inside.new.out c.self.invariant comes c.hear-self-inside.ensures.seat (g.met.B.NamedBook.stays_named (b.node (a.seat c.self.inside.actor)) (b.actor (a.seat c.self.inside.actor)) c.self.inside.book c.hear-self-inside.new.book c.hear-self-inside.ensures.moved) hears

pub invariant_of-self-else-is_running : goal.invariant_of-self-else-is_running
invariant_of-self-else-is_running g c =
    let b = g.B.Book in
    let n = g.B.NamedBook in
    let a = g.A.Actor in
    let o = player_at b.config b.node b.actor b.seen a.seat a.view c.self.inside.actor c.self.inside.fate in
    let q = player_at b.config b.node b.actor b.seen a.seat a.view c.hear-self-inside.new.actor c.hear-self-inside.result in
    let comes = subst (λ (v : HeldView _ _). IsReceived v.script.config v.script (b.seen (a.seat v.actor)) (b.node (a.seat v.actor)) (b.actor (a.seat v.actor)) c.args.k) (sym c.self.view_is) c.requires.comes in
    let hears : Hears c.args.k o q c.new-out.result c.hear-self-inside.new.out = Hears-fates c.args.k (player_at b.config b.node b.actor b.seen a.seat a.view c.self.inside.actor Running) q c.self.inside.fate
    c.new-out.result c.hear-self-inside.new.out c.hear-self-inside.ensures.hears in
    IsHeld-hears b.knows g.J.RunName.is_script g.J.RunName.book (a.seat c.self.inside.actor) (a.seat c.hear-self-inside.new.actor) c.self.inside.book c.hear-self-inside.new.book (n.name c.self.inside.book) (n.name c.hear-self-inside.new.book)
    c.self.inside.script.now c.self.inside.mail c.args.k o q c.new-out.result c.hear-self-inside.new.out c.self.invariant comes c.hear-self-inside.ensures.seat (g.met.B.NamedBook.stays_named (b.node (a.seat c.self.inside.actor)) (b.actor (a.seat c.self.inside.actor)) c.self.inside.book c.hear-self-inside.new.book c.hear-self-inside.ensures.moved) hears

pub send-requires-clause-stand : goal.send-requires-clause-stand
send-requires-clause-stand g c =
    let b = g.B.Book in
    let a = g.A.Actor in
    let run = running_of c.hear-self-inside.result (sym c.is_running.ensures ∙ c.if-is_running.true) in
    AreStanding-told (a.view c.self.inside.actor).terms (b.seen (a.seat c.self.inside.actor)) (b.seen (a.seat c.hear-self-inside.new.actor)) c.hear-self-inside.new.out
    (subst (λ (out : List ℕ). Told (a.view c.self.inside.actor).terms (b.seen (a.seat c.self.inside.actor)) (b.seen (a.seat c.hear-self-inside.new.actor)) out c.hear-self-inside.new.out) c.new-out.ensures
    (c.hear-self-inside.ensures.hears.told run))

pub returns-then-is_running-clause-delivered : goal.returns-then-is_running-clause-delivered
returns-then-is_running-clause-delivered g c =
    let b = g.B.Book in
    let a = g.A.Actor in
    let o = player_at b.config b.node b.actor b.seen a.seat a.view c.self.inside.actor c.self.inside.fate in
    let m = player_at b.config b.node b.actor b.seen a.seat a.view c.hear-self-inside.new.actor c.hear-self-inside.result in
    let q = player_at b.config b.node b.actor b.seen a.seat a.view c.send.new.self.actor c.send.new.self.fate in
    let run = running_of c.hear-self-inside.result (sym c.is_running.ensures ∙ c.if-is_running.true) in
    let comes = subst (λ (v : HeldView _ _). IsReceived v.script.config v.script (b.seen (a.seat v.actor)) (b.node (a.seat v.actor)) (b.actor (a.seat v.actor)) c.args.k) (sym c.self.view_is) c.requires.comes in
    let hears : Hears c.args.k o m [] c.hear-self-inside.new.out = subst (λ (out : List ℕ). Hears c.args.k o m out c.hear-self-inside.new.out) c.new-out.ensures
    (Hears-fates c.args.k (player_at b.config b.node b.actor b.seen a.seat a.view c.self.inside.actor Running) m c.self.inside.fate c.new-out.result c.hear-self-inside.new.out c.hear-self-inside.ensures.hears) in
    let sent = c.send.ensures.sent in
    rw (← c.self.view_is) (record {
      heard = IsHeard-sent c.self.inside.script.now c.args.k o m q c.hear-self-inside.new.out sent.0 sent.1 (sent_of c.self.inside.mail) (sent_of c.send.new.self.mail) comes hears run
          c.send.ensures.shown sent.2 sent.3 sent.4 sent.5;
      taker = c.send.ensures.taker;
      back = c.send.ensures.rest.1;
    })

pub returns-clause-delivered : goal.returns-clause-delivered
returns-clause-delivered g c =
    let b = g.B.Book in
    let a = g.A.Actor in
    let o = player_at b.config b.node b.actor b.seen a.seat a.view c.self.inside.actor c.self.inside.fate in
    let q = player_at b.config b.node b.actor b.seen a.seat a.view c.hear-self-inside.new.actor c.hear-self-inside.result in
    let comes = subst (λ (v : HeldView _ _). IsReceived v.script.config v.script (b.seen (a.seat v.actor)) (b.node (a.seat v.actor)) (b.actor (a.seat v.actor)) c.args.k) (sym c.self.view_is) c.requires.comes in
    let hears : Hears c.args.k o q [] c.hear-self-inside.new.out = subst (λ (out : List ℕ). Hears c.args.k o q out c.hear-self-inside.new.out) c.new-out.ensures
    (Hears-fates c.args.k (player_at b.config b.node b.actor b.seen a.seat a.view c.self.inside.actor Running) q c.self.inside.fate c.new-out.result c.hear-self-inside.new.out c.hear-self-inside.ensures.hears) in
    rw (← c.self.view_is) (record {
      heard = IsHeard-ended c.self.inside.script.now c.args.k o q c.hear-self-inside.new.out (sent_of c.self.inside.mail) comes hears
          (not_running c.hear-self-inside.result (sym c.is_running.ensures ∙ c.if-is_running.false));
      taker = record { boxes = refl; place = refl; take = refl };
      back = refl;
    })
