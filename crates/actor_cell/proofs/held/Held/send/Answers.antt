use Rattle.std.proofs.Common.{◌≡◌, inl, inr, [], refl, sym, ap, ◌∙◌}
use Rattle.hb_rules.specs.declared.report.Fate.TheVariants.{Running, Memory}
use Rattle.actor_cell.specs.Held.{HeldView, player_at}
use Rattle.std.proofs.lemmas.List.{append-nil}
use Rattle.actor_cell.specs.Turning.{IsShown}
use Rattle.actor_cell.proofs.Turnings.{IsShown-fates, IsHeld-shown}
use Rattle.actor_cell.proofs.held.Held.send.Goals as goal

pub invariant_of-self : goal.invariant_of-self
invariant_of-self g c =
    let b = g.B.Book in
    let n = g.B.NamedBook in
    let a = g.A.Actor in
    let run : c.self.inside.fate ≡ Running = ap (λ (v : HeldView _ _). v.fate) c.self.view_is ∙ c.requires.running in
    let o = player_at b.config b.node b.actor b.seen a.seat a.view c.self.inside.actor c.self.inside.fate in
    let q = player_at b.config b.node b.actor b.seen a.seat a.view c.send_all.new.actor c.self.inside.fate in
    let shown : IsShown o q = IsShown-fates (player_at b.config b.node b.actor b.seen a.seat a.view c.self.inside.actor Running)
    (player_at b.config b.node b.actor b.seen a.seat a.view c.send_all.new.actor Running) c.self.inside.fate c.self.inside.fate c.send_all.ensures.shown in
    IsHeld-shown b.knows g.J.RunName.is_script g.J.RunName.book (a.seat c.self.inside.actor) (a.seat c.send_all.new.actor) c.self.inside.book c.send_all.new.book (n.name c.self.inside.book) (n.name c.send_all.new.book)
    c.self.inside.script.now c.self.inside.mail c.send_all.new.mail o q c.self.invariant run (inl run) c.send_all.ensures.seat (g.met.B.NamedBook.stays_named (b.node (a.seat c.self.inside.actor)) (b.actor (a.seat c.self.inside.actor)) c.self.inside.book c.send_all.new.book c.send_all.ensures.moved) shown
    c.send_all.ensures.taker.boxes c.send_all.ensures.taker.place

pub invariant_of-self-in-Err : goal.invariant_of-self-in-Err
invariant_of-self-in-Err g c =
    let b = g.B.Book in
    let n = g.B.NamedBook in
    let a = g.A.Actor in
    let run : c.self.inside.fate ≡ Running = ap (λ (v : HeldView _ _). v.fate) c.self.view_is ∙ c.requires.running in
    let o = player_at b.config b.node b.actor b.seen a.seat a.view c.self.inside.actor c.self.inside.fate in
    let q = player_at b.config b.node b.actor b.seen a.seat a.view c.send_all.new.actor Memory in
    let shown : IsShown o q = IsShown-fates (player_at b.config b.node b.actor b.seen a.seat a.view c.self.inside.actor Running)
    (player_at b.config b.node b.actor b.seen a.seat a.view c.send_all.new.actor Running) c.self.inside.fate Memory c.send_all.ensures.shown in
    IsHeld-shown b.knows g.J.RunName.is_script g.J.RunName.book (a.seat c.self.inside.actor) (a.seat c.send_all.new.actor) c.self.inside.book c.send_all.new.book (n.name c.self.inside.book) (n.name c.send_all.new.book)
    c.self.inside.script.now c.self.inside.mail c.send_all.new.mail o q c.self.invariant run (inr refl) c.send_all.ensures.seat (g.met.B.NamedBook.stays_named (b.node (a.seat c.self.inside.actor)) (b.actor (a.seat c.self.inside.actor)) c.self.inside.book c.send_all.new.book c.send_all.ensures.moved) shown
    c.send_all.ensures.taker.boxes c.send_all.ensures.taker.place

pub returns-in-Ok-clause-sent : goal.returns-in-Ok-clause-sent
returns-in-Ok-clause-sent g c =
    let run : c.self.inside.fate ≡ Running = ap (λ (v : HeldView _ _). v.fate) c.self.view_is ∙ c.requires.running in
    rw (← c.self.view_is) (c.numbers.result.now, [], sym c.numbers.ensures ∙ sym (append-nil c.numbers.result.now), (λ _. refl), (λ memory. absurd (cc (run, memory))), c.in-Ok.ensures.all.put)

pub returns-in-Err-clause-sent : goal.returns-in-Err-clause-sent
returns-in-Err-clause-sent g c =
    let some = c.in-Err.ensures.some in
    rw (← c.self.view_is) (some.0, some.1, sym c.numbers.ensures ∙ some.3, (λ running. absurd (cc (running))), (λ _. some.2), some.4.put)

pub returns-in-Err-clause-looked : goal.returns-in-Err-clause-looked
returns-in-Err-clause-looked g c = rw (← c.self.view_is) (λ _. c.in-Err.ensures.looked)
