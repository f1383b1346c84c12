use Rattle.std.proofs.Common.{subst, sym, ◌∙◌}
use Rattle.net_script.specs.declared.script.Script.{Script}
use Rattle.actor_cell.specs.Turning.{turning, Delivers}
use Rattle.actor_cell.proofs.Hearings.{moved_on, IsPrefix-refl}
use Rattle.actor_cell.proofs.Turnings.{ServesNew-of, not_late_of, WasShown-look, Delivers-longer}
use Rattle.actor_cell.proofs.held.Held.serve_new.Goals as goal

pub returns-clause-moved : goal.returns-clause-moved
returns-clause-moved g c =
    let b = g.B.Book in
    let a = g.A.Actor in
    let o = turning b.config b.node b.actor b.seen a.seat a.view c.args.self.now in
    let m = turning b.config b.node b.actor b.seen a.seat a.view c.look-found.new.self in
    moved_on b.moved g.met.B.Book.goes_on c.args.self.now.book c.look-found.new.self.book c.deliver.new.self.book o.player m.player c.look-found.ensures.shown.seat
    c.look-found.ensures.moved c.deliver.ensures.moved

pub returns-clause-whole : goal.returns-clause-whole
returns-clause-whole g c =
    let b = g.B.Book in
    let a = g.A.Actor in
    let o = turning b.config b.node b.actor b.seen a.seat a.view c.args.self.now in
    let m = turning b.config b.node b.actor b.seen a.seat a.view c.look-found.new.self in
    let q = turning b.config b.node b.actor b.seen a.seat a.view c.deliver.new.self in
    WasShown-look b.is_whole b.moved b.seen g.met.B.Book.stays c.args.self.now.book c.look-found.new.self.book c.deliver.new.self.book (a.seat c.args.self.now.actor)
    (a.seat c.look-found.new.self.actor) (a.seat c.deliver.new.self.actor) o.player m.player c.look-found.ensures.shown.seat c.look-found.ensures.whole c.deliver.ensures.moved
    (Delivers-longer c.look-found.new.self.script c.args.k c.look-found.result m q c.deliver.ensures.delivered)

pub returns-then-is_late-clause-moved : goal.returns-then-is_late-clause-moved
returns-then-is_late-clause-moved g c =
    let b = g.B.Book in
    let a = g.A.Actor in
    rw c.serve_late.ensures.rest.1 c.look-found.ensures.moved

pub returns-then-is_late-clause-whole : goal.returns-then-is_late-clause-whole
returns-then-is_late-clause-whole g c =
    let b = g.B.Book in
    let a = g.A.Actor in
    let o = turning b.config b.node b.actor b.seen a.seat a.view c.args.self.now in
    let m = turning b.config b.node b.actor b.seen a.seat a.view c.look-found.new.self in
    rw (c.serve_late.ensures.rest.0, c.serve_late.ensures.rest.1) (WasShown-look b.is_whole b.moved b.seen g.met.B.Book.stays c.args.self.now.book c.look-found.new.self.book c.look-found.new.self.book
    (a.seat c.args.self.now.actor) (a.seat c.look-found.new.self.actor) (a.seat c.look-found.new.self.actor) o.player m.player c.look-found.ensures.shown.seat c.look-found.ensures.whole
    (g.met.B.Book.stays m.player.seat.node m.player.seat.actor c.look-found.new.self.book) (IsPrefix-refl m.player.seat.seen))

pub returns-clause-served : goal.returns-clause-served
returns-clause-served g c =
    let b = g.B.Book in
    let a = g.A.Actor in
    let s = c.args.self.now.script in
    let found = c.look-found.result in
    let o = turning b.config b.node b.actor b.seen a.seat a.view c.args.self.now in
    let m = turning b.config b.node b.actor b.seen a.seat a.view c.look-found.new.self in
    let q = turning b.config b.node b.actor b.seen a.seat a.view c.deliver.new.self in
    let rest = c.look-found.ensures.rest in
    ServesNew-of s c.args.k found o m q c.requires.running c.look-found.ensures.shown rest.1 rest.2 c.look-found.ensures.arrival
    (not_late_of found (sym c.is_late.ensures ∙ c.if-is_late.false))
    (subst (λ (t : Script). Delivers t c.args.k found m q) rest.0 c.deliver.ensures.delivered)
