use Rattle.std.proofs.Common.{◌∙◌}
use Rattle.liar_cell.specs.HeldLiar.{LiarView, seat_at}
use Rattle.liar_cell.proofs.Speaking.{IsHeldLiar-watched}
use Rattle.liar_cell.proofs.held.HeldLiar.count.Goals as goal

pub invariant_of-self : goal.invariant_of-self
invariant_of-self g c =
    let b = g.B.Book in
    let n = g.B.NamedBook in
    let h = c.self.inside in
    let was = c.self.invariant in
    let o : LiarView g.row.B.Denot = record {
      seat = seat_at b.config b.node b.actor b.seen h.seat;
      said = h.said;
      hears = h.hears;
      book = h.book;
      script = h.script.now;
      mail = h.mail;
      back = h.back.items;
    } in
    let named = g.met.B.NamedBook.stays_named (b.node h.seat) (b.actor h.seat) h.book c.posts.new.self c.posts.ensures.moved in (
      c.posts.ensures.seat,
      c.posts.ensures.same.1 ∙ was.1,
      IsHeldLiar-watched g.J.RunName.is_script g.J.RunName.book n.name o (seat_at b.config b.node b.actor b.seen c.posts.new.seat) c.posts.new.self was.2
          c.posts.ensures.same c.posts.ensures.watched named,
    )
