use Rattle.std.proofs.Common.{◌∙◌}
use Rattle.hb_rules.specs.Book.{Moved}
use Rattle.hb_rules.specs.BookLaws.{Moved-trans}
use Rattle.book_cases.proofs.plain.tell_all.Goals as goal

pub loop-k-preserved : goal.loop-k-preserved
loop-k-preserved c =
    let before = c.loop-k.invariant in
    let moved : Moved c.args.liar.now.node c.args.liar.now.actor c.loop-k.book c.lie.new.self = rw (before.2, before.3) at c.lie.ensures.moved in (
      c.lie.ensures.seat,
      c.lie.ensures.same.0 ∙ before.1,
      c.lie.ensures.same.1 ∙ before.2,
      c.lie.ensures.same.2 ∙ before.3,
      Moved-trans c.args.liar.now.node c.args.liar.now.actor c.args.book.now c.loop-k.book c.lie.new.self before.4 moved,
    )
