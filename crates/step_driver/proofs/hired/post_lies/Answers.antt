use Rattle.std.proofs.Common.{◌≡◌, ◌+◌, List, [], ◌∷◌, ◌++◌, take, sym, ap, ◌∙◌, subst}
use Rattle.std.proofs.lemmas.List.{take_more}
use Rattle.hb_wire.specs.declared.post.Lie.{Lie}
use Rattle.step_driver.specs.Telling.{Tells}
use Rattle.step_driver.proofs.Tellings.{Tells-none, Tells-more, moved_on}
use Rattle.step_driver.proofs.hired.post_lies.Goals as goal

pub loop-lie-init : goal.loop-lie-init
loop-lie-init g c =
    let b = g.B.Book in
    record {
      seat = c.requires.seat;
      moved = g.met.B.Book.stays (b.node c.args.seat.now) (b.actor c.args.seat.now) c.args.book.now;
      told = Tells-none b.config b.node b.actor b.seen [] c.args.seat.now c.args.said c.requires.said c.requires.few;
    }

pub loop-lie-preserved : goal.loop-lie-preserved
loop-lie-preserved g c =
    let b = g.B.Book in
    let lie = c.lie-item.result in
    let was = c.loop-lie.invariant.told in
    let so_far = take c.loop-lie.lie-index c.args.lies.now in
    let more : so_far ++ lie ∷ [] ≡ take (c.loop-lie.lie-index + 1) c.args.lies.now =
    ap (λ (x : Lie). so_far ++ x ∷ []) c.lie-item.is ∙ sym (take_more c.args.lies.now c.loop-lie.lie-index lie c.loop-lie-test.true) in
    record {
      seat = c.post_lie-said.ensures.seat;
      moved = g.met.B.Book.goes_on (b.node c.args.seat.now) (b.actor c.args.seat.now) c.args.book.now c.loop-lie.book c.post_lie-said.new.book c.loop-lie.invariant.moved
          (moved_on b.moved b.config b.node b.actor b.seen so_far c.args.seat.now c.loop-lie.seat c.loop-lie.said c.loop-lie.book c.post_lie-said.new.book was c.post_lie-said.ensures.moved);
      told = subst (λ (lies : List Lie). Tells b.config b.node b.actor b.seen lies c.args.seat.now c.post_lie-said.new.seat c.post_lie-said.result) more
          (Tells-more b.config b.node b.actor b.seen so_far lie c.args.seat.now c.loop-lie.seat c.post_lie-said.new.seat c.loop-lie.said c.post_lie-said.result
          was c.post_lie-said.ensures.told);
    }
