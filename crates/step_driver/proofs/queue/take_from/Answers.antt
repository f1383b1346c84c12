use Rattle.std.proofs.Common.{set, ap, sym, ◌∙◌, List}
use Rattle.std.proofs.lemmas.List.{nil_from_length}
use Rattle.step_driver.specs.declared.envelope.Envelope.{Envelope}
use Rattle.step_driver.specs.Blocks.{joined}
use Rattle.step_driver.proofs.Blocks.{IsTakenAt-from, joined-set, joined-emptied}
use Rattle.step_driver.proofs.queue.take_from.Goals as goal

pub returns-then-left-eq0 : goal.returns-then-left-eq0
returns-then-left-eq0 c = IsTakenAt-from c.args.blocks.now.items c.remove.new.self.items c.args.number c.args.place
    c.requires.block c.index_mut-block.result.now c.take.new.self c.take.result c.unwrap-taken.result
    c.requires.stands c.requires.within c.index_mut-block.ensures.value c.take.ensures.taken c.take.ensures.rest c.unwrap-taken.ensures
    (ap (λ (blocks : List (List Envelope)). joined blocks) c.remove.ensures.items
    ∙ joined-emptied c.args.blocks.now.items c.args.number c.take.new.self (nil_from_length c.take.new.self (sym c.len-left.ensures ∙ c.if-left-eq0.true)))

pub returns-else-left-eq0 : goal.returns-else-left-eq0
returns-else-left-eq0 c = IsTakenAt-from c.args.blocks.now.items (set c.args.blocks.now.items c.args.number c.take.new.self) c.args.number c.args.place
    c.requires.block c.index_mut-block.result.now c.take.new.self c.take.result c.unwrap-taken.result
    c.requires.stands c.requires.within c.index_mut-block.ensures.value c.take.ensures.taken c.take.ensures.rest c.unwrap-taken.ensures
    (joined-set c.args.blocks.now.items c.args.number c.requires.block c.take.new.self c.requires.stands)
