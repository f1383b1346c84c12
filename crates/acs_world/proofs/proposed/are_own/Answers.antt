use Rattle.std.proofs.Common.{◌<◌, Bool, length, [], sym, ◌∙◌, arith}
use Rattle.std.proofs.lemmas.Bool.{and_from}
use Rattle.std.proofs.lemmas.List.Folds.{list_all_more, list_all_at}
use Rattle.hb_wire.specs.declared.items.Item.{Item}
use Rattle.hb_wire.specs.Lists.{item as item_of}
use Rattle.acs_world.specs.Closed.{is_own}
use Rattle.acs_world.proofs.proposed.are_own.Goals as goal

abbrev none : Item
none = item_of 0 []

pub returns-then-not-is_own : goal.returns-then-not-is_own
returns-then-not-is_own c = λ items closed.
    let count = c.count_of-j-end.ensures items closed in
    let inside : c.loop-j.j < length items = omega (arith, count, c.loop-j-test.true) in
    sym (list_all_at (is_own c.args.config.now c.args.posts.now c.args.epoch) items c.loop-j.j none inside
    (sym (c.is_own.ensures items closed none) ∙ c.if-not-is_own.true))

pub loop-j-preserved : goal.loop-j-preserved
loop-j-preserved c = λ items closed.
    let count = c.count_of-j-end.ensures items closed in
    let inside : c.loop-j.j < length items = omega (arith, count, c.loop-j-test.true) in
    let test : Item → Bool = is_own c.args.config.now c.args.posts.now c.args.epoch in
    list_all_more test items c.loop-j.j none inside
    ∙ and_from _ _ (c.loop-j.invariant items closed) (sym (c.is_own.ensures items closed none) ∙ c.if-not-is_own.false)
