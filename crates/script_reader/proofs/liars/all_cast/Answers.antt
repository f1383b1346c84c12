use Rattle.std.proofs.Common.{◌≡◌, true, false, nat_lt, sym, ◌∙◌}
use Rattle.std.proofs.lemmas.Bool.{lt-ltb, le-ltb}
use Rattle.script_reader.proofs.Earlier.{all_cast_at}
use Rattle.script_reader.proofs.liars.all_cast.Goals as goal

pub returns-then-count_boxes-count_named : goal.returns-then-count_boxes-count_named
returns-then-count_boxes-count_named c =
    let few : nat_lt c.count_boxes.result c.count_named.result ≡ true = lt-ltb _ _ c.if-count_boxes-count_named.true in
    sym c.loop-i.invariant ∙ all_cast_at c.args.cast.now c.args.liars.now c.loop-i.i c.index-liars-i.result true c.loop-i-test.true c.index-liars-i.is
    (rw (c.count_boxes.ensures, c.count_named.ensures) at few)

pub loop-i-preserved : goal.loop-i-preserved
loop-i-preserved c =
    let enough : nat_lt c.count_boxes.result c.count_named.result ≡ false = le-ltb _ _ c.if-count_boxes-count_named.false in
    sym (all_cast_at c.args.cast.now c.args.liars.now c.loop-i.i c.index-liars-i.result false c.loop-i-test.true c.index-liars-i.is
    (rw (c.count_boxes.ensures, c.count_named.ensures) at enough)) ∙ c.loop-i.invariant
