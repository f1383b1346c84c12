use Rattle.std.proofs.Common.{◌≡◌, ◌<◌, ℕ, length, take, slice_get, sym, ap, ◌∙◌, arith}
use Rattle.acs_world.specs.Lists.{lists_of}
use Rattle.acs_world.proofs.Searching.{list_found, count_kept, count_added}
use Rattle.acs_world.proofs.lists.list_in.Goals.{in-None, in-Some+else-count-place}
use Rattle.acs_world.proofs.lists.list_in.Goals as goal

pub returns-then-count-place : goal.returns-then-count-place
returns-then-count-place c =
    let found = rw c.front.ensures at c.in-Some.ensures.some in
    let inside : c.loop-number.number < length c.args.posts.now = omega (arith, c.loop-number-test.true) in
    let at : length (lists_of c.args.config.now c.args.node c.args.epoch (take c.loop-number.number c.args.posts.now)) ≡ c.args.place =
    omega (arith, c.loop-number.invariant.lists, c.if-count-place.true) in
    record {
      list = found.0;
      there =
          ap (λ (k : ℕ). slice_get (lists_of c.args.config.now c.args.node c.args.epoch c.args.posts.now) k) (sym at)
          ∙ list_found c.args.config.now c.args.node c.args.epoch c.loop-number.number c.args.posts.now c.index-posts-number.result found.0 inside
          c.index-posts-number.is found.1;
      shown = found.2;
    }

pub loop-number-preserved : goal.loop-number-preserved
loop-number-preserved c =
    let inside : c.loop-number.number < length c.args.posts.now = omega (arith, c.loop-number-test.true) in
    elim c.match-new_list.branch [
      | in-None w ↦
          let none = rw c.front.ensures at w.in-None.ensures.none in
          let kept = count_kept c.args.config.now c.args.node c.args.epoch c.loop-number.number c.args.posts.now c.index-posts-number.result inside
          c.index-posts-number.is none in
          record {
            lists = omega (arith, w.count-is, c.loop-number.invariant.lists, kept);
            few = omega (arith, w.count-is, c.loop-number.invariant.few);
            short = omega (arith, w.count-is, c.loop-number.invariant.short);
          }
      | in-Some+else-count-place w ↦
          let found = rw c.front.ensures at w.in-Some.ensures.some in
          let added = count_added c.args.config.now c.args.node c.args.epoch c.loop-number.number c.args.posts.now c.index-posts-number.result found.0
          inside c.index-posts-number.is found.1 in
          record {
            lists = omega (arith, w.count-is, c.loop-number.invariant.lists, added);
            few = omega (arith, w.count-is, c.loop-number.invariant.few);
            short = omega (arith, w.count-is, c.loop-number.invariant.short, w.if-count-place.false);
          }
    ]
