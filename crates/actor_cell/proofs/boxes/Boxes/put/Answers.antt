use Rattle.std.proofs.Common.{Some, refl, sym, ap, ◌∙◌, subst}
use Rattle.std.proofs.lemmas.Result.{on_ok_weaker, on_err_weaker}
use Rattle.mailbox.specs.Passes.{PutPassView, TakePassView}
use Rattle.actor_cell.specs.Passes.{PassesView, ArePassesOf}
use Rattle.actor_cell.proofs.Puts.{same_after, put_after, block_after, within_row, same_take, own_after, own_apart}
use Rattle.actor_cell.proofs.boxes.Boxes.put.Goals as goal

pub returns-then-is_own-clause-passes : goal.returns-then-is_own-clause-passes
returns-then-is_own-clause-passes c c' =
    let old = c'.passes.inside in
    let puts = old.puts.items in
    let were = subst (λ (v : PassesView). ArePassesOf c'.args.self.now v) (sym c'.passes.view_is) c'.requires.passes in
    let same = same_after (λ (p : PutPassView). p.at) puts c'.place_of-place.result c'.index_mut-pass.result.now c'.put_own.new.own c'.index_mut-pass.ensures.value c'.put_own.ensures.same.0 in
    let passes : PassesView = record { place = old.place; take = old.take; puts = puts } in
    let within = within_row puts c'.args.self.now.names c'.place_of-place.result were.puts c'.place_of-place.ensures.within in
    let take = same_take c'.put_own.result old.take c'.put_own.new.take c'.index_mut-pass.result.now.put c'.put_own.new.own.put c'.put_own.ensures.told c'.put_own.ensures.none in
    record {
      take = were.take ∙ sym (ap (λ (t : TakePassView). Some t.at) take);
      puts = same ∙ were.puts;
      own = own_after c'.put_own.result passes c'.put_own.new.take c'.place_of-place.result c'.index_mut-pass.result.now c'.put_own.new.own c'.if-is_own.true within c'.index_mut-pass.ensures.value were.own c'.put_own.ensures.told
          c'.put_own.ensures.none;
    }

pub returns-then-is_own-clause-same : goal.returns-then-is_own-clause-same
returns-then-is_own-clause-same c c' =
    rw (← c'.passes.view_is) (
      refl,
      same_take c'.put_own.result c'.passes.inside.take c'.put_own.new.take c'.index_mut-pass.result.now.put c'.put_own.new.own.put c'.put_own.ensures.told c'.put_own.ensures.none,
      same_after (λ (p : PutPassView). p.splits) c'.passes.inside.puts.items c'.place_of-place.result c'.index_mut-pass.result.now c'.put_own.new.own c'.index_mut-pass.ensures.value c'.put_own.ensures.same.1,
    )

pub returns-then-is_own-clause-put : goal.returns-then-is_own-clause-put
returns-then-is_own-clause-put c c' =
    let puts = c'.passes.inside.puts.items in
    let within = within_row puts c'.args.self.now.names c'.place_of-place.result (subst (λ (v : PassesView). ArePassesOf c'.args.self.now v) (sym c'.passes.view_is) c'.requires.passes).puts c'.place_of-place.ensures.within in
    rw (← c'.passes.view_is, ← c'.place_of-place.ensures.place) (on_ok_weaker c'.put_own.result (put_after puts c'.place_of-place.result c'.args.number c'.index_mut-pass.result.now c'.put_own.new.own within c'.index_mut-pass.ensures.value) c'.put_own.ensures.put)

pub returns-then-is_own-clause-none : goal.returns-then-is_own-clause-none
returns-then-is_own-clause-none c c' =
    rw (← c'.passes.view_is)
    (on_err_weaker c'.put_own.result (λ none. same_after (λ (p : PutPassView). p.put) c'.passes.inside.puts.items c'.place_of-place.result c'.index_mut-pass.result.now c'.put_own.new.own c'.index_mut-pass.ensures.value none.0) c'.put_own.ensures.none)

pub returns-then-is_own-clause-no_room : goal.returns-then-is_own-clause-no_room
returns-then-is_own-clause-no_room c c' =
    let puts = c'.passes.inside.puts.items in
    let within = within_row puts c'.args.self.now.names c'.place_of-place.result (subst (λ (v : PassesView). ArePassesOf c'.args.self.now v) (sym c'.passes.view_is) c'.requires.passes).puts c'.place_of-place.ensures.within in
    rw (← c'.place_of-place.ensures.place) (on_err_weaker c'.put_own.result (block_after puts c'.place_of-place.result c'.put_own.new.own within) c'.put_own.ensures.no_room)

pub returns-else-is_own-clause-passes : goal.returns-else-is_own-clause-passes
returns-else-is_own-clause-passes c c' =
    let old = c'.passes.inside in
    let puts = old.puts.items in
    let were = subst (λ (v : PassesView). ArePassesOf c'.args.self.now v) (sym c'.passes.view_is) c'.requires.passes in
    let same = same_after (λ (p : PutPassView). p.at) puts c'.place_of-place.result c'.index_mut-pass.result.now c'.put.new.pass c'.index_mut-pass.ensures.value c'.put.ensures.same.0 in
    let passes : PassesView = record { place = old.place; take = old.take; puts = puts } in
    record {
      take = were.take;
      puts = same ∙ were.puts;
      own = own_apart passes c'.place_of-place.result c'.put.new.pass c'.if-is_own.false were.own;
    }

pub returns-else-is_own-clause-same : goal.returns-else-is_own-clause-same
returns-else-is_own-clause-same c c' =
    rw (← c'.passes.view_is) (
      refl,
      refl,
      same_after (λ (p : PutPassView). p.splits) c'.passes.inside.puts.items c'.place_of-place.result c'.index_mut-pass.result.now c'.put.new.pass c'.index_mut-pass.ensures.value c'.put.ensures.same.1,
    )

pub returns-else-is_own-clause-put : goal.returns-else-is_own-clause-put
returns-else-is_own-clause-put c c' =
    let puts = c'.passes.inside.puts.items in
    let within = within_row puts c'.args.self.now.names c'.place_of-place.result (subst (λ (v : PassesView). ArePassesOf c'.args.self.now v) (sym c'.passes.view_is) c'.requires.passes).puts c'.place_of-place.ensures.within in
    rw (← c'.passes.view_is, ← c'.place_of-place.ensures.place) (on_ok_weaker c'.put.result (put_after puts c'.place_of-place.result c'.args.number c'.index_mut-pass.result.now c'.put.new.pass within c'.index_mut-pass.ensures.value) c'.put.ensures.put)

pub returns-else-is_own-clause-none : goal.returns-else-is_own-clause-none
returns-else-is_own-clause-none c c' =
    rw (← c'.passes.view_is)
    (on_err_weaker c'.put.result (same_after (λ (p : PutPassView). p.put) c'.passes.inside.puts.items c'.place_of-place.result c'.index_mut-pass.result.now c'.put.new.pass c'.index_mut-pass.ensures.value) c'.put.ensures.none)

pub returns-else-is_own-clause-no_room : goal.returns-else-is_own-clause-no_room
returns-else-is_own-clause-no_room c c' =
    let puts = c'.passes.inside.puts.items in
    let within = within_row puts c'.args.self.now.names c'.place_of-place.result (subst (λ (v : PassesView). ArePassesOf c'.args.self.now v) (sym c'.passes.view_is) c'.requires.passes).puts c'.place_of-place.ensures.within in
    rw (← c'.place_of-place.ensures.place) (on_err_weaker c'.put.result (block_after puts c'.place_of-place.result c'.put.new.pass within) c'.put.ensures.no_room)
