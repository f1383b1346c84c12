use Rattle.std.proofs.Common.{All, List, length, sum_by, sym, ap, ◌∙◌, subst, arith, rules}
use Rattle.std.specs.Vec.Iter.{into_iter_items}
use Rattle.std.proofs.lemmas.List.Elements.{All-nil}
use Rattle.std.proofs.lemmas.List.Sums.{sum_by_push}
use Rattle.step_driver.specs.declared.player.Player.{Player}
use Rattle.node_workers.specs.Rounds.{locks_of}
use Rattle.thread_team.specs.Returning.{IsOut, IsLiarOut}
use Rattle.thread_team.proofs.Rows.{gone_on, all_gone}
use Rattle.thread_team.proofs.returning.take_out.Goals as goal

pub loop-node-init : goal.loop-node-init
loop-node-init g c =
    let b = g.B.Book in
    let a = g.A.Actor in
    let none = ap length c.new.ensures.items in
    record {
      split = search rules;
      out = record {
        players =
            subst (λ (players : List (Player g.row.A.Denot)). All (IsOut (b.knows c.args.book.now) b.config b.node b.actor b.seen a.seat a.view c.args.script.now) players)
            (sym c.new.ensures.items) (All-nil (IsOut (b.knows c.args.book.now) b.config b.node b.actor b.seen a.seat a.view c.args.script.now));
        in_order = λ i j d low below. absurd (omega (arith, below, none));
        liars =
            subst (λ (liars : List g.row.B-Seat.Denot). All (IsLiarOut (b.knows c.args.book.now) b.config b.node b.actor b.seen c.args.script.now) liars)
            (sym c.new-2.ensures.items) (All-nil (IsLiarOut (b.knows c.args.book.now) b.config b.node b.actor b.seen c.args.script.now));
      };
      count = omega (arith, none, ap length c.new-2.ensures.items);
    }

pub returns-clause-count : goal.returns-clause-count
returns-clause-count g c =
    c.loop-node.invariant.count
    ∙ ap (sum_by locks_of)
    (all_gone c.loop-node.yielded (into_iter_items c.loop-node.node-iterator) c.args.nodes.items
    (omega (arith, c.in-None.ensures.steps.0, c.loop-node.node-iterator.rest.ok.0)) c.loop-node.invariant.split)

pub loop-node-preserved : goal.loop-node-preserved
loop-node-preserved g c = record {
  split =
      gone_on c.loop-node.yielded (into_iter_items c.loop-node.node-iterator) (into_iter_items c.next.new.self) c.args.nodes.items c.in-Some.node
      c.in-Some.ensures.steps.0 c.loop-node.invariant.split;
  out = c.in_ok-take_node.ensures.out;
  count = omega (arith, c.in_ok-take_node.ensures.count, sum_by_push locks_of c.loop-node.yielded c.in-Some.node, c.loop-node.invariant.count);
}
