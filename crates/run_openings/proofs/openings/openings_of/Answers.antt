use Rattle.std.proofs.Common.{◌≡◌, length, ap, arith, length-append}
use Rattle.std.specs.Prelude.{sum_by}
use Rattle.std.proofs.lemmas.List.Sums.{sum_by_push}
use Rattle.post_book.specs.SharedSeats.{SharedView}
use Rattle.ledger_run.specs.Team.{names_below, names_at}
use Rattle.ledger_run.proofs.Steps.{below_more}
use Rattle.run_openings.specs.Opening.{IsNodeOpening, opening_names, places_of}
use Rattle.run_openings.proofs.Places.{all_pushed, all_names_pushed, places_named}
use Rattle.run_openings.proofs.openings.openings_of.Goals as goal

pub loop-node-preserved : goal.loop-node-preserved
loop-node-preserved g c =
    let conf = g.K.Naming.config in
    let i = c.loop-node.node in
    let boxes = c.args.boxes.now in
    let book = c.args.book.now in
    let opening = c.in_ok-opening.opening in
    record {
      made = c.in_ok-opening.ensures.made;
      openings =
          all_pushed (IsNodeOpening (λ (seat : SharedView). seat.book ≡ book) (λ (seat : SharedView). seat.seat) boxes conf) c.loop-node.openings.items
          c.push.new.self.items opening c.in_ok-push.ensures.items c.loop-node.invariant.openings c.in_ok-opening.ensures.opening;
      names = all_names_pushed conf i c.loop-node.openings.items c.push.new.self.items opening c.in_ok-push.ensures.items c.in_ok-opening.ensures.names c.loop-node.invariant.names;
      count = omega (
        arith,
        ap (sum_by places_of) c.in_ok-push.ensures.items,
        sum_by_push places_of c.loop-node.openings.items opening,
        c.loop-node.invariant.count,
        places_named conf i opening c.in_ok-opening.ensures.names,
        ap length (below_more conf i),
        length-append (names_below conf i) (names_at conf i),
      );
    }
