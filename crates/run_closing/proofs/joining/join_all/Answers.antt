use Rattle.std.proofs.Common.{List, [], ◌∷◌, ◌++◌, sym, ap, ◌∙◌, subst, append_assoc}
use Rattle.std.specs.Vec.Iter.{into_iter_items}
use Rattle.std.proofs.lemmas.List.{map_push}
use Rattle.hb_rules.specs.Book.{SeatView}
use Rattle.post_book.specs.SharedSeats.{SharedView}
use Rattle.run_closing.specs.Joining.{seats_in, HasJoined}
use Rattle.run_closing.proofs.Joins.{IsTakenIn, HasJoined-more}
use Rattle.run_closing.proofs.joining.join_all.Goals as goal

pub loop-seat-preserved : goal.loop-seat-preserved
loop-seat-preserved g c =
    let taken : IsTakenIn g.K.Naming.config c.loop-seat.first c.join.new.first c.in-Some.seat.seat = record {
      joined = c.join.ensures.joined;
      longer = c.join.ensures.longer;
      before = c.join.ensures.both.0;
      begun = c.join.ensures.both.1;
      made = c.join.ensures.given;
      once = c.join.ensures.once;
    } in
    record {
      joined =
          subst (λ (seats : List SeatView). HasJoined g.K.Naming.config seats c.args.first.now c.join.new.first)
          (sym (map_push (λ (one : SharedView). one.seat) c.loop-seat.yielded c.in-Some.seat))
          (HasJoined-more g.K.Naming.config (seats_in c.loop-seat.yielded) c.args.first.now c.loop-seat.first c.join.new.first c.in-Some.seat.seat
          c.loop-seat.invariant.joined taken);
      split =
          append_assoc c.loop-seat.yielded (c.in-Some.seat ∷ []) (into_iter_items c.next.new.self)
          ∙ ap (λ (items : List SharedView). c.loop-seat.yielded ++ items) (sym c.in-Some.ensures.steps.0)
          ∙ c.loop-seat.invariant.split;
    }
