use Rattle.std.proofs.Common.{◌<◌, ◌≤◌, length, refl, ◌∙◌, arith}
use Rattle.std.proofs.lemmas.List.Elements.{All-set}
use Rattle.hb_rules.specs.Book.{SeatView}
use Rattle.step_driver.specs.Places.{seat_at}
use Rattle.last_deliveries.specs.Settling.{seats_at, HasWatched}
use Rattle.last_deliveries.proofs.Players.{HasWatched-refl, HasWatched-then}
use Rattle.last_deliveries.proofs.Settles.{known_on, AllZip-served, AllWithin-served, served_count}
use Rattle.last_deliveries.proofs.Zips.{AllZip-refl}
use Rattle.last_deliveries.proofs.levels.highest.Goals as goal
use Rattle.last_deliveries.proofs.levels.highest.Goals.{then-count-most, else-count-most}

pub loop-number-init : goal.loop-number-init
loop-number-init g c =
    let b = g.B.Book in
    record {
      book = refl;
      seats = c.requires.seats;
      watched = AllZip-refl HasWatched HasWatched-refl (seats_at b.config b.node b.actor b.seen c.args.seats.now.items);
      least = omega arith;
      most = λ k d low below. absurd (omega (arith, below));
    }

pub loop-number-preserved : goal.loop-number-preserved
loop-number-preserved g c =
    let b = g.B.Book in
    let n = g.met.B.NamedBook in
    let items = c.loop-number.seats.items in
    let number = c.loop-number.number in
    let was = c.loop-number.invariant in
    let old = c.index_mut.result.now in
    let new = c.posts-count.new.seat in
    let looked = c.posts-count.ensures in
    let same = n.stays_named (b.node old) (b.actor old) c.loop-number.book c.posts-count.new.self looked.moved in
    let within : number < length items =
    omega (arith, c.loop-number-test.true, c.len-number-end.ensures, served_count HasWatched (seat_at b.config b.node b.actor b.seen) c.args.seats.now.items items was.watched) in
    let more : c.loop-number.most ≤ c.if-count-most.most =
    elim c.if-count-most.branch [ then-count-most w ↦ omega (arith, w.most-is, w.if-count-most.true) | else-count-most w ↦ omega (arith, w.most-is) ] in
    let count : c.posts-count.result ≤ c.if-count-most.most =
    elim c.if-count-most.branch [ then-count-most w ↦ omega (arith, w.most-is) | else-count-most w ↦ omega (arith, w.most-is, w.if-count-most.false) ] in
    record {
      book = same ∙ was.book;
      seats =
          All-set (λ seat. b.knows c.posts-count.new.self seat) items number new looked.seat
          (known_on b.knows (λ seat. seat) c.loop-number.book c.posts-count.new.self (λ seat known. n.by_name c.loop-number.book c.posts-count.new.self seat same known) items was.seats);
      watched =
          AllZip-served HasWatched HasWatched-then (seat_at b.config b.node b.actor b.seen) (seats_at b.config b.node b.actor b.seen c.args.seats.now.items) items number old new within
          c.index_mut.ensures.value was.watched (record { config = looked.same.0; node = looked.same.1; actor = looked.same.2; watched = looked.watched });
      least = omega (arith, was.least, more);
      most =
          AllWithin-served (λ (seat : SeatView). length seat.seen ≤ c.if-count-most.most) (seat_at b.config b.node b.actor b.seen) items number new within
          (λ k d low below. omega (arith, was.most k d low below, more)) (omega (arith, looked.count, count));
    }
