use Rattle.last_deliveries.specs.Settling.{player_of}
use Rattle.returned_players.proofs.Fronts.{ends_more, kept_more}
use Rattle.returned_players.proofs.ends.ends_of.Goals as goal

pub loop-number-preserved : goal.loop-number-preserved
loop-number-preserved g c =
    let b = g.B.Book in
    let view = player_of b.config b.node b.actor b.seen g.A.Actor.seat g.A.Actor.view in
    let all = c.args.players.now in
    let player = c.index-players-number.result in
    record {
      ends =
          ends_more view all c.loop-number.number player c.loop-number.ends.items c.push.new.self.items c.in_ok-end.end c.loop-number-test.true c.index-players-number.is
          c.in_ok-push.ensures.items c.loop-number.invariant.ends c.in_ok-end.ensures.end;
      kept =
          kept_more view all c.loop-number.number player c.loop-number-test.true c.index-players-number.is c.loop-number.invariant.kept
          c.in_ok-end.ensures.kept;
    }
