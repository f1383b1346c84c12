use Rattle.std.proofs.Common.{List, refl, sym, subst}
use Rattle.hb_wire.specs.declared.post.Post.{Post}
use Rattle.hb_rules.specs.declared.report.Fate.TheVariants.{Memory}
use Rattle.last_deliveries.specs.Catching.{LacksNoOther}
use Rattle.last_deliveries.specs.Settling.{player_of}
use Rattle.last_deliveries.proofs.Players.{IsOfRun-memory, HasGoneOn-refl, HasGoneOn-fate}
use Rattle.last_deliveries.proofs.catching.receive.Goals as goal

pub returns-in-Err-clause-of_run : goal.returns-in-Err-clause-of_run
returns-in-Err-clause-of_run g c =
    let b = g.B.Book in
    let a = g.A.Actor in
    IsOfRun-memory c.args.script.now (player_of b.config b.node b.actor b.seen a.seat a.view c.args.player.now) c.requires.of_run

pub returns-in-Err-clause-went : goal.returns-in-Err-clause-went
returns-in-Err-clause-went g c =
    let b = g.B.Book in
    let a = g.A.Actor in
    let p = player_of b.config b.node b.actor b.seen a.seat a.view c.args.player.now in
    HasGoneOn-fate p p Memory c.requires.running (HasGoneOn-refl p)

pub returns-in-Err-clause-unheard : goal.returns-in-Err-clause-unheard
returns-in-Err-clause-unheard g c = λ none. (none, refl)

pub hear_all-requires-clause-lacks : goal.hear_all-requires-clause-lacks
hear_all-requires-clause-lacks g c κs within =
    let b = g.B.Book in
    let a = g.A.Actor in
    let seat = a.seat c.args.player.now.actor in
    subst (λ (posts : List Post). LacksNoOther c.args.script.now posts (b.node seat) (b.actor seat) (a.view c.args.player.now.actor).got c.in-Ok.numbers.items) (sym c.as_slice.ensures) c.in-Ok.ensures
