use Rattle.std.proofs.Common.{ℕ, List, ◌++◌, refl, ap, ◌∙◌}
use Rattle.hb_rules.specs.declared.report.Fate.TheVariants.{Memory}
use Rattle.actor_cell.proofs.Hearings.{moved_on}
use Rattle.last_deliveries.specs.Settling.{player_of}
use Rattle.last_deliveries.proofs.Players.{HasGoneOn-refl, HasGoneOn-then, HasGoneOn-fate, IsOfRun-memory}
use Rattle.last_deliveries.proofs.Catches.{left-falls, HasReceivedTo-seated}
use Rattle.last_deliveries.proofs.catching.hear_all.Goals as goal

pub restarts-init : goal.restarts-init
restarts-init g c =
    let b = g.B.Book in
    let a = g.A.Actor in
    record {
      seat = c.requires.seat;
      moved = g.met.B.Book.stays (b.node (a.seat c.args.player.now.actor)) (b.actor (a.seat c.args.player.now.actor)) c.args.book.now;
      of_run = c.requires.of_run;
      running = c.requires.running;
      went = HasGoneOn-refl (player_of b.config b.node b.actor b.seen a.seat a.view c.args.player.now);
      lacks = c.requires.lacks;
      unheard = λ none. (none, refl);
    }

pub restarts-preserved : goal.restarts-preserved
restarts-preserved g c =
    let b = g.B.Book in
    let a = g.A.Actor in
    let was = c.restarts.invariant in
    let handed = c.hand_over_all.ensures in
    let o = player_of b.config b.node b.actor b.seen a.seat a.view c.args.player.now in
    let p = player_of b.config b.node b.actor b.seen a.seat a.view c.restarts.player in
    record {
      seat = handed.seat;
      moved = moved_on b.moved g.met.B.Book.goes_on c.args.book.now c.restarts.book c.hand_over_all.new.book o p was.went.seat was.moved handed.moved;
      of_run = handed.of_run;
      running = handed.works c.restarts-test.true;
      went = HasGoneOn-then o p (player_of b.config b.node b.actor b.seen a.seat a.view c.hand_over_all.new.player) was.went handed.went;
      lacks = c.in-Ok.ensures;
      unheard = λ none.
          let still = handed.unheard none in
          let before = was.unheard still.0 in
          (before.0, still.1 ∙ before.1);
    }

pub restarts-smaller : goal.restarts-smaller
restarts-smaller g c =
    let b = g.B.Book in
    let a = g.A.Actor in
    left-falls (player_of b.config b.node b.actor b.seen a.seat a.view c.restarts.player) (player_of b.config b.node b.actor b.seen a.seat a.view c.hand_over_all.new.player)
    c.hand_over_all.ensures.went (c.hand_over_all.ensures.again c.restarts-test.true)

pub returns-clause-moved : goal.returns-clause-moved
returns-clause-moved g c =
    let b = g.B.Book in
    let a = g.A.Actor in
    let was = c.restarts.invariant in
    moved_on b.moved g.met.B.Book.goes_on c.args.book.now c.restarts.book c.hand_over_all.new.book (player_of b.config b.node b.actor b.seen a.seat a.view c.args.player.now)
    (player_of b.config b.node b.actor b.seen a.seat a.view c.restarts.player) was.went.seat was.moved c.hand_over_all.ensures.moved

pub returns-clause-went : goal.returns-clause-went
returns-clause-went g c =
    let b = g.B.Book in
    let a = g.A.Actor in
    HasGoneOn-then (player_of b.config b.node b.actor b.seen a.seat a.view c.args.player.now) (player_of b.config b.node b.actor b.seen a.seat a.view c.restarts.player)
    (player_of b.config b.node b.actor b.seen a.seat a.view c.hand_over_all.new.player) c.restarts.invariant.went c.hand_over_all.ensures.went

pub returns-clause-all : goal.returns-clause-all
returns-clause-all g c =
    let b = g.B.Book in
    let a = g.A.Actor in
    let p = player_of b.config b.node b.actor b.seen a.seat a.view c.restarts.player in
    let q = player_of b.config b.node b.actor b.seen a.seat a.view c.hand_over_all.new.player in
    λ running. HasReceivedTo-seated c.args.script.now c.args.posts.now p q c.restarts.numbers.items c.hand_over_all.ensures.went.seat c.restarts.invariant.lacks
    (c.hand_over_all.ensures.heard c.restarts-test.false running ∙ ap (λ (ks : List ℕ). p.view.got ++ ks) c.as_slice.ensures.value)

pub returns-clause-unheard : goal.returns-clause-unheard
returns-clause-unheard g c =
    λ none.
    let still = c.hand_over_all.ensures.unheard none in
    let before = c.restarts.invariant.unheard still.0 in
    (before.0, still.1 ∙ before.1)

pub returns-in-Err-clause-of_run : goal.returns-in-Err-clause-of_run
returns-in-Err-clause-of_run g c =
    let b = g.B.Book in
    let a = g.A.Actor in
    IsOfRun-memory c.args.script.now (player_of b.config b.node b.actor b.seen a.seat a.view c.hand_over_all.new.player) c.hand_over_all.ensures.of_run

pub returns-in-Err-clause-moved : goal.returns-in-Err-clause-moved
returns-in-Err-clause-moved g c =
    let b = g.B.Book in
    let a = g.A.Actor in
    let was = c.restarts.invariant in
    moved_on b.moved g.met.B.Book.goes_on c.args.book.now c.restarts.book c.hand_over_all.new.book (player_of b.config b.node b.actor b.seen a.seat a.view c.args.player.now)
    (player_of b.config b.node b.actor b.seen a.seat a.view c.restarts.player) was.went.seat was.moved c.hand_over_all.ensures.moved

pub returns-in-Err-clause-went : goal.returns-in-Err-clause-went
returns-in-Err-clause-went g c =
    let b = g.B.Book in
    let a = g.A.Actor in
    let o = player_of b.config b.node b.actor b.seen a.seat a.view c.args.player.now in
    let q = player_of b.config b.node b.actor b.seen a.seat a.view c.hand_over_all.new.player in
    HasGoneOn-fate o q Memory c.requires.running
    (HasGoneOn-then o (player_of b.config b.node b.actor b.seen a.seat a.view c.restarts.player) q c.restarts.invariant.went c.hand_over_all.ensures.went)

pub returns-in-Err-clause-unheard : goal.returns-in-Err-clause-unheard
returns-in-Err-clause-unheard g c =
    λ none.
    let still = c.hand_over_all.ensures.unheard none in
    let before = c.restarts.invariant.unheard still.0 in
    (before.0, still.1 ∙ before.1)
