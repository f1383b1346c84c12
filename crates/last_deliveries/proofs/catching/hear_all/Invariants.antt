use Rattle.std.proofs.Common.{◌≡◌}
use Rattle.hb_rules.specs.declared.report.Fate.TheVariants.{Running}
use Rattle.step_driver.specs.Places.{left}
use Rattle.last_deliveries.specs.Catching.{LacksNoOther}
use Rattle.last_deliveries.specs.Settling.{player_of, IsOfRun, HasGoneOn}
use Rattle.last_deliveries.proofs.catching.hear_all.Given as goal

-- it works, and lacks the posts with these numbers
abbrev pub invariant-restarts : goal.invariant-restarts
invariant-restarts g l =
    let b = g.B.Book in
    let a = g.A.Actor in
    record {
      seat : b.knows l.book (a.seat l.player.actor);
      moved : b.moved (b.node (a.seat l.fn.player.actor)) (b.actor (a.seat l.fn.player.actor)) l.fn.book l.book;
      of_run : IsOfRun l.script (player_of b.config b.node b.actor b.seen a.seat a.view l.player);
      running : l.player.fate ≡ Running;
      went : HasGoneOn (player_of b.config b.node b.actor b.seen a.seat a.view l.fn.player) (player_of b.config b.node b.actor b.seen a.seat a.view l.player);
      lacks : LacksNoOther l.script l.posts (b.node (a.seat l.player.actor)) (b.actor (a.seat l.player.actor)) (a.view l.player.actor).got l.numbers.items;
      unheard : l.deliveries ≡ 0 → (l.fn.deliveries ≡ 0) × (a.view l.player.actor ≡ a.view l.fn.player.actor);
    }

-- a restart uses up a stop
abbrev pub decreases-restarts : goal.decreases-restarts
decreases-restarts g l =
    let b = g.B.Book in
    let a = g.A.Actor in
    left (player_of b.config b.node b.actor b.seen a.seat a.view l.player)
