use Rattle.std.proofs.Common.{◌≡◌, ◌++◌, take}
use Rattle.hb_rules.specs.declared.report.Fate.TheVariants.{Running}
use Rattle.last_deliveries.specs.Settling.{player_of, IsOfRun, HasGoneOn}
use Rattle.last_deliveries.proofs.catching.hand_over_all.Given as goal

-- it works, has received the posts so far, and keeps what it had received
abbrev pub invariant-loop-k : goal.invariant-loop-k
invariant-loop-k g l =
    let b = g.B.Book in
    let a = g.A.Actor in
    record {
      seat : b.knows l.book (a.seat l.player.actor);
      moved : b.moved (b.node (a.seat l.fn.player.actor)) (b.actor (a.seat l.fn.player.actor)) l.fn.book l.book;
      of_run : IsOfRun l.script (player_of b.config b.node b.actor b.seen a.seat a.view l.player);
      running : l.player.fate ≡ Running;
      went : HasGoneOn (player_of b.config b.node b.actor b.seen a.seat a.view l.fn.player) (player_of b.config b.node b.actor b.seen a.seat a.view l.player);
      got : (a.view l.player.actor).got ≡ (a.view l.fn.player.actor).got ++ take l.k-index l.numbers;
      restarts : (a.view l.player.actor).restarts ≡ (a.view l.fn.player.actor).restarts;
      unheard : l.deliveries ≡ 0 → (l.fn.deliveries ≡ 0) × (a.view l.player.actor ≡ a.view l.fn.player.actor);
    }
