use Rattle.std.proofs.Common.{◌≡◌, ℕ, List}
use Rattle.hb_rules.specs.declared.report.Fate.TheVariants.{Running}
use Rattle.actor_cell.specs.Turning.{turning, HoldsBack}
use Rattle.actor_cell.proofs.held.Held.turn.Given as goal

-- the numbers that were taken so far are held back
abbrev pub invariant-loop : goal.invariant-loop
invariant-loop g l =
    let b = g.B.Book in
    let a = g.A.Actor in
    record {
      script : l.self.script ≡ l.fn.self.script;
      running : l.self.fate ≡ Running;
      moved : b.moved (b.node (a.seat l.fn.self.actor)) (b.actor (a.seat l.fn.self.actor)) l.fn.self.book l.self.book;
      held : (moved : List ℕ) × HoldsBack l.fn.self.script moved (turning b.config b.node b.actor b.seen a.seat a.view l.fn.self) (turning b.config b.node b.actor b.seen a.seat a.view l.self);
    }
