use Rattle.std.proofs.Common.{take}
use Rattle.hb_rules.specs.declared.report.Fate.TheVariants.{Running}
use Rattle.actor_cell.specs.Held.{player_at}
use Rattle.actor_cell.specs.Mail.{AreSent, deliveries}
use Rattle.actor_cell.specs.Turning.{IsShown}
use Rattle.actor_cell.proofs.sending.send_all.Given as goal

-- the numbers so far are put
abbrev pub invariant-loop-k : goal.invariant-loop-k
invariant-loop-k g l =
    let b = g.B.Book in
    let a = g.A.Actor in
    let s = l.script in
    record {
      seat : b.knows l.book (a.seat l.actor);
      moved : b.moved (b.node (a.seat l.fn.actor)) (b.actor (a.seat l.fn.actor)) l.fn.book l.book;
      shown : IsShown (player_at b.config b.node b.actor b.seen a.seat a.view l.fn.actor Running) (player_at b.config b.node b.actor b.seen a.seat a.view l.actor Running);
      sent : AreSent s.config (deliveries s.config s (b.seen (a.seat l.actor)) (take l.k-index l.numbers)) l.fn.mail l.mail;
    }
