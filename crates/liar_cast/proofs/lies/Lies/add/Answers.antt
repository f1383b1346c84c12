use Rattle.std.proofs.Common.{◌<◌, sym, subst}
use Rattle.hb_base.specs.Limits.{most_lies}
use Rattle.liar_cast.specs.Lies.{LiesView}
use Rattle.liar_cast.proofs.LiesLemmas.{within_with_lie}
use Rattle.liar_cast.proofs.lies.Lies.add.Goals as goal

pub invariant_of-self-2 : goal.invariant_of-self-2
invariant_of-self-2 c =
    let lies : LiesView = record { node = c.self.inside.node; waiting = c.self.inside.waiting.items; taken = c.self.inside.taken } in
    let room : lies.taken < most_lies = subst (λ (view : LiesView). view.taken < most_lies) (sym c.self.view_is) c.requires.room in
    rw (c.in_ok-push.ensures.items, c.in_ok-bytes.ensures)
    (within_with_lie lies c.args.actor c.args.to c.args.bytes.now c.self.invariant room c.requires.short)
