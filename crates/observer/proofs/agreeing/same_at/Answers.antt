use Rattle.std.proofs.Common.{◌∙◌}
use Rattle.acs_world.proofs.Prefixes.{same_shown}
use Rattle.observer.specs.Standing.{ledger_of}
use Rattle.observer.proofs.Places.{list_here}
use Rattle.observer.proofs.agreeing.same_at.Goals as goal

pub returns : goal.returns
returns c =
    c.eq.ensures
    ∙ same_shown (ledger_of c.args.observer.now) (ledger_of c.args.other.now) c.args.e c.list.result.now c.list-2.result.now
    (list_here (ledger_of c.args.observer.now) c.args.e c.list.result.now c.list.ensures.value c.list.ensures.shown)
    (list_here (ledger_of c.args.other.now) c.args.e c.list-2.result.now c.list-2.ensures.value c.list-2.ensures.shown)
