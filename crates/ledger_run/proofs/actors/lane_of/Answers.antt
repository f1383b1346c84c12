use Rattle.std.proofs.Common.{◌≡◌, sym, ap, subst, arith, []}
use Rattle.hb_rules.specs.Terms.{terms_of}
use Rattle.lane_core.specs.Lane.{lane_terms}
use Rattle.ledger_run.specs.declared.node_core.NodeCore.TheVariants.{Lane}
use Rattle.ledger_run.specs.Cores.{core_terms}
use Rattle.ledger_run.proofs.Plans.{few_stops}
use Rattle.ledger_run.proofs.Ready.{OwesBy, lane_owes_by}
use Rattle.ledger_run.proofs.Places.{actor_is_player}
use Rattle.ledger_run.proofs.actors.lane_of.Goals as goal

pub disk_of-requires : goal.disk_of-requires
disk_of-requires g c = record { few = few_stops c.args.script.now c.args.node c.args.lane c.requires.scenario }

pub returns-clause-player : goal.returns-clause-player
returns-clause-player g c =
    let b = g.B.Book in
    let s = c.args.script.now in
    let terms : core_terms (Lane c.new-core.result) ≡ terms_of s.config [] c.args.node c.args.lane = ap lane_terms c.new-core.ensures.exact in
    actor_is_player b.config b.node b.actor b.seen s c.args.node c.args.lane c.new.result c.args.seat c.in_ok-disk.disk (Lane c.new-core.result) c.new.ensures
    c.requires.scenario c.requires.honest c.requires.seat c.in_ok-disk.ensures
    (subst (OwesBy s c.args.node c.args.lane) (sym terms) (lane_owes_by s c.args.node c.args.lane c.requires.lane))
    (λ is. absurd (omega (arith, is, c.requires.lane)))
