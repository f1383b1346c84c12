use Rattle.std.proofs.Common.{◌≡◌, ℕ, None, refl, sym, ap, ◌∙◌, subst, List}
use Rattle.std.specs.List.{AllByRecursion}
use Rattle.hb_base.specs.Limits.{IsTransaction}
use Rattle.hb_rules.specs.Terms.{terms_of}
use Rattle.hb_rules.specs.Report.{submitted_at, faults_of}
use Rattle.disk_model.specs.Memory.{new_disk}
use Rattle.desk_core.specs.Desk.{desk_terms}
use Rattle.ledger_run.specs.declared.node_core.NodeCore.TheVariants.{Desk}
use Rattle.ledger_run.specs.Cores.{core_terms}
use Rattle.ledger_run.specs.Team.{planned_stops}
use Rattle.ledger_run.proofs.Plans.{few_stops}
use Rattle.ledger_run.proofs.Ready.{OwesBy, PoolsBy}
use Rattle.ledger_run.proofs.Places.{actor_is_player, submitted_fit}
use Rattle.ledger_run.proofs.actors.desk_of.Goals as goal

pub disk_of-requires : goal.disk_of-requires
disk_of-requires g c = record { few = few_stops c.args.script.now c.args.node c.n.result c.requires.scenario }

pub new-core-requires-clause-fit : goal.new-core-requires-clause-fit
new-core-requires-clause-fit g c =
    subst (AllByRecursion IsTransaction) (sym c.in_ok-submitted.ensures.exact) (submitted_fit c.args.script.now c.args.node c.requires.scenario)

pub returns-clause-player : goal.returns-clause-player
returns-clause-player g c =
    let b = g.B.Book in
    let s = c.args.script.now in
    let desk : c.new-core.result ≡ record { config = s.config; node = c.args.node; submitted = submitted_at s c.args.node; epochs = None } =
    c.new-core.ensures
    ∙ ap (λ (txs : List (List ℕ)). record { config = s.config; node = c.args.node; submitted = txs; epochs = None }) c.in_ok-submitted.ensures.exact in
    let terms : core_terms (Desk c.new-core.result) ≡ terms_of s.config (submitted_at s c.args.node) c.args.node s.config.n = ap desk_terms desk in
    actor_is_player b.config b.node b.actor b.seen s c.args.node s.config.n c.new.result c.args.seat c.in_ok-disk.disk (Desk c.new-core.result) c.new.ensures
    c.requires.scenario c.requires.honest c.requires.seat
    (c.in_ok-disk.ensures ∙ ap (λ (x : ℕ). new_disk (planned_stops s c.args.node x) (faults_of s c.args.node x)) c.n.ensures.value)
    (subst (OwesBy s c.args.node s.config.n) (sym terms) (λ own heard. refl))
    (subst (PoolsBy s c.args.node s.config.n) (sym terms) (λ is own vote. refl))
