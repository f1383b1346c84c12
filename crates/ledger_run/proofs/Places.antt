-- An actor that was just made, and its place.
use Rattle.std.proofs.Common.{◌≡◌, ◌==◌, ℕ, ◌<◌, Bool, true, false, List, [], ◌∷◌, map, filter, All, if◌then◌else◌, refl, sym, ap, ◌∙◌, subst}
use Rattle.std.specs.List.{AllByRecursion}
use Rattle.std.proofs.lemmas.List.Elements.{All-head, All-tail}
use Rattle.hb_base.specs.Limits.{IsTransaction}
use Rattle.hb_base.specs.Numbers.{Numbers}
use Rattle.hb_base.specs.NodeSet.{is_in}
use Rattle.hb_wire.specs.declared.post.Post.{Post}
use Rattle.disk_model.specs.Memory.{MemoryState, supply_of, new_disk}
use Rattle.net_script.specs.declared.script.Script.{Script}
use Rattle.net_script.specs.declared.script.Submit.{Submit}
use Rattle.net_script.specs.Scenario.{told}
use Rattle.net_script.specs.Sound.{IsSubmit, IsScenario}
use Rattle.hb_rules.specs.declared.report.Fate.TheVariants.{Running}
use Rattle.hb_rules.specs.Book.{SeatView}
use Rattle.hb_rules.specs.Report.{submitted_at, faults_of}
use Rattle.journaled_actor.specs.Kept.{ActorParts}
use Rattle.step_driver.specs.Places.{correct, player_view}
use Rattle.step_driver.specs.Delivering.{IsPlayer}
use Rattle.ledger_run.specs.declared.node_core.NodeCore.{NodeCore}
use Rattle.ledger_run.specs.Cores.{core_terms}
use Rattle.ledger_run.specs.Actors.{node_seat, node_view, seat_at, new_seat, running_at}
use Rattle.ledger_run.specs.Team.{planned_stops, IsReady}
use Rattle.ledger_run.proofs.Ready.{OwesBy, PoolsBy, new_is_player, ready_player}

-- over a seat that has seen nothing and the disk that is planned for it
pub actor_is_player : {S : Type 0} (config : S → Numbers) (node actor : S → ℕ) (seen : S → List Post) (s : Script) (i x : ℕ) (a : ActorParts S MemoryState NodeCore)
    (seat : S) (disk : MemoryState) (core : NodeCore)
    → a ≡ record { seat = seat; disk = disk; core = core; fresh = true; live = false; got = []; restarts = 0 }
    → IsScenario (told s) → is_in s.config.liars i ≡ false → seat_at config node actor seen seat ≡ new_seat s.config i x
    → disk ≡ new_disk (planned_stops s i x) (faults_of s i x) → OwesBy s i x (core_terms core) → PoolsBy s i x (core_terms core)
    → IsPlayer s.config s false (running_at config node actor seen a)
actor_is_player {S} config node actor seen s i x a seat disk core is scenario honest seat_is disk_is owes pools =
    new_is_player s i x (running_at config node actor seen a) scenario honest refl
    (ap (λ (b : ActorParts S MemoryState NodeCore). seat_at config node actor seen b.seat) is ∙ seat_is)
    (subst (λ (b : ActorParts S MemoryState NodeCore). OwesBy s i x (core_terms b.core)) (sym is) owes)
    (subst (λ (b : ActorParts S MemoryState NodeCore). PoolsBy s i x (core_terms b.core)) (sym is) pools)
    (ap (λ (b : ActorParts S MemoryState NodeCore). supply_of b.disk) is ∙ ap supply_of disk_is)
    (ap (λ (b : ActorParts S MemoryState NodeCore). b.fresh) is)
    (ap (λ (b : ActorParts S MemoryState NodeCore). b.got) is)
    (ap (λ (b : ActorParts S MemoryState NodeCore). b.restarts) is)

-- the place of an actor over the book of one thread
pub actor_ready : (s : Script) (i x : ℕ) (a : ActorParts SeatView MemoryState NodeCore) (seat : SeatView) → i < s.config.n
    → a.seat ≡ seat → seat ≡ new_seat s.config i x
    → IsPlayer s.config s false (player_view node_seat node_view (record { actor = a; fate = Running }))
    → IsReady s (correct (player_view node_seat node_view (record { actor = a; fate = Running })))
actor_ready s i x a seat known has is player =
    ready_player s i x (player_view node_seat node_view (record { actor = a; fate = Running })) known (has ∙ is) player

-- each transaction that a scenario submits is one that may be submitted
fit_in : (n i : ℕ) (submits : List Submit) → All (IsSubmit n) submits
    → AllByRecursion IsTransaction (map (λ (s : Submit). s.tx) (filter (λ (s : Submit). s.node == i) submits))
fit_in n i [] are = tt
fit_in n i (submit ∷ submits) are = by (submit.node == i) (fit_in n i submits (All-tail (IsSubmit n) submit submits are))
  where
    by : (b : Bool) → AllByRecursion IsTransaction (map (λ (s : Submit). s.tx) (filter (λ (s : Submit). s.node == i) submits))
        → AllByRecursion IsTransaction (map (λ (s : Submit). s.tx) (if b then submit ∷ filter (λ (s : Submit). s.node == i) submits else filter (λ (s : Submit). s.node == i) submits))
    by true rest = ((All-head (IsSubmit n) submit submits are).tx, rest)
    by false rest = rest

pub submitted_fit : (s : Script) (i : ℕ) → IsScenario (told s) → AllByRecursion IsTransaction (submitted_at s i)
submitted_fit s i scenario = fit_in s.config.n i s.submit.items scenario.submit
