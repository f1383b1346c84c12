-- A lane that is started.
use Rattle.std.proofs.Common.{◌≡◌, ℕ, ◌<◌, true, false, List, [], ◌∷◌, Contains, get_or, length, refl, sym, ap, subst, arith}
use Rattle.std.proofs.lemmas.Bool.{lt-ltb}
use Rattle.hb_base.specs.Numbers.{Numbers}
use Rattle.hb_base.specs.NodeSet.{is_in}
use Rattle.disk_model.specs.Memory.{MemoryState, new_disk, supply_of}
use Rattle.net_script.specs.declared.script.Script.{Script}
use Rattle.hb_wire.specs.declared.post.Post.{Post}
use Rattle.hb_rules.specs.declared.report.Fate.TheVariants.{Running}
use Rattle.hb_rules.specs.Actor.{ActorView}
use Rattle.hb_rules.specs.Book.{SeatView}
use Rattle.hb_rules.specs.Report.{submitted_at, stops_of, faults_of}
use Rattle.hb_rules.specs.Slots.{owed}
use Rattle.hb_rules.specs.Owing.{slots_of}
use Rattle.journaled_actor.specs.Kept.{ActorParts, actor_view}
use Rattle.lane_core.specs.Lane.{LaneView, lane_terms}
use Rattle.step_driver.specs.Places.{PlayerView}
use Rattle.step_driver.specs.Delivering.{IsPlayer, IsSound}
use Rattle.atomic_blocks.specs.Laid.{WebId}
use Rattle.actor_cell.specs.Passes.{PassesView, AreDealt}

none_in : (ks : List ℕ) (k : ℕ) → ks ≡ [] → Contains ks k → ⊥
none_in ks k none stands = omega (arith, stands.1, ap length none)

lane_owes : (c : Numbers) (submitted other : List (List ℕ)) (i x : ℕ) → x < c.n → slots_of c submitted i x ≡ slots_of c other i x
lane_owes c submitted other i x below = rw (lt-ltb x c.n below) refl

-- what is known of lane 0 of node 0 with this disk before it is started, whatever its seat has seen
abbrev pub first_view : Script → MemoryState → ActorView
first_view s d = actor_view {S = SeatView} lane_terms supply_of (λ disk. disk.faults) (record {
  seat = record { config = s.config; node = 0; actor = 0; seen = [] };
  disk = d;
  core = record { config = s.config; node = 0; lane = 0; epochs = [] };
  fresh = true;
  live = false;
  got = [];
  restarts = 0;
})

no_stops : (s : Script) → s.plans.items ≡ [] → stops_of s 0 0 ≡ 0
no_stops s none = rw none refl

no_faults : (s : Script) → s.plans.items ≡ [] → faults_of s 0 0 ≡ []
no_faults s none = rw none refl

-- a player of lane 0 of node 0 before it is started
abbrev pub first_at : Script → MemoryState → Numbers → List Post → ℕ → ℕ → PlayerView
first_at s d c seen i x = record { seat = record { config = c; node = i; actor = x; seen = seen }; view = first_view s d; fate = Running }

first_sound : (s : Script) (c : Numbers) (seen : List Post) → s.plans.items ≡ [] → is_in s.config.liars 0 ≡ false → 0 < s.config.n → IsSound s.config s (first_at s (new_disk [] []) c seen 0 0)
first_sound s c seen plans honest known = record {
  honest = honest;
  owes = λ own heard. ap (λ slots. owed slots own heard) (lane_owes s.config [] (submitted_at s 0) 0 0 known);
  proper = λ is. absurd (omega (arith, is, known));
  planned = sym (no_faults s plans);
  bound = omega (arith, no_stops s plans);
  few = omega arith;
  got = λ k stands. absurd (none_in [] k refl stands);
}

pub first_player : (s : Script) (d : MemoryState) (c : Numbers) (seen : List Post) (i x : ℕ) → s.plans.items ≡ [] → is_in s.config.liars 0 ≡ false → 0 < s.config.n
    → d ≡ new_disk [] [] → i ≡ 0 → x ≡ 0 → IsPlayer s.config s false (first_at s d c seen i x)
first_player s d c seen i x plans honest known empty node actor =
    subst (λ (j : ℕ). IsPlayer s.config s false (first_at s d c seen j x)) (sym node)
    (subst (λ (y : ℕ). IsPlayer s.config s false (first_at s d c seen 0 y)) (sym actor)
    (subst (λ (e : MemoryState). IsPlayer s.config s false (first_at s e c seen 0 0)) (sym empty) (record { sound = first_sound s c seen plans honest known; fate = refl })))

-- ---- passes

pub first_place : (names : List WebId) (all : List PassesView) (d : PassesView) → AreDealt names all → 0 < length all → (get_or all 0 d).place ≡ 0
first_place names [] d dealt within = absurd (omega (arith, within))
first_place [] (p ∷ ps) d dealt within = let is = dealt.places in absurd (cc (is))
first_place (n ∷ ns) (p ∷ ps) d dealt within = let is = dealt.places in cc (is)
