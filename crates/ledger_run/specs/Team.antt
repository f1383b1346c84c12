-- The places of a run before it begins. The letters: c is a config, s a script.
use Rattle.std.specs.Prelude.{◌≡◌, ℕ, ◌+◌, ◌<◌, ◌&&◌, ◌==◌, true, false, List, [], ◌∷◌, All, map, if◌then◌else◌}
use Rattle.std.specs.List.{flat_map, range_with_len}
use Rattle.hb_base.specs.Numbers.{Numbers}
use Rattle.hb_base.specs.NodeSet.{is_in}
use Rattle.disk_model.specs.declared.plan.Stop.{Stop}
use Rattle.net_script.specs.declared.script.Script.{Script}
use Rattle.step_driver.specs.Places.{Spot, Name, seat_of, name_of, names}
use Rattle.step_driver.specs.Delivering.{IsSpot}

-- ---- what is planned

-- the stops that are planned for the disk of actor x of node i, in the script's order
abbrev pub planned_stops : Script → ℕ → ℕ → List Stop
planned_stops s i x = flat_map (λ p. if (p.node == i) && (p.actor == x) then p.plan.stops.items else []) s.plans.items

-- ---- whose places there are

abbrev pub correct_name : ℕ → ℕ → Name
correct_name i x = record { node = i; actor = x; lies = false }

-- the seat of a node that lies is of the actor 255
abbrev pub lying_name : ℕ → Name
lying_name a = record { node = a; actor = 255; lies = true }

-- the places of node i: of each of its actors, or its one place where it lies
abbrev pub names_at : Numbers → ℕ → List Name
names_at c i = if is_in c.liars i then lying_name i ∷ [] else map (correct_name i) (range_with_len 0 (c.n + 1))

-- those of the nodes below k
abbrev pub names_below : Numbers → ℕ → List Name
names_below c k = flat_map (names_at c) (range_with_len 0 k)

-- ---- how they are at first

-- a place where nothing was posted and nothing seen yet, as the run asks for it
pub record IsReady (s : Script) (spot : Spot) : Type 0 where
  pub known : (name_of spot).node < s.config.n
  pub seat : seat_of spot ≡ record { config = s.config; node = (name_of spot).node; actor = (name_of spot).actor; seen = [] }
  pub is : IsSpot s.config s false spot

-- places with these names, each ready
pub record AreReady (s : Script) (wanted : List Name) (all : List Spot) : Type 0 where
  pub named : names all ≡ wanted
  pub each : All (IsReady s) all
