-- What the plans of a run are, and their order.
use Rattle.std.proofs.Common.{◌≡◌, inl, inr, ℕ, ◌+◌, ◌<◌, ◌≤◌, ◌&&◌, Bool, true, false, List, [], ◌∷◌, length, flat_map, All, AllPairs, filter, if◌then◌else◌, refl, sym, ◌∙◌, arith}
use Rattle.std.specs.List.{range_with_len}
use Rattle.std.proofs.lemmas.List.{length-map}
use Rattle.std.proofs.lemmas.List.Elements.{All-nil, All-cons, All-map, All-filter, All-weaker}
use Rattle.std.proofs.lemmas.List.Sums.{length-filter}
use Rattle.hb_base.specs.NodeSet.{is_in}
use Rattle.net_script.proofs.ListsOfLists.{all_flat_map, pairs_flat_map}
use Rattle.script_reader.specs.declared.stops.StopAt.{StopAt}
use Rattle.script_reader.specs.declared.stops.CallAt.{CallAt}
use Rattle.script_reader.specs.Entries.{is_call_of, is_stop_of, stop_of}
use Rattle.net_script.specs.Scenario.{Planned}
use Rattle.script_reader.specs.Plans.{is_empty, entry_if, stops_of, faults_of, actor_plan, node_plans, plans_of}
use Rattle.net_script.specs.Sound.{IsNumbered, IsPlan, IsBefore}
use Rattle.script_reader.specs.Bounds.{IsCall, IsStop, AreFewStops, AreFewFaults}

-- ---- an actor's entry

-- the entry of this actor
abbrev IsOf : ℕ → ℕ → Planned → Type 0
IsOf node actor entry = (entry.node ≡ node) × (entry.actor ≡ actor)

abbrev entry_of : List StopAt → List CallAt → ℕ → ℕ → Planned
entry_of stops faults node actor = record { node = node; actor = actor; stops = stops_of stops node actor; faults = faults_of faults node actor }

-- what holds of an entry where something happens holds of the list that it gives
entry_holds : (P : Planned → Type 0) (plan : Planned) → ((is_empty plan.stops && is_empty plan.faults) ≡ false → P plan) → All P (entry_if plan)
entry_holds P plan holds = by (is_empty plan.stops && is_empty plan.faults) refl
  where
    by : (none : Bool) → (is_empty plan.stops && is_empty plan.faults) ≡ none → All P (if none then [] else plan ∷ [])
    by true is = All-nil P
    by false is = All-cons P plan [] (holds is) (All-nil P)

entry_alone : (plan : Planned) → AllPairs IsBefore (entry_if plan)
entry_alone plan = by (is_empty plan.stops && is_empty plan.faults)
  where
    by : (none : Bool) → AllPairs IsBefore (if none then [] else plan ∷ [])
    by true = λ i j d before within. absurd (omega (arith, before, within))
    by false = λ i j d before within. absurd (omega (arith, before, within))

some_stands : {A B : Type 0} (xs : List A) (ys : List B) → (is_empty xs && is_empty ys) ≡ false → 1 ≤ length xs + length ys
some_stands [] [] is = absurd (cc is)
some_stands [] (y ∷ ys) is = omega arith
some_stands (x ∷ xs) ys is = omega arith

module _ (n : ℕ) (liars : List Bool) (stops : List StopAt) (faults : List CallAt) where
  actor_is_of : (node actor : ℕ) → All (IsOf node actor) (actor_plan stops faults node actor)
  unfolding actor_plan
  actor_is_of node actor = entry_holds (IsOf node actor) (entry_of stops faults node actor) (λ some. (refl, refl))

  actor_alone : (node actor : ℕ) → AllPairs IsBefore (actor_plan stops faults node actor)
  unfolding actor_plan
  actor_alone node actor = entry_alone (entry_of stops faults node actor)

  -- ---- the order of all entries

  actors_in_order : (node : ℕ) → AllPairs IsBefore (flat_map (actor_plan stops faults node) (range_with_len 0 (n + 1)))
  actors_in_order node =
      pairs_flat_map (actor_plan stops faults node) IsBefore 0 (n + 1) (λ actor low high. actor_alone node actor)
      (λ a b before. All-weaker (IsOf node a) (λ x. All (IsBefore x) (actor_plan stops faults node b))
      (λ x here. All-weaker (IsOf node b) (IsBefore x) (λ y there. inr (here.0 ∙ sym there.0, omega (arith, before, here.1, there.1)))
      (actor_plan stops faults node b) (actor_is_of node b))
      (actor_plan stops faults node a) (actor_is_of node a))

  node_in_order : (node : ℕ) → AllPairs IsBefore (node_plans n liars stops faults node)
  unfolding node_plans
  node_in_order node = by (is_in liars node)
    where
      by : (lies : Bool) → AllPairs IsBefore (if lies then [] else flat_map (actor_plan stops faults node) (range_with_len 0 (n + 1)))
      by true = λ i j d before within. absurd (omega (arith, before, within))
      by false = actors_in_order node

  node_is_at : (node : ℕ) → All (λ entry. entry.node ≡ node) (node_plans n liars stops faults node)
  unfolding node_plans
  node_is_at node = by (is_in liars node)
    where
      by : (lies : Bool) → All (λ entry. entry.node ≡ node) (if lies then [] else flat_map (actor_plan stops faults node) (range_with_len 0 (n + 1)))
      by true = All-nil (λ entry. entry.node ≡ node)
      by false = all_flat_map (actor_plan stops faults node) (λ entry. entry.node ≡ node) 0 (n + 1)
          (λ actor low high. All-weaker (IsOf node actor) (λ entry. entry.node ≡ node) (λ entry is. is.0) (actor_plan stops faults node actor) (actor_is_of node actor))

  pub plans_in_order : AllPairs IsBefore (plans_of n liars stops faults)
  unfolding plans_of
  plans_in_order =
      pairs_flat_map (node_plans n liars stops faults) IsBefore 0 n (λ node low high. node_in_order node)
      (λ a b before. All-weaker (λ entry. entry.node ≡ a) (λ x. All (IsBefore x) (node_plans n liars stops faults b))
      (λ x here. All-weaker (λ entry. entry.node ≡ b) (IsBefore x) (λ y there. inl (omega (arith, before, here, there)))
      (node_plans n liars stops faults b) (node_is_at b))
      (node_plans n liars stops faults a) (node_is_at a))

  -- ---- what each entry is

  module _ (are_stops : All (IsStop n) stops) (are_faults : All (IsCall n) faults) (few_stops : AreFewStops stops) (few_faults : AreFewFaults faults) where
    actor_sound : (node actor : ℕ) → node < n → is_in liars node ≡ false → actor ≤ n → All (IsPlan n liars) (actor_plan stops faults node actor)
    unfolding actor_plan
    actor_sound node actor below correct known = entry_holds (IsPlan n liars) (entry_of stops faults node actor) (λ some. record {
      node = below;
      correct = correct;
      actor = known;
      some = some_stands (stops_of stops node actor) (faults_of faults node actor) some;
      stops = All-map (λ stop. IsNumbered stop.call) stop_of (filter (is_stop_of node actor) stops)
          (All-filter (is_stop_of node actor) (λ stop. IsNumbered stop.at.call) stops
          (All-weaker (IsStop n) (λ stop. IsNumbered stop.at.call) (λ stop is. is.call) stops are_stops));
      few_stops = omega (arith, length-map (filter (is_stop_of node actor) stops) stop_of, length-filter (is_stop_of node actor) stops, few_stops node actor);
      faults = All-map IsNumbered (λ (at : CallAt). at.call) (filter (is_call_of node actor) faults)
          (All-filter (is_call_of node actor) (λ at. IsNumbered at.call) faults
          (All-weaker (IsCall n) (λ at. IsNumbered at.call) (λ at is. is.call) faults are_faults));
      few_faults = omega (arith, length-map (filter (is_call_of node actor) faults) (λ (at : CallAt). at.call), length-filter (is_call_of node actor) faults, few_faults node actor);
    })

    node_sound : (node : ℕ) → node < n → All (IsPlan n liars) (node_plans n liars stops faults node)
    unfolding node_plans
    node_sound node below = by (is_in liars node) refl
      where
        by : (lies : Bool) → is_in liars node ≡ lies → All (IsPlan n liars) (if lies then [] else flat_map (actor_plan stops faults node) (range_with_len 0 (n + 1)))
        by true is = All-nil (IsPlan n liars)
        by false is = all_flat_map (actor_plan stops faults node) (IsPlan n liars) 0 (n + 1)
            (λ actor low high. actor_sound node actor below is (omega (arith, high)))

    pub plans_sound : All (IsPlan n liars) (plans_of n liars stops faults)
    unfolding plans_of
    plans_sound = all_flat_map (node_plans n liars stops faults) (IsPlan n liars) 0 n (λ node low high. node_sound node (omega (arith, high)))
