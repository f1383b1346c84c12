-- What is made of a number is a scenario.
use Rattle.std.proofs.Common.{◌≡◌, inl, ℕ, zero, suc, ◌+◌, ◌-◌, ◌*◌, ◌%◌, ◌<◌, ◌≤◌, true, false, [], ◌∷◌, map, length, All, AllPairs, refl, ap, ◌∙◌, arith, lit≤, length-append}
use Rattle.std.specs.List.{range_with_len}
use Rattle.std.proofs.Math.Nat.{mod-lt}
use Rattle.std.proofs.lemmas.List.{get_or-replicate, get_or-set_other}
use Rattle.std.proofs.lemmas.List.Elements.{All-nil, All-cons, All-append}
use Rattle.std.proofs.lemmas.List.FromFn.{length-map-range_with_len, get_or-map-range_with_len}
use Rattle.hb_base.specs.Limits.{most_nodes}
use Rattle.hb_base.specs.NodeSet.{is_in}
use Rattle.disk_model.specs.declared.plan.Stop.{Stop}
use Rattle.net_script.specs.Sound.{nodes_of}
use Rattle.net_script.proofs.Lying.{those_lie}
use Rattle.net_script.specs.Sound.{IsSubmit, IsLiar, AreApart, IsLink, IsNumbered, IsPlan, IsBefore, IsScenario}
use Rattle.seed_words.specs.Words.{word}
use Rattle.scenario_gen.specs.Generated.{nodes, faulty, first_liar, nodes_from, liar_marks, submit, liar, liars, stops_place, leave, dropped_from, twice_anywhere, late_anywhere, links, plan_of, plans, generated}

-- ---- what is made of each number

module _ {X : Type 0} (f : ℕ → X) where
  pub all_made : (P : X → Type 0) (a n : ℕ) → ((j : ℕ) → a ≤ j → j < a + n → P (f j)) → All P (map f (range_with_len a n))
  all_made P a zero each = All-nil P
  all_made P a (suc n) each =
      All-cons P (f a) (map f (range_with_len (a + 1) n)) (each a (omega arith) (omega arith))
      (all_made P (a + 1) n (λ j low high. each j (omega (arith, low)) (omega (arith, high))))

  pairs_made : (R : X → X → Type 0) (n : ℕ) → ((i j : ℕ) → i < j → j < n → R (f i) (f j)) → AllPairs R (map f (range_with_len 0 n))
  pairs_made R n each i j d before within =
      let long : length (map f (range_with_len 0 n)) ≡ n = length-map-range_with_len f 0 n in
      let below : j < n = omega (arith, within, long) in
      rw (get_or-map-range_with_len f 0 n i i d (omega (arith, before, below)) (omega arith), get_or-map-range_with_len f 0 n j j d below (omega arith))
      (each i j before below)

-- ---- submissions

submit_sound : (w : ℕ → ℕ) (n t : ℕ) → t < 64 * n → IsSubmit n (submit w t)
submit_sound w n t below = record { node = omega (arith, below); tx = (lit≤ tt, lit≤ tt) }

-- ---- nodes

-- a node before the first of those marked is not marked
not_marked : (first count node : ℕ) → node < most_nodes → node < first → is_in (nodes_from first count) node ≡ false
not_marked first zero node known before = get_or-replicate most_nodes node false false known
not_marked first (suc count) node known before =
    get_or-set_other (nodes_from first count) (first + count) node true false (λ same. absurd (omega (arith, before, same))) ∙ not_marked first count node known before

-- those marked are the nodes of the liars
marked : (w : ℕ → ℕ) (k : ℕ) → k < 7 → liar_marks (4 + k) ≡ nodes_of (liars (4 + k) w)
marked w zero below = refl
marked w (suc zero) below = refl
marked w (suc (suc zero)) below = refl
marked w (suc (suc (suc zero))) below = refl
marked w (suc (suc (suc (suc zero)))) below = refl
marked w (suc (suc (suc (suc (suc zero))))) below = refl
marked w (suc (suc (suc (suc (suc (suc zero)))))) below = refl
marked w (suc (suc (suc (suc (suc (suc (suc k))))))) below = absurd (omega (arith, below))

-- ---- plans

-- the stop of a node's plan
abbrev stop_by : (ℕ → ℕ) → ℕ → ℕ → Stop
stop_by w n node = let place = stops_place n + 3 * node in record { call = 1 + w (place + 1) % 40; leave = leave (w (place + 2) % 3) }

plan_sound : (w : ℕ → ℕ) (n node : ℕ) → 4 ≤ n → n ≤ 10 → node < first_liar n → IsPlan n (liar_marks n) (plan_of n w node)
plan_sound w n node some most before = record {
  node = omega (arith, before);
  correct = not_marked (first_liar n) (faulty n) node (omega (arith, most, before)) before;
  actor = let below : w (stops_place n + 3 * node) % (n + 1) < n + 1 = mod-lt (w (stops_place n + 3 * node)) (omega arith) in omega (arith, below);
  some = omega arith;
  stops = All-cons (λ (stop : Stop). IsNumbered stop.call) (stop_by w n node) [] (omega arith, omega arith) (All-nil (λ (stop : Stop). IsNumbered stop.call));
  few_stops = lit≤ tt;
  faults = All-nil IsNumbered;
  few_faults = lit≤ tt;
}

-- ---- the whole

pub generated_sound : (number : ℕ) → IsScenario (generated number)
generated_sound number =
    let w = word number 0 in
    let n = nodes w in
    let f = faulty n in
    let some : 4 ≤ n = omega arith in
    let most : n ≤ 10 = omega arith in
    let are_liars : All (IsLiar n) (liars n w) = all_made (liar n w) (IsLiar n) 0 f (λ j low high. record { node = omega (arith, some, high); hears = lit≤ tt }) in
    let lie : liar_marks n ≡ nodes_of (liars n w) = marked w (w 0 % 7) (omega arith) in
    record {
      workers = omega arith;
      submit = all_made (submit w) (IsSubmit n) 0 (64 * n) (λ t low high. submit_sound w n t (omega (arith, high)));
      liars = are_liars;
      few = omega (arith, length-map-range_with_len (liar n w) 0 f);
      apart = pairs_made (liar n w) AreApart f (λ i j before below same. absurd (omega (arith, before, same)));
      lie = lie;
      liars_lie = λ node. ap (λ set. is_in set node) lie ∙ those_lie n (liars n w) (omega (arith, most)) are_liars node;
      links = All-append (IsLink n) (map (dropped_from n) (range_with_len 0 f)) (twice_anywhere ∷ late_anywhere ∷ [])
          (all_made (dropped_from n) (IsLink n) 0 f (λ j low high. record { from = omega (arith, some, high); to = tt; every = (lit≤ tt, lit≤ tt); at = lit≤ tt }))
          (All-cons (IsLink n) twice_anywhere (late_anywhere ∷ []) (record { from = tt; to = tt; every = (lit≤ tt, lit≤ tt); at = lit≤ tt })
          (All-cons (IsLink n) late_anywhere [] (record { from = tt; to = tt; every = (lit≤ tt, lit≤ tt); at = lit≤ tt }) (All-nil (IsLink n))));
      few_links = omega (arith, most, length-append (map (dropped_from n) (range_with_len 0 f)) (twice_anywhere ∷ late_anywhere ∷ []), length-map-range_with_len (dropped_from n) 0 f);
      plans = all_made (plan_of n w) (IsPlan n (liar_marks n)) 0 (first_liar n) (λ node low high. plan_sound w n node some most (omega (arith, high)));
      in_order = pairs_made (plan_of n w) IsBefore (first_liar n) (λ i j before below. inl before);
    }
