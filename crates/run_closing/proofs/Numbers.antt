-- The numbers of the seats of a run.
use Rattle.std.proofs.Common.{◌≡◌, ℕ, ◌+◌, ◌<◌, ◌≤◌, Bool, true, false, List, [], map, None, Some, if◌then◌else◌, refl, sym, ap, subst, arith}
use Rattle.std.specs.Prelude.{All, Contains}
use Rattle.std.specs.List.{AllPairs, range_with_len}
use Rattle.std.proofs.lemmas.List.Elements.{All-nil, All-map, All-weaker, All-contains}
use Rattle.std.proofs.lemmas.List.FromFn.{length-range_with_len, get_or-range_with_len}
use Rattle.net_script.proofs.ListsOfLists.{all_flat_map, pairs_flat_map}
use Rattle.hb_base.specs.Numbers.{Numbers}
use Rattle.hb_base.specs.NodeSet.{is_in}
use Rattle.hb_rules.specs.Report.{actors}
use Rattle.hb_rules.proofs.Lists.{Contains-first, source_of}
use Rattle.post_book.specs.Numbering.{seat_number}
use Rattle.step_driver.specs.Running.{actor_of}
use Rattle.step_driver.proofs.Endings.{Contains-map, Contains-flat_map, node_stands}
use Rattle.ledger_run.specs.Team.{lying_name, names_at, names_below}
use Rattle.ledger_run.proofs.Names.{is_team}
use Rattle.run_closing.specs.Returning.{number_of}
use Rattle.run_closing.proofs.Among.{pairs_none, pairs_map}

-- ---- of two places

pub same_node : (i x a y : ℕ) → x < 256 → y < 256 → seat_number i x ≡ seat_number a y → i ≡ a
same_node i x a y small_x small_y is = omega (arith, small_x, small_y, is)

pub same_actor : (i x a y : ℕ) → x < 256 → y < 256 → seat_number i x ≡ seat_number a y → x ≡ y
same_actor i x a y small_x small_y is = omega (arith, small_x, small_y, is)

-- the number of an actor's seat is below that of another's
abbrev pub IsBelow : ℕ × ℕ → ℕ × ℕ → Type 0
IsBelow one other = seat_number one.0 one.1 < seat_number other.0 other.1

pub below_is_strict : (one other : ℕ × ℕ) → IsBelow one other → IsBelow other one → ⊥
below_is_strict one other less more = omega (arith, less, more)

-- ---- the actors of correct nodes

-- an actor of node i, which is correct
record IsActorOf (c : Numbers) (i : ℕ) (actor : ℕ × ℕ) : Type 0 where
  node : actor.0 ≡ i
  honest : is_in c.liars actor.0 ≡ false
  within : actor.1 ≤ c.n

-- an actor of a correct node
pub record IsActor (c : Numbers) (actor : ℕ × ℕ) : Type 0 where
  pub honest : is_in c.liars actor.0 ≡ false
  pub within : actor.1 ≤ c.n

abbrev actors_if : Numbers → ℕ → Bool → List (ℕ × ℕ)
actors_if c i lies = if lies then [] else map (λ x. (i, x)) (range_with_len 0 (c.n + 1))

abbrev actors_at : Numbers → ℕ → List (ℕ × ℕ)
actors_at c i = actors_if c i (is_in c.liars i)

of_node : (c : Numbers) (i : ℕ) (lies : Bool) → is_in c.liars i ≡ lies → All (IsActorOf c i) (actors_if c i lies)
of_node c i true is = All-nil (IsActorOf c i)
of_node c i false honest =
    All-map (IsActorOf c i) (λ (x : ℕ). (i, x)) (range_with_len 0 (c.n + 1)) (λ k d within. record {
      node = refl;
      honest = honest;
      within =
          let few : k < c.n + 1 = omega (arith, within, length-range_with_len 0 (c.n + 1)) in
          omega (arith, few, get_or-range_with_len 0 (c.n + 1) k d few);
    })

rise_at : (c : Numbers) (i : ℕ) (lies : Bool) → AllPairs IsBelow (actors_if c i lies)
rise_at c i true = pairs_none IsBelow
rise_at c i false =
    pairs_map IsBelow (λ (x : ℕ). (i, x)) (range_with_len 0 (c.n + 1)) (λ j k d before within.
    let few : k < c.n + 1 = omega (arith, within, length-range_with_len 0 (c.n + 1)) in
    let fewer : j < c.n + 1 = omega (arith, before, few) in
    omega (arith, before, get_or-range_with_len 0 (c.n + 1) j d fewer, get_or-range_with_len 0 (c.n + 1) k d few))

-- the numbers of their seats rise
pub actors_rise : (c : Numbers) → c.n ≤ 16 → AllPairs IsBelow (actors c)
actors_rise c few =
    pairs_flat_map (actors_at c) IsBelow 0 c.n (λ i low high. rise_at c i (is_in c.liars i))
    (λ i j before. All-weaker (IsActorOf c i) (λ one. All (IsBelow one) (actors_at c j))
    (λ one here. All-weaker (IsActorOf c j) (IsBelow one)
    (λ other there. omega (arith, here.node, here.within, there.node, before, few)) (actors_at c j) (of_node c j (is_in c.liars j) refl))
    (actors_at c i) (of_node c i (is_in c.liars i) refl))

pub is_actor : (c : Numbers) (actor : ℕ × ℕ) → Contains (actors c) actor → IsActor c actor
is_actor c actor stands =
    All-contains (IsActor c) (actors c) actor
    (all_flat_map (actors_at c) (IsActor c) 0 c.n (λ i low high.
    All-weaker (IsActorOf c i) (IsActor c) (λ one of. record { honest = of.honest; within = of.within })
    (actors_at c i) (of_node c i (is_in c.liars i) refl)))
    stands

-- ---- the numbers that are given out

actor_if : (lies : Bool) (named actor : ℕ × ℕ) → (if lies then None else Some named) ≡ Some actor → named ≡ actor
actor_if true named actor is = absurd (cc (is))
actor_if false named actor is = cc

-- each actor of a correct node has a seat
pub actor_given : (c : Numbers) → ((a : ℕ) → is_in c.liars a ≡ true → a < c.n) → (i x : ℕ) → Contains (actors c) (i, x)
    → Contains (map number_of (names_below c c.n)) (seat_number i x)
actor_given c known i x stands =
    let team = is_team c known in
    let source = source_of actor_of (names_below c c.n) (i, x)
    (subst (λ (all : List (ℕ × ℕ)). Contains all (i, x)) (sym team.correct) stands) in
    let name = source.element in
    let is : (name.node, name.actor) ≡ (i, x) = actor_if name.lies (name.node, name.actor) (i, x) source.gives in
    subst (λ (number : ℕ). Contains (map number_of (names_below c c.n)) number) (ap (λ (actor : ℕ × ℕ). seat_number actor.0 actor.1) is)
    (Contains-map number_of (names_below c c.n) name source.stands)

-- each node that lies has one
pub liar_given : (c : Numbers) (a : ℕ) → a < c.n → is_in c.liars a ≡ true → Contains (map number_of (names_below c c.n)) (seat_number a 255)
liar_given c a below lies =
    Contains-map number_of (names_below c c.n) (lying_name a)
    (Contains-flat_map (names_at c) (range_with_len 0 c.n) a (lying_name a) (node_stands c.n a below) there)
  where
    there : Contains (names_at c a) (lying_name a)
    there = rw lies (Contains-first (lying_name a) [])
