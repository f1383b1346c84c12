-- Places that are ready are a team, and the stage of a run that begins.
use Rattle.std.proofs.Common.{◌≡◌, ◌≢◌, ℕ, ◌<◌, ◌≤◌, ◌==◌, ◌^◌, ◌&&◌, ◌||◌, Bool, true, false, nat_lt, ltb-true, ltb-false, le-ltb, List, [], ◌∷◌, ◌++◌, length, All, AllPairs, Contains, Some, refl, sym, ap, ap₂, ◌∙◌, subst, arith, slice_get, get_or}
use Rattle.std.specs.List.{list_any}
use Rattle.std.proofs.lemmas.Bool.{eqb-true}
use Rattle.std.proofs.lemmas.List.{length-map}
use Rattle.std.proofs.lemmas.List.{map-append}
use Rattle.std.proofs.lemmas.List.Elements.{All-nil, All-cons, All-append, All-head, All-tail}
use Rattle.std.proofs.lemmas.List.Sums.{count_by-le-length}
use Rattle.std.proofs.lemmas.Bool.{lt-ltb}
use Rattle.disk_model.specs.Memory.{stops_after, supply_of, new_disk}
use Rattle.disk_model.specs.Supply.{Supply}
use Rattle.disk_model.specs.declared.plan.Stop.{Stop}
use Rattle.hb_wire.specs.declared.vote.Vote.{Vote}
use Rattle.std.proofs.lemmas.Option.{slice_get_within, get_or_from_slice_get, slice_get-map}
use Rattle.hb_base.specs.Numbers.{Numbers}
use Rattle.hb_base.specs.NodeSet.{is_in}
use Rattle.net_script.specs.declared.script.Script.{Script}
use Rattle.net_script.specs.declared.script.LiarAt.{LiarAt}
use Rattle.net_script.specs.Scenario.{told}
use Rattle.net_script.specs.Sound.{IsLiar, IsScenario}
use Rattle.hb_rules.specs.declared.report.Fate.{Fate}
use Rattle.hb_rules.specs.declared.report.Fate.TheVariants.{Running}
use Rattle.hb_rules.specs.Actor.{ActorView, budget}
use Rattle.hb_rules.specs.Hearing.{Hearing}
use Rattle.hb_rules.specs.Slots.{owed}
use Rattle.hb_rules.specs.Owing.{slots_of}
use Rattle.hb_rules.specs.Terms.{Terms, terms_of, is_proper}
use Rattle.hb_rules.specs.Report.{submitted_at, stops_of, faults_of}
use Rattle.hb_rules.specs.Book.{SeatView, IsSeatOf}
use Rattle.hb_rules.specs.BookLaws.{Watched-refl}
use Rattle.step_driver.specs.Places.{PlayerView, HiredView, Spot, correct, lying, Name, seat_of, name_of, names}
use Rattle.step_driver.specs.Delivering.{IsPlayer, IsSpot, IsStage}
use Rattle.step_driver.specs.Running.{IsTeam}
use Rattle.ledger_run.specs.Actors.{new_seat}
use Rattle.ledger_run.specs.Team.{planned_stops, names_below, IsReady, AreReady}
use Rattle.ledger_run.proofs.Plans.{planned_count, few_stops}
use Rattle.ledger_run.proofs.Names.{AreApart, is_team, few_names, names_apart}

-- ---- the nodes that lie are of the run

liar_known : (n a : ℕ) (liars : List LiarAt) → All (IsLiar n) liars → list_any (λ liar. liar.node == a) liars ≡ true → a < n
liar_known n a [] are some = absurd (cc (some))
liar_known n a (liar ∷ liars) are some = by (liar.node == a) refl some (liar_known n a liars (All-tail (IsLiar n) liar liars are))
  where
    by : (here : Bool) → (liar.node == a) ≡ here → (here || list_any (λ other. other.node == a) liars) ≡ true
        → (list_any (λ other. other.node == a) liars ≡ true → a < n) → a < n
    by true is some rest = subst (λ (node : ℕ). node < n) (eqb-true liar.node a is) (All-head (IsLiar n) liar liars are).node
    by false other later rest = rest later

pub liars_known : (s : Script) → IsScenario (told s) → (a : ℕ) → is_in s.config.liars a ≡ true → a < s.config.n
liars_known s scenario a lies = liar_known s.config.n a s.liars.items scenario.liars (sym (scenario.liars_lie a) ∙ lies)

-- ---- at a place

ready_at : (s : Script) (all : List Spot) (p : ℕ) (spot : Spot) → All (IsReady s) all → slice_get all p ≡ Some spot → IsReady s spot
ready_at s all p spot each stands =
    subst (IsReady s) (get_or_from_slice_get all p spot spot stands) (each p spot (slice_get_within all p spot stands))

is_seat : (s : Script) (spot : Spot) → IsReady s spot → IsSeatOf (record { config = s.config; posts = [] }) (seat_of spot)
is_seat s spot ready = subst (IsSeatOf (record { config = s.config; posts = [] })) (sym ready.seat) (record {
  config = refl;
  known = ready.known;
  watched = Watched-refl s.config (name_of spot).node (name_of spot).actor [];
})

named_at : (all : List Spot) (p : ℕ) (spot : Spot) → slice_get all p ≡ Some spot → slice_get (names all) p ≡ Some (name_of spot)
named_at all p spot stands = slice_get-map name_of all p ∙ rw stands refl

-- ---- no two places are of one actor

above : (p q : ℕ) → q ≤ p → p ≢ q → q < p
above p q low other = by (nat_lt q p) refl
  where
    by : (b : Bool) → nat_lt q p ≡ b → q < p
    by true is = ltb-true q p is
    by false is = absurd (other (omega (arith, low, ltb-false q p is)))

pair_at : (c : Numbers) (all : List Name) (p q : ℕ) (a b : Name) → AllPairs (AreApart c) all → slice_get all p ≡ Some a → slice_get all q ≡ Some b → p < q
    → AreApart c a b
pair_at c all p q a b apart at_p at_q before =
    subst (λ (x : Name). AreApart c x b) (get_or_from_slice_get all p a a at_p)
    (subst (λ (y : Name). AreApart c (get_or all p a) y) (get_or_from_slice_get all q b a at_q) (apart p q a before (slice_get_within all q b at_q)))

turned : (c : Numbers) (a b : Name) → AreApart c b a → AreApart c a b
turned c a b apart same =
    let two = apart (sym same) in
    (ap (λ (i : ℕ). is_in c.liars i) (sym same) ∙ two.0, λ is. two.1 (sym is))

apart_at : (s : Script) (all : List Spot) (p q : ℕ) (a b : Spot) → AreReady s (names_below s.config s.config.n) all
    → slice_get all p ≡ Some a → slice_get all q ≡ Some b → p ≢ q → AreApart s.config (name_of a) (name_of b)
apart_at s all p q a b ready at_p at_q other =
    by (nat_lt p q) refl
  where
    apart : AllPairs (AreApart s.config) (names all)
    apart = subst (AllPairs (AreApart s.config)) (sym ready.named) (names_apart s.config)

    by : (lower : Bool) → nat_lt p q ≡ lower → AreApart s.config (name_of a) (name_of b)
    by true lower = pair_at s.config (names all) p q (name_of a) (name_of b) apart (named_at all p a at_p) (named_at all q b at_q) (ltb-true p q lower)
    by false higher =
        turned s.config (name_of a) (name_of b)
        (pair_at s.config (names all) q p (name_of b) (name_of a) apart (named_at all q b at_q) (named_at all p a at_p)
        (above p q (ltb-false p q higher) other))

pub ready_team : (s : Script) (all : List Spot) → IsScenario (told s) → AreReady s (names_below s.config s.config.n) all → IsTeam s.config (names all)
ready_team s all scenario ready = subst (IsTeam s.config) (sym ready.named) (is_team s.config (liars_known s scenario))

pub ready_stage : (s : Script) (all : List Spot) → s.config.n ≤ 16 → AreReady s (names_below s.config s.config.n) all → IsStage s.config s 0 [] all
ready_stage s all few ready = record {
  few = omega (arith, length-map all name_of, ap length ready.named, few_names s.config few);
  seats = λ p spot stands. is_seat s spot (ready_at s all p spot ready.each stands);
  own = λ p spot stands. subst (λ (b : Bool). IsSpot s.config s b spot) (sym (le-ltb p 0 (omega arith))) (ready_at s all p spot ready.each stands).is;
  apart = λ p q a b at_p at_q other.
      let one = ready_at s all p a ready.each at_p in
      let two = ready_at s all q b ready.each at_q in
      rw (one.seat, two.seat) (apart_at s all p q a b ready at_p at_q other);
}

-- ---- one place

-- the terms of an actor owe what the script's submissions at its node make owed
abbrev pub OwesBy : Script → ℕ → ℕ → Terms → Type 0
OwesBy s i x t = (own : List Vote) (heard : List Hearing) → t.owed own heard ≡ owed (slots_of s.config (submitted_at s i) i x) own heard

-- and if it is a desk, its pool is of these submissions
abbrev pub PoolsBy : Script → ℕ → ℕ → Terms → Type 0
PoolsBy s i x t = x ≡ s.config.n → (own : List Vote) (vote : Vote) → t.proper own vote ≡ is_proper s.config (submitted_at s i) own vote

lane_owes : (c : Numbers) (submitted other : List (List ℕ)) (i x : ℕ) → x < c.n → slots_of c submitted i x ≡ slots_of c other i x
lane_owes c submitted other i x below = rw (lt-ltb x c.n below) refl

pub lane_owes_by : (s : Script) (i x : ℕ) → x < s.config.n → OwesBy s i x (terms_of s.config [] i x)
lane_owes_by s i x below own heard = ap (λ slots. owed slots own heard) (lane_owes s.config [] (submitted_at s i) i x below)

pub stops_few : (stops : List Stop) (calls : ℕ) → stops_after calls stops ≤ length stops
stops_few stops calls = count_by-le-length (λ (stop : Stop). nat_lt calls stop.call && nat_lt stop.call (2 ^ 32)) stops

-- an actor of a correct node that was never started, over the disk that is planned for it
abbrev pub first_player : Script → ℕ → ℕ → ActorView → PlayerView
first_player s i x view = record { seat = new_seat s.config i x; view = view; fate = Running }

first_is_player : (s : Script) (i x : ℕ) (view : ActorView) → IsScenario (told s) → is_in s.config.liars i ≡ false
    → OwesBy s i x view.terms → PoolsBy s i x view.terms → view.supply ≡ supply_of (new_disk (planned_stops s i x) (faults_of s i x))
    → view.fresh ≡ true → view.got ≡ [] → view.restarts ≡ 0 → IsPlayer s.config s false (first_player s i x view)
first_is_player s i x view scenario honest owes pools supply fresh got restarts = record {
  sound = record {
    honest = honest;
    owes = owes;
    proper = pools;
    planned = ap (λ (su : Supply). su.planned) supply;
    bound = few_of;
    few = omega (arith, few_of, few_stops s i x scenario);
    got = λ k has. absurd (omega (arith, (subst (λ (ks : List ℕ). Contains ks k) got has).1));
  };
  fate = fresh;
}
  where
    few_of : budget view.restarts view.supply ≤ stops_of s i x
    few_of =
        subst (λ (su : Supply). budget view.restarts su ≤ stops_of s i x) (sym supply)
        (omega (arith, restarts, stops_few (planned_stops s i x) 0, planned_count s i x))

pub new_is_player : (s : Script) (i x : ℕ) (p : PlayerView) → IsScenario (told s) → is_in s.config.liars i ≡ false
    → p.fate ≡ Running → p.seat ≡ new_seat s.config i x
    → OwesBy s i x p.view.terms → PoolsBy s i x p.view.terms → p.view.supply ≡ supply_of (new_disk (planned_stops s i x) (faults_of s i x))
    → p.view.fresh ≡ true → p.view.got ≡ [] → p.view.restarts ≡ 0 → IsPlayer s.config s false p
new_is_player s i x p scenario honest running seat owes pools supply fresh got restarts =
    subst (IsPlayer s.config s false)
    (ap₂ (λ (at : SeatView) (fate : Fate). record { seat = at; view = p.view; fate = fate }) (sym seat) (sym running))
    (first_is_player s i x p.view scenario honest owes pools supply fresh got restarts)

-- its place, where it is over the book of one thread
pub ready_player : (s : Script) (i x : ℕ) (p : PlayerView) → i < s.config.n → p.seat ≡ new_seat s.config i x → IsPlayer s.config s false p → IsReady s (correct p)
ready_player s i x p known seat player = record {
  known = subst (λ (at : SeatView). at.node < s.config.n) (sym seat) known;
  seat = seat ∙ ap (λ (at : SeatView). record { config = s.config; node = at.node; actor = at.actor; seen = [] }) (sym seat);
  is = player;
}

pub ready_liar : (s : Script) (a : ℕ) (h : HiredView) → a < s.config.n → is_in s.config.liars a ≡ true
    → h ≡ record { seat = record { config = s.config; node = a; actor = 255; seen = [] }; said = 0 } → IsReady s (lying h)
ready_liar s a h known lies is = rw is (record {
  known = known;
  seat = refl;
  is = record { liar = lies; said = refl; few = omega arith };
})

-- ---- one place more

pub ready_more : (s : Script) (wanted : List Name) (all : List Spot) (name : Name) (spot : Spot) → AreReady s wanted all → IsReady s spot → name_of spot ≡ name
    → AreReady s (wanted ++ name ∷ []) (all ++ spot ∷ [])
ready_more s wanted all name spot ready here is = record {
  named = map-append name_of all (spot ∷ []) ∙ ap₂ (λ (xs : List Name) (x : Name). xs ++ x ∷ []) ready.named is;
  each = All-append (IsReady s) all (spot ∷ []) ready.each (All-cons (IsReady s) spot [] here (All-nil (IsReady s)));
}
