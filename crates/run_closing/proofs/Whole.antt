-- The report is of the run.
use Rattle.std.proofs.Common.{◌≡◌, ℕ, ◌<◌, ◌≤◌, inl, inr, Bool, true, false, nat_lt, List, [], ◌∷◌, ◌++◌, length, map, Some, refl, sym, ap, ◌∙◌, subst, arith, length-append, slice_get}
use Rattle.std.specs.Prelude.{Contains, count_by, filter_map}
use Rattle.std.specs.List.{AllPairs}
use Rattle.std.proofs.lemmas.Bool.{lt-ltb}
use Rattle.std.proofs.lemmas.List.{length-map}
use Rattle.std.proofs.lemmas.List.Elements.{All-append, All-map, All-contains, Contains-get_or, Contains-append_left, Contains-append_right}
use Rattle.std.proofs.lemmas.Option.{slice_get_within}
use Rattle.hb_base.specs.Numbers.{Numbers}
use Rattle.hb_base.specs.NodeSet.{is_in}
use Rattle.hb_wire.specs.declared.post.Post.{Post}
use Rattle.net_script.specs.declared.script.Script.{Script}
use Rattle.hb_rules.specs.declared.report.Fate.TheVariants.{Running, Full}
use Rattle.hb_rules.specs.Book.{SeatView, AreTwo, Watched, IsSeatOf}
use Rattle.hb_rules.specs.Report.{IsReceived}
use Rattle.hb_rules.proofs.Lists.{contains_at, at_contains}
use Rattle.post_book.specs.Numbering.{IsPlace}
use Rattle.post_book.specs.SharedSeats.{FirstView, AllJoined}
use Rattle.step_driver.specs.declared.run.Done.{Done}
use Rattle.step_driver.specs.Places.{PlayerView, Spot, correct, lying, seat_of, name_of, names}
use Rattle.step_driver.specs.Delivering.{IsSpot, IsStage, is_from}
use Rattle.step_driver.specs.Running.{IsTeam, HasPlace, actor_of, EndView, end_at, end_of, IsKept, IsKeptAt, report_of}
use Rattle.step_driver.proofs.Endings.{Contains-map, HasEnded, quiet, plan, full, rule}
use Rattle.last_deliveries.specs.Settling.{HasReceivedAll}
use Rattle.ledger_run.specs.Run.{IsRunOf}
use Rattle.ledger_run.proofs.Names.{few_names}
use Rattle.ledger_run.proofs.Ready.{liars_known}
use Rattle.ledger_run.proofs.Reports.{is_run}
use Rattle.run_closing.specs.Joining.{number_at, HaveTwoNumbers, HasJoined, HasClosedWith}
use Rattle.run_closing.specs.Returning.{IsBack, IsLiarBack, seats_of, AreEndsOf}
use Rattle.run_closing.specs.Closing.{IsRunOut}
use Rattle.run_closing.proofs.Among.{All-from_contains, pairs_unmap, pairs_at}
use Rattle.run_closing.proofs.Joins.{all_joined}
use Rattle.run_closing.proofs.Histories.{IsClosedOver, seat_watched, is_short, sees_all}
use Rattle.run_closing.proofs.Places.{actor_at, seat_back, as_many, players_are, liar_there}

-- ---- the places of the run, of what came back: the actors, and behind them the nodes that lie

-- a node that lies, with all lies that were posted under it
abbrev liar_at : SeatView → Spot
liar_at seat = lying (record { seat = seat; said = count_by (is_from seat.node) seat.seen })

abbrev spots_of : List PlayerView → List SeatView → List Spot
spots_of players liars = map correct players ++ map liar_at liars

seats_at : (players : List PlayerView) (liars : List SeatView) → map seat_of (spots_of players liars) ≡ seats_of players liars
seats_at [] [] = refl
seats_at [] (seat ∷ liars) = ap (λ (seats : List SeatView). seat ∷ seats) (seats_at [] liars)
seats_at (p ∷ players) liars = ap (λ (seats : List SeatView). p.seat ∷ seats) (seats_at players liars)

ends_at : (players : List PlayerView) (liars : List SeatView) → filter_map end_of (spots_of players liars) ≡ map end_at players
ends_at [] [] = refl
ends_at [] (seat ∷ liars) = ends_at [] liars
ends_at (p ∷ players) liars = ap (λ (ends : List EndView). end_at p ∷ ends) (ends_at players liars)

actors_at : (players : List PlayerView) (liars : List SeatView) → filter_map actor_of (names (spots_of players liars)) ≡ map actor_at players
actors_at [] [] = refl
actors_at [] (seat ∷ liars) = actors_at [] liars
actors_at (p ∷ players) liars = ap (λ (all : List (ℕ × ℕ)). actor_at p ∷ all) (actors_at players liars)

-- ---- all are there

module _ (s : Script) (m : ℕ) (players : List PlayerView) (liars : List SeatView) (first : FirstView) (out : IsRunOut s m players liars first) where
  few_nodes : s.config.n ≤ 16
  few_nodes = out.sound.nodes.1

  pub many : length (seats_of players liars) ≡ length first.given
  many = as_many s m few_nodes players liars out.returned first out.seated

  few_places : length (spots_of players liars) ≤ 272
  few_places =
      omega (
        arith,
        length-append (map correct players) (map liar_at liars),
        length-map players correct,
        length-map liars liar_at,
        out.returned.count,
        few_names s.config few_nodes,
      )

module _ (s : Script) (m : ℕ) (players : List PlayerView) (liars : List SeatView) (first last : FirstView) (out : IsRunOut s m players liars first)
    (joined : HasJoined s.config (seats_of players liars) first last) where
  few : s.config.n ≤ 16
  few = out.sound.nodes.1

  pub all_in : AllJoined last
  all_in = all_joined s.config (seats_of players liars) first last joined (many s m players liars first out)

  -- ---- whose places they are

  team : IsTeam s.config (names (spots_of players liars))
  team = record {
    correct = actors_at players liars ∙ players_are s m few players liars out.returned first last out.seated joined (liars_known s out.scenario);
    liars = place_of;
  }
    where
      place_of : (a : ℕ) → is_in s.config.liars a ≡ true → HasPlace (names (spots_of players liars)) a
      place_of a lies =
          let of = liar_there s m few players liars out.returned first last out.seated joined a (liars_known s out.scenario a lies) lies in
          let spot = liar_at of.element in
          let among : Contains (names (spots_of players liars)) (name_of spot) =
          Contains-map name_of (spots_of players liars) spot
          (Contains-append_right (map correct players) (map liar_at liars) spot (Contains-map liar_at liars of.element of.stands)) in
          let at = contains_at (names (spots_of players liars)) (name_of spot) among in
          record { place = at.0; name = name_of spot; stands = at.1; lies = refl; node = of.is }

-- ---- what is known of one place

-- what is known of one: it has come back, and an actor has told of itself what it has to
abbrev IsSpotBack : Script → List PlayerView → Spot → Type 0
IsSpotBack s players (correct p) = Contains players p × IsBack s p × IsKept p
IsSpotBack s players (lying h) = IsLiarBack s h.seat × (count_by (is_from h.seat.node) h.seat.seen ≡ h.said)

spot_of : (s : Script) (players : List PlayerView) (spot : Spot) → IsSpotBack s players spot → IsSpot s.config s true spot
spot_of s players (correct p) back = back.1.player
spot_of s players (lying h) back = record { liar = back.0.lies; said = back.1; few = omega (arith, back.1, back.0.few) }

kept_of : (s : Script) (players : List PlayerView) (spot : Spot) → IsSpotBack s players spot → IsKeptAt spot
kept_of s players (correct p) back = back.2
kept_of s players (lying h) back = tt

-- two numbers are of two seats: a liar's node has one alone
two_of : (s : Script) (players : List PlayerView) (one other : Spot) → IsSpotBack s players one → IsSpotBack s players other → HaveTwoNumbers (seat_of one) (seat_of other)
    → AreTwo s.config (seat_of one).node (seat_of one).actor (seat_of other).node (seat_of other).actor
two_of s players one other one_back other_back apart same =
    (honest one other one_back other_back apart same, λ is. apart (number_same (seat_of one) (seat_of other) same is))
  where
    number_same : (seat seat' : SeatView) → seat'.node ≡ seat.node → seat'.actor ≡ seat.actor → number_at seat ≡ number_at seat'
    number_same seat seat' node actor = omega (arith, node, actor)

    honest : (a b : Spot) → IsSpotBack s players a → IsSpotBack s players b → HaveTwoNumbers (seat_of a) (seat_of b) → (seat_of b).node ≡ (seat_of a).node
        → is_in s.config.liars (seat_of a).node ≡ false
    honest (correct p) b a_back b_back two is = a_back.1.player.sound.honest
    honest (lying h) (correct p) a_back b_back two is = ap (λ (i : ℕ). is_in s.config.liars i) (sym is) ∙ b_back.1.player.sound.honest
    honest (lying h) (lying g) a_back b_back two is = absurd (two (number_same h.seat g.seat is (b_back.0.actor ∙ sym a_back.0.actor)))

-- ---- all together

module _ (s : Script) (m : ℕ) (players : List PlayerView) (liars : List SeatView) (first : FirstView) (done : Done) (out : IsRunOut s m players liars first)
    (with_all : HasClosedWith s.config (seats_of players liars) first done.history.items) (ends : AreEndsOf players done.ends.items) where
  abbrev all : List Spot
  all = spots_of players liars

  least : s.config.n ≤ 16
  least = out.sound.nodes.1

  over : IsClosedOver s.config (seats_of players liars) first with_all.last done.history.items
  over = record {
    none = out.seated.joined;
    joined = with_all.joined;
    places = All-from_contains (λ (seat : SeatView). IsPlace s.config seat.node seat.actor) (seats_of players liars)
        (λ seat stands. (seat_back s m least players liars out.returned seat stands).place);
    all = all_in s m players liars first with_all.last out with_all.joined;
    closed = with_all.closed;
  }

  short : length done.history.items ≤ m
  short =
      is_short s.config (seats_of players liars) first with_all.last done.history.items over m out.seated.seen
      (All-from_contains (λ (seat : SeatView). length seat.seen ≤ m) (seats_of players liars)
      (λ seat stands. (seat_back s m least players liars out.returned seat stands).few))

  spot_back : (p : ℕ) (spot : Spot) → slice_get all p ≡ Some spot → IsSpotBack s players spot
  spot_back p spot stands =
      All-contains (IsSpotBack s players) all spot
      (All-append (IsSpotBack s players) (map correct players) (map liar_at liars)
      (All-map (IsSpotBack s players) correct players (λ k d within. (Contains-get_or players k d within, out.returned.actors k d within, ends.kept k d within)))
      (All-map (IsSpotBack s players) liar_at liars (λ k d within. (out.returned.seats k d within, refl))))
      (at_contains all p spot stands)

  seat_is : (p : ℕ) (spot : Spot) → slice_get all p ≡ Some spot → IsSeatOf (record { config = s.config; posts = done.history.items }) (seat_of spot)
  seat_is p spot stands =
      let seat = seat_of spot in
      let among : Contains (seats_of players liars) seat =
      subst (λ (seats : List SeatView). Contains seats seat) (seats_at players liars) (Contains-map seat_of all spot (at_contains all p spot stands)) in
      let back = seat_back s m least players liars out.returned seat among in
      record {
        config = back.config;
        known = subst (λ (c : Numbers). seat.node < c.n) (sym back.config) back.node;
        watched =
            subst (λ (c : Numbers). Watched c seat.node seat.actor seat.seen done.history.items) (sym back.config)
            (seat_watched s.config (seats_of players liars) first with_all.last done.history.items over seat among);
      }

  below_all : (p : ℕ) (spot : Spot) → slice_get all p ≡ Some spot → nat_lt p (length all) ≡ true
  below_all p spot stands = lt-ltb p (length all) (slice_get_within all p spot stands)

  stage : IsStage s.config s (length all) done.history.items all
  stage = record {
    few = few_places s m players liars first out;
    seats = seat_is;
    own = λ p spot stands. subst (λ (b : Bool). IsSpot s.config s b spot) (sym (below_all p spot stands)) (spot_of s players spot (spot_back p spot stands));
    apart = λ p q one other at_p at_q differ.
        two_of s players one other (spot_back p one at_p) (spot_back q other at_q)
        (pairs_at (λ (a b : Spot). HaveTwoNumbers (seat_of a) (seat_of b)) (λ a b two same. two (sym same)) all p q one other
        (pairs_unmap HaveTwoNumbers seat_of all (subst (AllPairs HaveTwoNumbers) (sym (seats_at players liars)) with_all.joined.apart)) at_p at_q differ);
  }

  -- what an actor that works has received of posts that some actor has seen is all that comes to it of the history
  received : (p : PlayerView) → Contains players p → p.fate ≡ Running → (k : ℕ) → IsReceived s.config s done.history.items p.seat.node p.seat.actor k
      → Contains p.view.got k
  received p stands running k comes = elim out.returned.settled.all [
    | inl settled ↦
        let q = settled.shown.player in
        let among : Contains (seats_of players liars) q.seat =
        Contains-append_left (map (λ (r : PlayerView). r.seat) players) liars q.seat (Contains-map (λ (r : PlayerView). r.seat) players q settled.shown.stands) in
        let whole : done.history.items ≡ q.seat.seen =
        sees_all s.config (seats_of players liars) first with_all.last done.history.items over m q.seat among short
        (ap (λ (posts : List Post). length posts) settled.shown.seen ∙ settled.count) in
        (All-contains (λ (r : PlayerView). r.fate ≡ Running → HasReceivedAll s settled.posts r) players p settled.each stands running).received k
        (subst (λ (posts : List Post). IsReceived s.config s posts p.seat.node p.seat.actor k) (whole ∙ settled.shown.seen) comes)
    | inr ended ↦ absurd (cc (sym running ∙ All-contains (λ (r : PlayerView). r.fate ≡ Full) players p ended stands))
  ]

  ended : HasEnded s.config s done.history.items all
  ended = record {
    team = team s m players liars first with_all.last out with_all.joined;
    stage = stage;
    supplied = record { each = λ p k player always stands running comes. inl (received player (spot_back p (correct player) stands).0 running k comes) };
    kept = record { each = λ p spot below stands. kept_of s players spot (spot_back p spot stands) };
    legal = with_all.closed.legal;
  }

  pub is_run_of : IsRunOf s (report_of s.config s done)
  is_run_of =
      let same = ends.same ∙ sym (ends_at players liars) in
      is_run s done with_all.closed.legal (quiet all s.config s done ended same) (plan all s.config s done ended same) (rule all s.config s done ended)
      (full all s.config s done ended same)
