-- The actors and the nodes that lie that came back are those of the run, each once.
use Rattle.std.proofs.Common.{◌≡◌, ◌≢◌, ℕ, ◌+◌, ◌<◌, ◌≤◌, inl, inr, true, List, length, map, sym, ap, ap₂, ◌∙◌, subst, arith, length-append}
use Rattle.std.specs.Prelude.{Contains}
use Rattle.std.specs.List.{AllPairs}
use Rattle.std.proofs.lemmas.List.{length-map}
use Rattle.std.proofs.lemmas.List.Elements.{All-map, All-contains, Contains-append_cases}
use Rattle.hb_base.specs.NodeSet.{is_in}
use Rattle.net_script.specs.declared.script.Script.{Script}
use Rattle.hb_rules.specs.Book.{SeatView}
use Rattle.hb_rules.specs.Report.{actors}
use Rattle.post_book.specs.Numbering.{IsPlace, seat_number}
use Rattle.post_book.specs.SharedSeats.{FirstView}
use Rattle.step_driver.specs.Places.{PlayerView}
use Rattle.step_driver.proofs.Endings.{Contains-map, actor_stands}
use Rattle.ledger_run.specs.Team.{names_below}
use Rattle.run_closing.specs.Joining.{number_at, HaveTwoNumbers, HasJoined}
use Rattle.run_closing.specs.Returning.{IsBack, IsLiarBack, HaveReturned, number_of, seats_of, HasSeated}
use Rattle.run_closing.proofs.Among.{IsImage, image_of, pairs_map, pairs_unmap, pairs_front, pairs_both, all_there, same_order}
use Rattle.run_closing.proofs.Numbers.{same_node, same_actor, IsBelow, below_is_strict, IsActor, actors_rise, is_actor, actor_given, liar_given}

-- whose an actor's seat is
abbrev pub actor_at : PlayerView → ℕ × ℕ
actor_at p = (p.seat.node, p.seat.actor)

-- a seat that has come back is of a place of the config, and has seen at most m posts
pub record IsSeatBack (s : Script) (m : ℕ) (seat : SeatView) : Type 0 where
  pub config : seat.config ≡ s.config
  pub node : seat.node < s.config.n
  pub place : IsPlace s.config seat.node seat.actor
  pub few : length seat.seen ≤ m

above : (one other : ℕ) → one ≤ other → one ≢ other → one < other
above one other low apart = omega arith

module _ (s : Script) (m : ℕ) (few : s.config.n ≤ 16) (players : List PlayerView) (liars : List SeatView) (back : HaveReturned s m players liars) where
  player_back : (p : PlayerView) → Contains players p → IsBack s p
  player_back p stands = All-contains (IsBack s) players p back.actors stands

  liar_back : (seat : SeatView) → Contains liars seat → IsLiarBack s seat
  liar_back seat stands = All-contains (IsLiarBack s) liars seat back.seats stands

  player_small : (p : PlayerView) → Contains players p → p.seat.actor < 256
  player_small p stands = omega (arith, (player_back p stands).actor, few)

  pub seat_back : (seat : SeatView) → Contains (seats_of players liars) seat → IsSeatBack s m seat
  seat_back seat stands = elim (Contains-append_cases (map (λ (p : PlayerView). p.seat) players) liars seat stands) [
    | inl among ↦
        let of = image_of (λ (p : PlayerView). p.seat) players seat among in
        let p = of.element in
        let is = player_back p of.stands in
        subst (IsSeatBack s m) of.is (record {
          config = is.config;
          node = is.node;
          place = record { small = player_small p of.stands; liar = λ lies. absurd (cc (sym lies ∙ is.player.sound.honest)) };
          few = All-contains (λ (q : PlayerView). length q.seat.seen ≤ m) players p back.settled.few of.stands;
        })
    | inr among ↦
        let is = liar_back seat among in
        record {
          config = is.config;
          node = is.node;
          place = record { small = omega (arith, is.actor); liar = λ lies. is.actor };
          few = All-contains (λ (one : SeatView). length one.seen ≤ m) liars seat back.settled.level among;
        }
  ]

  -- there are as many as were made
  pub as_many : (first : FirstView) → HasSeated s.config first → length (seats_of players liars) ≡ length first.given
  as_many first seated =
      length-append (map (λ (p : PlayerView). p.seat) players) liars
      ∙ ap (λ (k : ℕ). k + length liars) (length-map players (λ (p : PlayerView). p.seat))
      ∙ back.count
      ∙ sym (ap (λ (given : List ℕ). length given) seated.given ∙ length-map (names_below s.config s.config.n) number_of)

  module _ (first last : FirstView) (seated : HasSeated s.config first) (joined : HasJoined s.config (seats_of players liars) first last) where
    -- so the seat of each number that was given is among them
    seat_there : (number : ℕ) → Contains (map number_of (names_below s.config s.config.n)) number → IsImage number_at (seats_of players liars) number
    seat_there number given =
        image_of number_at (seats_of players liars) number
        (all_there (map number_at (seats_of players liars)) first.given
        (pairs_map (λ (a b : ℕ). a ≢ b) number_at (seats_of players liars) joined.apart)
        (All-map (Contains first.given) number_at (seats_of players liars) joined.made)
        (length-map (seats_of players liars) number_at ∙ as_many first seated) number
        (subst (λ (numbers : List ℕ). Contains numbers number) (sym seated.given) given))

    -- an actor of a correct node: no seat of a liar has its number
    actor_there : ((a : ℕ) → is_in s.config.liars a ≡ true → a < s.config.n) → (actor : ℕ × ℕ) → Contains (actors s.config) actor → Contains (map actor_at players) actor
    actor_there known actor stands =
        elim (Contains-append_cases (map (λ (p : PlayerView). p.seat) players) liars of.element of.stands) [
          | inl among ↦
              let player = image_of (λ (p : PlayerView). p.seat) players of.element among in
              let p = player.element in
              let small = player_small p player.stands in
              let number : seat_number p.seat.node p.seat.actor ≡ seat_number actor.0 actor.1 = ap number_at player.is ∙ of.is in
              subst (λ (one : ℕ × ℕ). Contains (map actor_at players) one)
              (two p.seat.node p.seat.actor (same_node p.seat.node p.seat.actor actor.0 actor.1 small within number)
              (same_actor p.seat.node p.seat.actor actor.0 actor.1 small within number))
              (Contains-map actor_at players p player.stands)
          | inr among ↦
              let liar = liar_back of.element among in
              let small : of.element.actor < 256 = omega (arith, liar.actor) in
              let node : of.element.node ≡ actor.0 = same_node of.element.node of.element.actor actor.0 actor.1 small within of.is in
              absurd (cc (sym liar.lies ∙ ap (λ (i : ℕ). is_in s.config.liars i) node ∙ is.honest))
        ]
      where
        is : IsActor s.config actor
        is = is_actor s.config actor stands

        within : actor.1 < 256
        within = omega (arith, is.within, few)

        of : IsImage number_at (seats_of players liars) (seat_number actor.0 actor.1)
        of = seat_there (seat_number actor.0 actor.1) (actor_given s.config known actor.0 actor.1 stands)

        two : (i x : ℕ) → i ≡ actor.0 → x ≡ actor.1 → ◌≡◌ {A = ℕ × ℕ} (i, x) (actor.0, actor.1)
        two i x node number = ap₂ (λ (a y : ℕ). (a, y)) node number

    -- the actors, in their order, are those of the correct nodes
    pub players_are : ((a : ℕ) → is_in s.config.liars a ≡ true → a < s.config.n) → map actor_at players ≡ actors s.config
    players_are known =
        same_order IsBelow below_is_strict (map actor_at players) (actors s.config)
        (pairs_map IsBelow actor_at players rise) (actors_rise s.config few) among (actor_there known)
      where
        rise : AllPairs (λ (p q : PlayerView). IsBelow (actor_at p) (actor_at q)) players
        rise =
            pairs_both (λ (p q : PlayerView). number_at p.seat ≤ number_at q.seat) (λ (p q : PlayerView). number_at p.seat ≢ number_at q.seat)
            (λ (p q : PlayerView). IsBelow (actor_at p) (actor_at q)) players
            (λ p q low other. above (number_at p.seat) (number_at q.seat) low other) back.in_order
            (pairs_unmap HaveTwoNumbers (λ (p : PlayerView). p.seat) players
            (pairs_front HaveTwoNumbers (map (λ (p : PlayerView). p.seat) players) liars joined.apart))

        among : (actor : ℕ × ℕ) → Contains (map actor_at players) actor → Contains (actors s.config) actor
        among actor stands =
            let of = image_of actor_at players actor stands in
            let is = player_back of.element of.stands in
            subst (λ (one : ℕ × ℕ). Contains (actors s.config) one) of.is
            (actor_stands s.config of.element.seat.node of.element.seat.actor is.node is.player.sound.honest is.actor)

    -- each node that lies has its seat: no actor's has its number
    pub liar_there : (a : ℕ) → a < s.config.n → is_in s.config.liars a ≡ true → IsImage (λ (seat : SeatView). seat.node) liars a
    liar_there a below lies =
        elim (Contains-append_cases (map (λ (p : PlayerView). p.seat) players) liars of.element of.stands) [
          | inl among ↦
              let player = image_of (λ (p : PlayerView). p.seat) players of.element among in
              let p = player.element in
              let node : p.seat.node ≡ a = same_node p.seat.node p.seat.actor a 255 (player_small p player.stands) (omega arith) (ap number_at player.is ∙ of.is) in
              absurd (cc (sym (player_back p player.stands).player.sound.honest ∙ ap (λ (i : ℕ). is_in s.config.liars i) node ∙ lies))
          | inr among ↦
              let small : of.element.actor < 256 = omega (arith, (liar_back of.element among).actor) in
              record { element = of.element; stands = among; is = same_node of.element.node of.element.actor a 255 small (omega arith) of.is }
        ]
      where
        of : IsImage number_at (seats_of players liars) (seat_number a 255)
        of = seat_there (seat_number a 255) (liar_given s.config a below lies)
