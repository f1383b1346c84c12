-- What holds of a world, and is kept by the changes that events make.
use Rattle.std.proofs.Common.{◌≡◌, ℕ, ◌<◌, ◌&&◌, ◌==◌, Bool, true, false, inl, List, [], ◌∷◌, ◌++◌, length, if◌then◌else◌, refl, sym, ap, ◌∙◌, subst, arith, append-nil, append_assoc}
use Rattle.std.specs.List.{AllByRecursion}
use Rattle.std.proofs.lemmas.Bool.{and_parts, and_from, eqb-true, eq-eqb, false_from_ne_true}
use Rattle.std.proofs.lemmas.List.Elements.{filter_map-append}
use Rattle.hb_base.specs.Limits.{most_posts}
use Rattle.hb_base.specs.NodeSet.{is_in}
use Rattle.hb_base.specs.Numbers.{Numbers, AreSound}
use Rattle.hb_wire.specs.declared.vote.To.{To}
use Rattle.hb_wire.specs.declared.vote.Vote.{Vote}
use Rattle.hb_wire.specs.declared.post.Post.{Post}
use Rattle.hb_wire.specs.Votes.{Spells, spelling}
use Rattle.hb_rules.specs.Book.{post_of, lie_of}
use Rattle.hb_rules.specs.Hearing.{is_by, vote_by, own_in, heard_of}
use Rattle.hb_rules.specs.History.{IsLegal}
use Rattle.hb_rules.specs.Keeping.{Covers, Turn}
use Rattle.hb_rules.specs.Ledger.{IsCorrect, IsPrefix}
use Rattle.hb_rules.specs.Same.{firsts}
use Rattle.hb_rules.specs.Terms.{Terms, terms_of, AreVotes, AreLawful, cast_in, heard_got}
use Rattle.hb_rules.proofs.Bytes.{HasBytes, spelling_spells, heard_bytes, owed_bytes}
use Rattle.hb_rules.proofs.Histories.{IsLegal-push}
use Rattle.hb_rules.proofs.Lawful.{terms_lawful}
use Rattle.hb_rules.proofs.Lists.{AllByRecursion-append, AllByRecursion-parts}
use Rattle.hb_rules.proofs.Received.{heard_spelled, got_heard}
use Rattle.hb_rules.proofs.Turns.{turn_begins, turn_after, turn_watched, turn_spelled, turn_allows, turn_next, turn_done, owed_votes, one_cast}
use Rattle.schedule_theorem.specs.Schedule.{AreSubmittable, ActorState, World, new_world, with_state, with_post, with_votes, with_owed, owed_by, with_got, with_pending, with_first, stopped}

-- ---- one actor

-- The votes that wait are the last of those that the actor keeps, and are being posted in their order; and the spellings of
-- all that it keeps consist of bytes.
pub record IsGoing (t : Terms) (history : List Post) (state : ActorState) : Type 0 where
  pub done : List Vote
  pub kept : state.kept ≡ done ++ state.pending
  pub turn : Turn t history done state.pending
  pub bytes : AllByRecursion HasBytes state.kept

going_first : (t : Terms) → IsGoing t [] (new_world.actors t.node t.actor)
going_first t = record {
  done = [];
  kept = refl;
  turn = turn_begins t [] [] (record {
    are = record { castable = tt; proper = tt; spelled = tt; rest = inl refl };
    posted = record { rest = []; is = refl };
  });
  bytes = tt;
}

going_got : (t : Terms) (history : List Post) (state : ActorState) (k : ℕ) → IsGoing t history state → IsGoing t history (with_got k state)
going_got t history state k going = record { done = going.done; kept = going.kept; turn = going.turn; bytes = going.bytes }

-- others posted
going_watched : (t : Terms) (old new : List Post) (state : ActorState) → IsPrefix old new → cast_in t new ≡ cast_in t old → IsGoing t old state
    → IsGoing t new state
going_watched t old new state prefix same going = record {
  done = going.done;
  kept = going.kept;
  turn = turn_watched t old new going.done state.pending prefix same going.turn;
  bytes = going.bytes;
}

-- it stopped
going_stopped : (t : Terms) (history : List Post) (state : ActorState) → IsGoing t history state → IsGoing t history (stopped state)
going_stopped t history state going = record {
  done = [];
  kept = refl;
  turn = turn_begins t history state.kept (subst (Covers t history) (sym going.kept) going.turn.covers);
  bytes = going.bytes;
}

-- where nothing waits, all votes that it keeps were cast
all_cast : (t : Terms) (history : List Post) (state : ActorState) → IsGoing t history state → state.pending ≡ []
    → AreVotes t history state.kept × (firsts (cast_in t history) ≡ state.kept)
all_cast t history state going none = (
  subst (AreVotes t history) (sym going.kept) going.turn.covers.are,
  turn_done t history going.done (subst (Turn t history going.done) none going.turn)
      ∙ sym (going.kept ∙ ap (λ (votes : List Vote). going.done ++ votes) none ∙ append-nil going.done),
)

-- it keeps what it owes
going_owed : (t : Terms) (history : List Post) (state : ActorState) (votes : List Vote) → IsGoing t history state → state.pending ≡ []
    → AreVotes t history (state.kept ++ votes) → AllByRecursion HasBytes votes → IsGoing t history (with_votes votes state)
going_owed t history state votes going none are bytes =
    let waits : state.pending ++ votes ≡ votes = ap (λ (front : List Vote). front ++ votes) none in
    record {
      done = state.kept;
      kept = ap (λ (more : List Vote). state.kept ++ more) (sym waits);
      turn = subst (Turn t history state.kept) (sym waits) (turn_after t history state.kept votes are (all_cast t history state going none).1);
      bytes = AllByRecursion-append HasBytes state.kept votes going.bytes bytes;
    }

-- the next vote was posted
going_posted : (t : Terms) (old new : List Post) (state : ActorState) (vote : Vote) (rest : List Vote) → IsPrefix old new
    → cast_in t new ≡ cast_in t old ++ vote ∷ [] → state.pending ≡ vote ∷ rest → IsGoing t old state → IsGoing t new (with_pending rest state)
going_posted t old new state vote rest prefix cast waits going = record {
  done = going.done ++ vote ∷ [];
  kept = going.kept ∙ ap (λ (votes : List Vote). going.done ++ votes) waits ∙ sym (append_assoc going.done (vote ∷ []) rest);
  turn = turn_next t old new going.done rest vote prefix cast (subst (Turn t old going.done) waits going.turn);
  bytes = going.bytes;
}

-- ---- all actors

pub record IsWorld (c : Numbers) (submitted : ℕ → List (List ℕ)) (w : World) : Type 0 where
  pub legal : IsLegal c w.history
  pub each : (i x : ℕ) → IsCorrect c i → IsGoing (terms_of c (submitted i) i x) w.history (w.actors i x)

pub world_begins : (c : Numbers) (submitted : ℕ → List (List ℕ)) → IsWorld c submitted new_world
world_begins c submitted = record {
  legal = record { short = omega arith; each = tt };
  each = λ i x correct. going_first (terms_of c (submitted i) i x);
}

-- one actor is in another state
world_with : (c : Numbers) (submitted : ℕ → List (List ℕ)) (w : World) (i x : ℕ) (state : ActorState) → IsLegal c w.history
    → IsGoing (terms_of c (submitted i) i x) w.history state
    → ((a y : ℕ) → ((a == i) && (y == x)) ≡ false → IsCorrect c a → IsGoing (terms_of c (submitted a) a y) w.history (w.actors a y))
    → IsWorld c submitted (with_state i x state w)
world_with c submitted w i x state legal here others = record { legal = legal; each = λ a y correct. by a y correct ((a == i) && (y == x)) refl }
  where
    by : (a y : ℕ) → IsCorrect c a → (b : Bool) → ((a == i) && (y == x)) ≡ b
        → IsGoing (terms_of c (submitted a) a y) w.history (if b then state else w.actors a y)
    by a y correct true same =
        let parts = and_parts (a == i) (y == x) same in
        subst (λ (z : ℕ). IsGoing (terms_of c (submitted a) a z) w.history state) (sym (eqb-true y x parts.1))
        (subst (λ (b : ℕ). IsGoing (terms_of c (submitted b) b x) w.history state) (sym (eqb-true a i parts.0)) here)
    by a y correct false other = others a y other correct

pub world_changed : (c : Numbers) (submitted : ℕ → List (List ℕ)) (w : World) (i x : ℕ) (state : ActorState) → IsWorld c submitted w
    → IsGoing (terms_of c (submitted i) i x) w.history state → IsWorld c submitted (with_state i x state w)
world_changed c submitted w i x state world here =
    world_with c submitted w i x state world.legal here (λ a y other correct. world.each a y correct)

-- ---- the events

pub world_stopped : (c : Numbers) (submitted : ℕ → List (List ℕ)) (w : World) (i x : ℕ) → IsCorrect c i → IsWorld c submitted w
    → IsWorld c submitted (with_state i x (stopped (w.actors i x)) w)
world_stopped c submitted w i x correct world =
    world_changed c submitted w i x (stopped (w.actors i x)) world
    (going_stopped (terms_of c (submitted i) i x) w.history (w.actors i x) (world.each i x correct))

-- an actor where nothing waits casts what it owes
world_cast : (c : Numbers) (submitted : ℕ → List (List ℕ)) (w : World) (i x : ℕ) (state : ActorState) → AreSound c → AreSubmittable submitted → IsCorrect c i
    → IsWorld c submitted w → IsGoing (terms_of c (submitted i) i x) w.history state → state.pending ≡ []
    → IsWorld c submitted (with_state i x (with_owed c submitted w.history i x state) w)
world_cast c submitted w i x state sound fit correct world going none =
    world_changed c submitted w i x (with_owed c submitted w.history i x state) world
    (going_owed t w.history state (owed_by c submitted w.history i x state) going none
    (owed_votes t w.history state.kept (heard_got t w.history state.got) lawful (all_cast t w.history state going none).0
    (heard_spelled c i x _) (got_heard t w.history state.got))
    (owed_bytes c sound (submitted i) i x correct.known state.kept (heard_of c i x w.history state.got) (heard_bytes c i x _)))
  where
    t : Terms
    t = terms_of c (submitted i) i x

    lawful : AreLawful (terms_of c (submitted i) i x)
    lawful = terms_lawful c sound (submitted i) (fit i).0 (fit i).1 i x correct.known

pub world_started : (c : Numbers) (submitted : ℕ → List (List ℕ)) (w : World) (i x : ℕ) → AreSound c → AreSubmittable submitted → IsCorrect c i
    → (w.actors i x).pending ≡ [] → IsWorld c submitted w
    → IsWorld c submitted (with_state i x (with_owed c submitted w.history i x (w.actors i x)) w)
world_started c submitted w i x sound fit correct none world =
    world_cast c submitted w i x (w.actors i x) sound fit correct world (world.each i x correct) none

pub world_heard : (c : Numbers) (submitted : ℕ → List (List ℕ)) (w : World) (i x k : ℕ) → AreSound c → AreSubmittable submitted → IsCorrect c i
    → (w.actors i x).pending ≡ [] → IsWorld c submitted w
    → IsWorld c submitted (with_state i x (with_owed c submitted w.history i x (with_got k (w.actors i x))) w)
world_heard c submitted w i x k sound fit correct none world =
    world_cast c submitted w i x (with_got k (w.actors i x)) sound fit correct world
    (going_got (terms_of c (submitted i) i x) w.history (w.actors i x) k (world.each i x correct)) none

-- a post of another actor
not_cast : (c : Numbers) (a y : ℕ) (history : List Post) (post : Post) → is_by a y post ≡ false → own_in c a y (history ++ post ∷ []) ≡ own_in c a y history
not_cast c a y history post others =
    let none : own_in c a y (post ∷ []) ≡ [] = rw others refl in
    filter_map-append (vote_by c a y) history (post ∷ []) ∙ ap (λ (votes : List Vote). own_in c a y history ++ votes) none ∙ append-nil (own_in c a y history)

one_post : (history : List Post) (post : Post) → IsPrefix history (history ++ post ∷ [])
one_post history post = record { rest = post ∷ []; is = refl }

pub world_lied : (c : Numbers) (submitted : ℕ → List (List ℕ)) (w : World) (a y : ℕ) (to : To) (bytes : List ℕ) → a < c.n → is_in c.liars a ≡ true
    → length w.history < most_posts → IsWorld c submitted w → IsWorld c submitted (with_post (lie_of a y to bytes) w)
world_lied c submitted w a y to bytes known liar room world = record {
  legal = IsLegal-push c w.history lie world.legal room (record { known = known; correct = λ honest. absurd (cc (honest, liar)) });
  each = λ i x correct.
      going_watched (terms_of c (submitted i) i x) w.history (w.history ++ lie ∷ []) (w.actors i x) (one_post w.history lie)
      (not_cast c i x w.history lie (not_of i x correct.honest)) (world.each i x correct);
}
  where
    lie : Post
    lie = lie_of a y to bytes

    not_of : (i x : ℕ) → is_in c.liars i ≡ false → is_by i x (lie_of a y to bytes) ≡ false
    not_of i x honest = false_from_ne_true (is_by i x (lie_of a y to bytes)) (λ by.
        let same : a ≡ i = eqb-true a i (and_parts (a == i) (y == x) by).0 in
        absurd (cc (honest, liar, ap (is_in c.liars) same)))

world_posted : (c : Numbers) (submitted : ℕ → List (List ℕ)) (w : World) (i x : ℕ) (vote : Vote) (rest : List Vote) → AreSound c → IsCorrect c i
    → length w.history < most_posts → (w.actors i x).pending ≡ vote ∷ rest → IsWorld c submitted w
    → IsWorld c submitted (with_state i x (with_pending rest (w.actors i x)) (with_post (post_of i x vote) w))
world_posted c submitted w i x vote rest sound correct room waits world =
    world_with c submitted (with_post post w) i x (with_pending rest (w.actors i x))
    (IsLegal-push c w.history post world.legal room (record {
      known = correct.known;
      correct = λ honest. record {
        vote = vote;
        spells = spells;
        address = refl;
        allowed = turn_allows t w.history going.done rest vote turn;
      };
    }))
    (going_posted t w.history (w.history ++ post ∷ []) (w.actors i x) vote rest (one_post w.history post) cast waits going)
    (λ a y other right.
    going_watched (terms_of c (submitted a) a y) w.history (w.history ++ post ∷ []) (w.actors a y) (one_post w.history post)
    (not_cast c a y w.history post (not_of a y other)) (world.each a y right))
  where
    t : Terms
    t = terms_of c (submitted i) i x

    post : Post
    post = post_of i x vote

    going : IsGoing (terms_of c (submitted i) i x) w.history (w.actors i x)
    going = world.each i x correct

    turn : Turn (terms_of c (submitted i) i x) w.history (world.each i x correct).done (vote ∷ rest)
    turn = subst (Turn (terms_of c (submitted i) i x) w.history (world.each i x correct).done) waits (world.each i x correct).turn

    bytes : HasBytes vote
    bytes = (AllByRecursion-parts HasBytes (world.each i x correct).done (vote ∷ rest)
        (subst (AllByRecursion HasBytes) ((world.each i x correct).kept ∙ ap (λ (votes : List Vote). (world.each i x correct).done ++ votes) waits)
        (world.each i x correct).bytes)).1.0

    spells : Spells c.n c.version (spelling vote) vote
    spells = spelling_spells c.n c.version vote sound.nodes.1 (turn_spelled (terms_of c (submitted i) i x) w.history (world.each i x correct).done rest vote turn) bytes

    cast : own_in c i x (w.history ++ post_of i x vote ∷ []) ≡ own_in c i x w.history ++ vote ∷ []
    cast = filter_map-append (vote_by c i x) w.history (post_of i x vote ∷ [])
        ∙ ap (λ (votes : List Vote). own_in c i x w.history ++ votes) (one_cast (terms_of c (submitted i) i x) vote spells)

    not_of : (a y : ℕ) → ((a == i) && (y == x)) ≡ false → is_by a y (post_of i x vote) ≡ false
    not_of a y other = false_from_ne_true (is_by a y (post_of i x vote)) (λ by.
        let parts = and_parts (i == a) (x == y) by in
        let same : ((a == i) && (y == x)) ≡ true =
        and_from (a == i) (y == x) (eq-eqb a i (sym (eqb-true i a parts.0))) (eq-eqb y x (sym (eqb-true x y parts.1))) in
        absurd (cc (other, same)))

pub world_first : (c : Numbers) (submitted : ℕ → List (List ℕ)) (w : World) (i x : ℕ) → AreSound c → IsCorrect c i → length w.history < most_posts
    → IsWorld c submitted w → IsWorld c submitted (with_first i x (w.actors i x).pending w)
world_first c submitted w i x sound correct room world = by (w.actors i x).pending refl
  where
    by : (votes : List Vote) → (w.actors i x).pending ≡ votes → IsWorld c submitted (with_first i x votes w)
    by [] none = world
    by (vote ∷ rest) waits = world_posted c submitted w i x vote rest sound correct room waits world
