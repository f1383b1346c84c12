-- What holds when nothing is left to do.
use Rattle.std.proofs.Common.{◌≡◌, ℕ, zero, suc, ◌+◌, ◌<◌, ◌≤◌, ◌==◌, Bool, true, false, inl, inr, List, [], ◌∷◌, ◌++◌, length, map, Contains, Some, if◌then◌else◌, refl, sym, ap, ◌∙◌, subst, arith, length-append, rules, slice_get}
use Rattle.std.specs.Prelude.{nat_lt, count_by, filter_map}
use Rattle.std.specs.List.{flat_map, range_with_len}
use Rattle.std.proofs.lemmas.Bool.{cases_lt, and_parts, eqb-true, false_from_ne_true}
use Rattle.std.proofs.lemmas.Option.{slice_get_within}
use Rattle.std.proofs.lemmas.List.Elements.{Contains-append_left, Contains-append_right, Contains-get_or, filter_map-append}
use Rattle.std.proofs.lemmas.List.FromFn.{length-range_with_len, get_or-range_with_len}
use Rattle.hb_base.specs.Numbers.{Numbers}
use Rattle.hb_base.specs.NodeSet.{is_in}
use Rattle.hb_base.specs.Limits.{most_lies, most_posts}
use Rattle.hb_wire.specs.declared.vote.Vote.{Vote}
use Rattle.hb_wire.specs.declared.vote.Vote.TheVariants.{Propose}
use Rattle.hb_wire.specs.declared.post.Post.{Post}
use Rattle.net_script.specs.declared.script.Script.{Script}
use Rattle.hb_rules.specs.declared.report.Fate.{Fate}
use Rattle.hb_rules.specs.declared.report.Fate.TheVariants.{Running, Journal, Full}
use Rattle.hb_rules.specs.declared.report.End.{End}
use Rattle.hb_rules.specs.Actor.{ActorView}
use Rattle.hb_rules.specs.Book.{SeatView, mine_in, Watched, IsSeatOf}
use Rattle.hb_rules.specs.Hearing.{hearing_of, heard_of, own_in, vote_by, is_by}
use Rattle.hb_rules.specs.History.{MayFollow, IsLegal}
use Rattle.hb_rules.specs.Ledger.{IsCorrect}
use Rattle.hb_rules.specs.Pool.{pool_value}
use Rattle.hb_rules.specs.Same.{count, firsts}
use Rattle.hb_rules.specs.Slots.{Slot, pass, passes, owed, IsIdle}
use Rattle.hb_rules.specs.Owing.{slots_of}
use Rattle.hb_rules.specs.Terms.{is_proper, AreProper}
use Rattle.hb_rules.specs.Report.{actors, submitted_at, stops_of, IsReceived, IsSettled, IsQuiet, HasPlannedFault, StaysWithinPlan, FollowsPoolRule}
use Rattle.hb_rules.proofs.Addressed.{legal_induction}
use Rattle.hb_rules.proofs.Lists.{Contains-cases, Contains-first, Contains-later, contains_at, source_of}
use Rattle.hb_rules.proofs.PoolRule.{pool_rule}
use Rattle.hb_rules.proofs.Seats.{own_in-watched}
use Rattle.step_driver.specs.declared.run.Done.{Done}
use Rattle.step_driver.specs.Waiting.{nothing_waits}
use Rattle.step_driver.specs.Places.{PlayerView, HiredView, Spot, correct, lying, Name, name_of, names}
use Rattle.step_driver.specs.Delivering.{HasMetFault, HasFate, IsPlayer, IsHired, is_from, IsStage, IsOut, IsSupplied, Always}
use Rattle.step_driver.specs.Running.{IsTeam, actor_of, EndView, end_view, end_at, end_of, IsKept, AreKept, report_of, EndsFullByCause, HasRun}
use Rattle.step_driver.proofs.Playing.{slice_get-front, IsReceived-on}
use Rattle.step_driver.proofs.Tellings.{count_append, count_none}

-- ---- elements of lists

pub Contains-map : {A B : Type 0} (f : A → B) (xs : List A) (x : A) → Contains xs x → Contains (map f xs) (f x)
Contains-map f [] x stands = absurd (omega (arith, stands.1))
Contains-map f (y ∷ xs) x stands = Contains-cases y xs x stands (Contains (map f (y ∷ xs)) (f x))
    (λ is. subst (λ z. Contains (f y ∷ map f xs) z) (ap f is) (Contains-first (f y) (map f xs)))
    (λ later. Contains-later (f y) (map f xs) (f x) (Contains-map f xs x later))

pub Contains-flat_map : {A B : Type 0} (f : A → List B) (xs : List A) (x : A) (y : B) → Contains xs x → Contains (f x) y → Contains (flat_map f xs) y
Contains-flat_map f [] x y stands has = absurd (omega (arith, stands.1))
Contains-flat_map f (z ∷ zs) x y stands has = Contains-cases z zs x stands (Contains (flat_map f (z ∷ zs)) y)
    (λ is. Contains-append_left (f z) (flat_map f zs) y (subst (λ w. Contains (f w) y) (sym is) has))
    (λ later. Contains-append_right (f z) (flat_map f zs) y (Contains-flat_map f zs x y later has))

pub node_stands : (n i : ℕ) → i < n → Contains (range_with_len 0 n) i
node_stands n i below =
    let within : i < length (range_with_len 0 n) = omega (arith, below, length-range_with_len 0 n) in
    let same : 0 + i ≡ i = omega arith in
    subst (λ (k : ℕ). Contains (range_with_len 0 n) k) (get_or-range_with_len 0 n i 0 below ∙ same) (Contains-get_or (range_with_len 0 n) i 0 within)

-- each actor of a correct node is among the actors
pub actor_stands : (c : Numbers) (i x : ℕ) → i < c.n → is_in c.liars i ≡ false → x ≤ c.n → Contains (actors c) (i, x)
actor_stands c i x below honest few =
    Contains-flat_map {B = ℕ × ℕ} (λ (a : ℕ). if is_in c.liars a then [] else map (λ (y : ℕ). (a, y)) (range_with_len 0 (c.n + 1))) (range_with_len 0 c.n) i (i, x) (node_stands c.n i below)
    (subst (λ (b : Bool). Contains {X = ℕ × ℕ} (if b then [] else map (λ (y : ℕ). (i, y)) (range_with_len 0 (c.n + 1))) (i, x)) (sym honest)
    (Contains-map (λ (y : ℕ). (i, y)) (range_with_len 0 (c.n + 1)) x (node_stands (c.n + 1) x (omega (arith, few)))))

-- ---- who is at a place

-- an actor is at a place
record IsThere (all : List Spot) (i x : ℕ) : Type 0 where
  pub place : ℕ
  pub player : PlayerView
  pub stands : slice_get all place ≡ Some (correct player)
  pub node : player.seat.node ≡ i
  pub actor : player.seat.actor ≡ x

slice_get-unmap : (all : List Spot) (p : ℕ) (name : Name) → slice_get (map name_of all) p ≡ Some name → (spot : Spot) × ((slice_get all p ≡ Some spot) × (name_of spot ≡ name))
slice_get-unmap [] p name stands = absurd (cc (stands))
slice_get-unmap (spot ∷ all) zero name stands = (spot, (refl, cc))
slice_get-unmap (spot ∷ all) (suc p) name stands = slice_get-unmap all p name stands

there_of : (all : List Spot) (p : ℕ) (i x : ℕ) (spot : Spot) (name : Name) → slice_get all p ≡ Some spot → name_of spot ≡ name → actor_of name ≡ Some (i, x) → IsThere all i x
there_of all p i x (lying h) name stands is gives = absurd (cc (gives, sym (ap actor_of is)))
there_of all p i x (correct pl) name stands is gives =
    let same : Some (pl.seat.node, pl.seat.actor) ≡ Some (i, x) = ap actor_of is ∙ gives in
    let pair : (pl.seat.node, pl.seat.actor) ≡ (i, x) = cc in
    record { place = p; player = pl; stands = stands; node = ap (λ (q : ℕ × ℕ). q.0) pair; actor = ap (λ (q : ℕ × ℕ). q.1) pair }

is_there : (c : Numbers) (all : List Spot) (i x : ℕ) → IsTeam c (names all) → IsCorrect c i → x ≤ c.n → IsThere all i x
is_there c all i x team is_correct few =
    let among : Contains (filter_map actor_of (names all)) (i, x) =
    subst (λ (pairs : List (ℕ × ℕ)). Contains pairs (i, x)) (sym team.correct) (actor_stands c i x is_correct.known is_correct.honest few) in
    let source = source_of actor_of (names all) (i, x) among in
    let at = contains_at (names all) source.element source.stands in
    let spot = slice_get-unmap all at.0 source.element at.1 in
    there_of all at.0 i x spot.0 source.element spot.1.0 spot.1.1 source.gives

-- ---- histories and what a seat has seen

own_seen : (c : Numbers) (posts : List Post) (seat : SeatView) → IsSeatOf (record { config = c; posts = posts }) seat
    → own_in c seat.node seat.actor posts ≡ own_in c seat.node seat.actor seat.seen
own_seen c posts seat is_seat =
    own_in-watched c seat.node seat.actor seat.seen posts
    (subst (λ (d : Numbers). Watched d seat.node seat.actor seat.seen posts) is_seat.config is_seat.watched)

heard_more : (c : Numbers) (i x : ℕ) (posts more : List Post) (got : List ℕ) → ((k : ℕ) → Contains got k → (post : Post) × (slice_get posts k ≡ Some post))
    → heard_of c i x (posts ++ more) got ≡ heard_of c i x posts got
heard_more c i x posts more got within = ap (filter_map (hearing_of c i x)) (same got within)
  where
    same : (got : List ℕ) → ((k : ℕ) → Contains got k → (post : Post) × (slice_get posts k ≡ Some post)) → filter_map (slice_get (posts ++ more)) got ≡ filter_map (slice_get posts) got
    same [] within = refl
    same (k ∷ got) within =
        let here = within k (Contains-first k got) in
        rw (slice_get-front posts more k here.0 here.1, here.1, same got (λ j stands. within j (Contains-later k got j stands))) refl

-- actors beyond the desk cast nothing
stranger_push : (c : Numbers) (i x : ℕ) → is_in c.liars i ≡ false → c.n < x → (history : List Post) (post : Post) → own_in c i x history ≡ [] → MayFollow c history post
    → own_in c i x (history ++ post ∷ []) ≡ []
stranger_push c i x honest beyond history post none follows =
    filter_map-append (vote_by c i x) history (post ∷ []) ∙ rw (none, not_by) refl
  where
    by_stranger : is_by i x post ≡ true → ⊥
    by_stranger is =
        let parts = and_parts (post.from == i) (post.actor == x) is in
        let from : post.from ≡ i = eqb-true post.from i parts.0 in
        let actor : post.actor ≡ x = eqb-true post.actor x parts.1 in
        let cast = follows.correct (ap (λ (a : ℕ). is_in c.liars a) from ∙ honest) in
        elim cast.allowed [
          | inl again ↦
              let stands : Contains (own_in c i x history) cast.vote =
              subst (λ (y : ℕ). Contains (own_in c i y history) cast.vote) actor (subst (λ (a : ℕ). Contains (own_in c a post.actor history) cast.vote) from again) in
              omega (arith, stands.1, ap (λ (votes : List Vote). length votes) none)
          | inr may ↦ elim may [
            | inl lane ↦ omega (arith, lane.0, actor, beyond)
            | inr desk ↦ omega (arith, desk.0, actor, beyond)
          ]
        ]

    not_by : is_by i x post ≡ false
    not_by = false_from_ne_true (is_by i x post) by_stranger

strangers : (c : Numbers) (i x : ℕ) (history : List Post) → is_in c.liars i ≡ false → c.n < x → IsLegal c history → own_in c i x history ≡ []
strangers c i x history honest beyond legal =
    legal_induction c (λ (posts : List Post). own_in c i x posts ≡ []) refl (stranger_push c i x honest beyond) history legal

-- ---- ends

record IsEndOf (all : List Spot) (end : EndView) : Type 0 where
  pub place : ℕ
  pub player : PlayerView
  pub stands : slice_get all place ≡ Some (correct player)
  pub is : end_at player ≡ end

end_source : (all : List Spot) (p : ℕ) (spot : Spot) (end : EndView) → slice_get all p ≡ Some spot → end_of spot ≡ Some end → IsEndOf all end
end_source all p (lying h) end stands gives = absurd (cc (gives))
end_source all p (correct pl) end stands gives = record { place = p; player = pl; stands = stands; is = cc }

is_end_of : (all : List Spot) (ends : List End) (end : End) → map end_view ends ≡ filter_map end_of all → Contains ends end → IsEndOf all (end_view end)
is_end_of all ends end same stands =
    let among : Contains (filter_map end_of all) (end_view end) =
    subst (λ (views : List EndView). Contains views (end_view end)) same (Contains-map end_view ends end stands) in
    let source = source_of end_of all (end_view end) among in
    let at = contains_at all source.element source.stands in
    end_source all at.0 source.element (end_view end) at.1 source.gives

abbrev pair_of : EndView → ℕ × ℕ
pair_of end = (end.node, end.actor)

pairs_of_ends : (ends : List End) → map (λ (end : End). (end.node, end.actor)) ends ≡ map pair_of (map end_view ends)
pairs_of_ends [] = refl
pairs_of_ends (end ∷ ends) = ap (λ (pairs : List (ℕ × ℕ)). (end.node, end.actor) ∷ pairs) (pairs_of_ends ends)

pairs_of_spots : (all : List Spot) → map pair_of (filter_map end_of all) ≡ filter_map actor_of (names all)
pairs_of_spots [] = refl
pairs_of_spots (correct p ∷ all) = ap (λ (pairs : List (ℕ × ℕ)). (p.seat.node, p.seat.actor) ∷ pairs) (pairs_of_spots all)
pairs_of_spots (lying h ∷ all) = pairs_of_spots all

-- ---- nothing is owed

append_nil_left : {A : Type 0} (xs ys : List A) → xs ++ ys ≡ [] → xs ≡ []
append_nil_left [] ys none = refl
append_nil_left (x ∷ xs) ys none = absurd (cc (none))

idle_of : {V H : Type 0} (slots : List (Slot V H)) (own : List V) (heard : List H) → owed slots own heard ≡ [] → IsIdle slots own heard
idle_of [] own heard none = refl
idle_of (slot ∷ slots) own heard none = append_nil_left (pass (slot ∷ slots) own heard) (passes (length slots) (slot ∷ slots) (own ++ pass (slot ∷ slots) own heard) heard) none

-- ---- all together

-- what holds when nothing waits any more
pub record HasEnded (c : Numbers) (s : Script) (posts : List Post) (all : List Spot) : Type 0 where
  pub team : IsTeam c (names all)
  pub stage : IsStage c s (length all) posts all
  pub supplied : IsSupplied Always c s posts all nothing_waits
  pub kept : AreKept (length all) all
  pub legal : IsLegal c posts

pub HasEnded-of : (c d : Numbers) (s : Script) (posts posts' : List Post) (all : List Spot) → HasRun c s posts all → d ≡ c → IsLegal d posts' → posts' ≡ posts → HasEnded c s posts' all
HasEnded-of c d s posts posts' all ran config legal same = record {
  team = ran.team;
  stage = subst (λ (ps : List Post). IsStage c s (length all) ps all) (sym same) ran.stage;
  supplied = subst (λ (ps : List Post). IsSupplied Always c s ps all nothing_waits) (sym same) ran.supplied;
  kept = ran.kept;
  legal = subst (λ (e : Numbers). IsLegal e posts') config legal;
}

player_at : (c : Numbers) (s : Script) (posts : List Post) (all : List Spot) (p : ℕ) (pl : PlayerView) → HasEnded c s posts all → slice_get all p ≡ Some (correct pl) → IsPlayer c s true pl
player_at c s posts all p pl ended stands =
    let below : p < length all = slice_get_within all p (correct pl) stands in
    subst (λ (b : Bool). IsPlayer c s b pl) (lt_true p (length all) below) (ended.stage.own p (correct pl) stands)
  where
    lt_true : (a b : ℕ) → a < b → nat_lt a b ≡ true
    lt_true a b less = search (rules, less)

kept_at : (c : Numbers) (s : Script) (posts : List Post) (all : List Spot) (p : ℕ) (pl : PlayerView) → HasEnded c s posts all → slice_get all p ≡ Some (correct pl) → IsKept pl
kept_at c s posts all p pl ended stands = ended.kept.each p (correct pl) (slice_get_within all p (correct pl) stands) stands

-- what an actor received, in the whole history
received_at : (c : Numbers) (s : Script) (posts : List Post) (all : List Spot) (p : ℕ) (pl : PlayerView) → HasEnded c s posts all → slice_get all p ≡ Some (correct pl)
    → (k : ℕ) → Contains pl.view.got k → IsReceived c s posts pl.seat.node pl.seat.actor k
received_at c s posts all p pl ended stands k had =
    let seat = ended.stage.seats p (correct pl) stands in
    IsReceived-on c s pl.seat.seen posts pl.seat.node pl.seat.actor k (record { rest = seat.watched.between; is = seat.watched.is })
    ((player_at c s posts all p pl ended stands).sound.got k had)

live_at : (fate : Fate) (seat : SeatView) (v : ActorView) → fate ≡ Running → HasFate true fate seat v → v.live ≡ true
live_at fate seat v running has = subst (λ (f : Fate). HasFate true f seat v) running has

idle_at : (c : Numbers) (s : Script) (posts : List Post) (all : List Spot) (p : ℕ) (pl : PlayerView) → HasEnded c s posts all → slice_get all p ≡ Some (correct pl)
    → pl.fate ≡ Running
    → IsIdle (slots_of c (submitted_at s pl.seat.node) pl.seat.node pl.seat.actor) (own_in c pl.seat.node pl.seat.actor posts) (heard_of c pl.seat.node pl.seat.actor posts pl.view.got)
idle_at c s posts all p pl ended stands running =
    let seat = ended.stage.seats p (correct pl) stands in
    let player = player_at c s posts all p pl ended stands in
    let kept = kept_at c s posts all p pl ended stands in
    let live = live_at pl.fate pl.seat pl.view running player.fate in
    let i = pl.seat.node in
    let x = pl.seat.actor in
    let seen = pl.seat.seen in
    let at_config : pl.view.terms.config ≡ c = sym kept.config ∙ seat.config in
    let none_there : pl.view.terms.owed (own_in pl.view.terms.config pl.view.terms.node pl.view.terms.actor seen)
    (heard_of pl.view.terms.config pl.view.terms.node pl.view.terms.actor seen pl.view.got) ≡ [] = kept.idle live in
    let none_here : pl.view.terms.owed (own_in c i x seen) (heard_of c i x seen pl.view.got) ≡ [] =
    terms_same c i x pl.view.terms.config pl.view.terms.node pl.view.terms.actor (sym at_config) kept.node kept.actor none_there in
    let none : owed (slots_of c (submitted_at s i) i x) (own_in c i x seen) (heard_of c i x seen pl.view.got) ≡ [] =
    sym (player.sound.owes (own_in c i x seen) (heard_of c i x seen pl.view.got)) ∙ none_here in
    let heard : heard_of c i x posts pl.view.got ≡ heard_of c i x seen pl.view.got =
    ap (λ (all_posts : List Post). heard_of c i x all_posts pl.view.got) seat.watched.is
    ∙ heard_more c i x seen seat.watched.between pl.view.got (λ k had. let r = player.sound.got k had in (r.post, r.stands)) in
    rw (own_seen c posts pl.seat seat, heard) (idle_of (slots_of c (submitted_at s i) i x) (own_in c i x seen) (heard_of c i x seen pl.view.got) none)
  where
    terms_same : (c : Numbers) (i x : ℕ) (d : Numbers) (a y : ℕ) → c ≡ d → i ≡ a → x ≡ y
        → pl.view.terms.owed (own_in d a y pl.seat.seen) (heard_of d a y pl.seat.seen pl.view.got) ≡ []
        → pl.view.terms.owed (own_in c i x pl.seat.seen) (heard_of c i x pl.seat.seen pl.view.got) ≡ []
    terms_same c i x d a y same_c same_i same_x none = rw (same_c, same_i, same_x) none

end_got : (all : List Spot) (end : EndView) (c : Numbers) (s : Script) (posts : List Post) → HasEnded c s posts all → IsEndOf all end
    → (k : ℕ) → Contains end.got k → IsReceived c s posts end.node end.actor k
end_got all end c s posts ended of k had =
    subst (λ (e : EndView). IsReceived c s posts e.node e.actor k) of.is
    (received_at c s posts all of.place of.player ended of.stands k (subst (λ (e : EndView). Contains e.got k) (sym of.is) had))

not_out : (k p : ℕ) → IsOut nothing_waits k p → ⊥
not_out k p (inl out) = omega (arith, out.1)
not_out k p (inr out) = omega (arith, out.1)

settled_end : (all : List Spot) (end : End) (c : Numbers) (s : Script) (done : Done) → HasEnded c s done.history.items all → IsEndOf all (end_view end) → end.fate ≡ Running
    → IsSettled (report_of c s done) end
settled_end all end c s done ended of running =
    let pl = of.player in
    let posts = done.history.items in
    let fate : pl.fate ≡ Running = ap (λ (e : EndView). e.fate) of.is ∙ running in
    let node : pl.seat.node ≡ end.node = ap (λ (e : EndView). e.node) of.is in
    let actor : pl.seat.actor ≡ end.actor = ap (λ (e : EndView). e.actor) of.is in
    let got : pl.view.got ≡ end.got.items = ap (λ (e : EndView). e.got) of.is in
    record {
      received = λ k expected.
          let comes : IsReceived c s posts end.node end.actor k = record { post = expected.post; stands = expected.stands; comes = expected.comes } in
          let here : IsReceived c s posts pl.seat.node pl.seat.actor k = rw (node, actor) comes in
          elim (ended.supplied.each of.place k pl tt of.stands fate here) [
            | inl had ↦ subst (λ (ks : List ℕ). Contains ks k) got had
            | inr out ↦ absurd (not_out k of.place out)
          ];
      idle =
          let idle = idle_at c s posts all of.place pl ended of.stands fate in
          subst (λ (e : EndView). IsIdle (slots_of c (submitted_at s e.node) e.node e.actor) (own_in c e.node e.actor posts) (heard_of c e.node e.actor posts e.got)) of.is idle;
    }

pub quiet : (all : List Spot) (c : Numbers) (s : Script) (done : Done) → HasEnded c s done.history.items all → map end_view done.ends.items ≡ filter_map end_of all
    → IsQuiet (report_of c s done)
quiet all c s done ended same = record {
  ends = pairs_of_ends done.ends.items ∙ ap (λ (views : List EndView). map pair_of views) same ∙ pairs_of_spots all ∙ ended.team.correct;
  got = λ end stands k had. end_got all (end_view end) c s done.history.items ended (is_end_of all done.ends.items end same stands) k had;
  settled = λ end stands running. settled_end all end c s done ended (is_end_of all done.ends.items end same stands) running;
}

-- ---- within the plan

votes_at : (all : List Spot) (c : Numbers) (s : Script) (posts : List Post) (i x : ℕ) (vote : Vote) → HasEnded c s posts all → IsThere all i x
    → count vote (own_in c i x posts) ≤ stops_of s i x + 1
votes_at all c s posts i x vote ended there =
    let pl = there.player in
    let seat = ended.stage.seats there.place (correct pl) there.stands in
    let player = player_at c s posts all there.place pl ended there.stands in
    let kept = kept_at c s posts all there.place pl ended there.stands in
    let at_config : c ≡ pl.view.terms.config = sym seat.config ∙ kept.config in
    let few : count vote (own_in pl.view.terms.config pl.view.terms.node pl.view.terms.actor pl.seat.seen) ≤ 1 + pl.view.restarts = kept.few.each vote in
    let here : count vote (own_in c pl.seat.node pl.seat.actor pl.seat.seen) ≤ 1 + pl.view.restarts =
    few_same pl vote c pl.seat.node pl.seat.actor pl.view.terms.config pl.view.terms.node pl.view.terms.actor at_config kept.node kept.actor few in
    let all_here : count vote (own_in c pl.seat.node pl.seat.actor posts) ≤ 1 + pl.view.restarts = rw (own_seen c posts pl.seat seat) here in
    let most : count vote (own_in c pl.seat.node pl.seat.actor posts) ≤ stops_of s pl.seat.node pl.seat.actor + 1 = omega (arith, all_here, player.sound.bound) in
    subst (λ (y : ℕ). count vote (own_in c i y posts) ≤ stops_of s i y + 1) there.actor
    (subst (λ (a : ℕ). count vote (own_in c a pl.seat.actor posts) ≤ stops_of s a pl.seat.actor + 1) there.node most)
  where
    few_same : (pl : PlayerView) (vote : Vote) (c : Numbers) (i x : ℕ) (d : Numbers) (a y : ℕ) → c ≡ d → i ≡ a → x ≡ y
        → count vote (own_in d a y pl.seat.seen) ≤ 1 + pl.view.restarts → count vote (own_in c i x pl.seat.seen) ≤ 1 + pl.view.restarts
    few_same pl vote c i x d a y same_c same_i same_x few = rw (same_c, same_i, same_x) few

pub plan_votes : (all : List Spot) (c : Numbers) (s : Script) (posts : List Post) (i x : ℕ) (vote : Vote) → HasEnded c s posts all → IsCorrect c i
    → count vote (own_in c i x posts) ≤ stops_of s i x + 1
plan_votes all c s posts i x vote ended is_correct = elim (cases_lt c.n x) [
  | inl beyond ↦ rw (strangers c i x posts is_correct.honest beyond ended.legal) (omega arith)
  | inr few ↦ votes_at all c s posts i x vote ended (is_there c all i x ended.team is_correct few)
]

-- a liar's posts are those that its seat has seen
liar_count : (c : Numbers) (posts : List Post) (h : HiredView) → is_in c.liars h.seat.node ≡ true → IsSeatOf (record { config = c; posts = posts }) h.seat
    → count_by (is_from h.seat.node) posts ≡ count_by (is_from h.seat.node) h.seat.seen
liar_count c posts h liar seat =
    let others : mine_in c h.seat.node h.seat.actor seat.watched.between ≡ [] =
    subst (λ (d : Numbers). mine_in d h.seat.node h.seat.actor seat.watched.between ≡ []) seat.config seat.watched.others in
    let none : count_by (is_from h.seat.node) seat.watched.between ≡ 0 = count_none c h.seat.node h.seat.actor seat.watched.between liar others in
    ap (λ (all_posts : List Post). count_by (is_from h.seat.node) all_posts) seat.watched.is
    ∙ count_append (is_from h.seat.node) h.seat.seen seat.watched.between
    ∙ omega (arith, none)

lies_at : (all : List Spot) (c : Numbers) (s : Script) (posts : List Post) (a p : ℕ) (spot : Spot) (name : Name) → HasEnded c s posts all → slice_get all p ≡ Some spot
    → name_of spot ≡ name → name.lies ≡ true → name.node ≡ a → is_in c.liars a ≡ true → count_by (λ (post : Post). post.from == a) posts ≤ most_lies
lies_at all c s posts a p (correct pl) name ended stands is lies node liar = absurd (cc (lies, ap (λ (n : Name). n.lies) is))
lies_at all c s posts a p (lying h) name ended stands is lies node liar =
    let hired : IsHired c h = ended.stage.own p (lying h) stands in
    let at_a : h.seat.node ≡ a = ap (λ (n : Name). n.node) is ∙ node in
    let few : count_by (is_from h.seat.node) posts ≤ most_lies =
    omega (arith, liar_count c posts h hired.liar (ended.stage.seats p (lying h) stands), hired.said, hired.few) in
    subst (λ (b : ℕ). count_by (is_from b) posts ≤ most_lies) at_a few

pub plan_lies : (all : List Spot) (c : Numbers) (s : Script) (posts : List Post) (a : ℕ) → HasEnded c s posts all → is_in c.liars a ≡ true
    → count_by (λ (post : Post). post.from == a) posts ≤ most_lies
plan_lies all c s posts a ended liar =
    let place = ended.team.liars a liar in
    let at = slice_get-unmap all place.place place.name place.stands in
    lies_at all c s posts a place.place at.0 place.name ended at.1.0 at.1.1 place.lies place.node liar

plan_journal : (all : List Spot) (c : Numbers) (s : Script) (posts : List Post) (end : EndView) → HasEnded c s posts all → IsEndOf all end → end.fate ≡ Journal
    → HasPlannedFault s end.node end.actor end.note
plan_journal all c s posts end ended of journal =
    let pl = of.player in
    let player = player_at c s posts all of.place pl ended of.stands in
    let fate : pl.fate ≡ Journal = ap (λ (e : EndView). e.fate) of.is ∙ journal in
    let met : HasMetFault pl.view = subst (λ (f : Fate). HasFate true f pl.seat pl.view) fate player.fate in
    let here : HasPlannedFault s pl.seat.node pl.seat.actor pl.view.supply.calls = record {
      call = met.call;
      planned = subst (λ (calls : List ℕ). Contains calls met.call) player.sound.planned met.planned;
      met = met.met;
    } in
    subst (λ (e : EndView). HasPlannedFault s e.node e.actor e.note) of.is here

pub plan : (all : List Spot) (c : Numbers) (s : Script) (done : Done) → HasEnded c s done.history.items all → map end_view done.ends.items ≡ filter_map end_of all
    → StaysWithinPlan (report_of c s done)
plan all c s done ended same = record {
  votes = λ i x vote is_correct. plan_votes all c s done.history.items i x vote ended is_correct;
  lies = λ a liar. plan_lies all c s done.history.items a ended liar;
  journals = λ end stands journal. plan_journal all c s done.history.items (end_view end) ended (is_end_of all done.ends.items end same stands) journal;
}

-- ---- full books

plan_full : (all : List Spot) (c : Numbers) (s : Script) (posts : List Post) (end : EndView) → HasEnded c s posts all → IsEndOf all end → end.fate ≡ Full
    → length posts ≡ most_posts
plan_full all c s posts end ended of is_full =
    let pl = of.player in
    let player = player_at c s posts all of.place pl ended of.stands in
    let fate : pl.fate ≡ Full = ap (λ (e : EndView). e.fate) of.is ∙ is_full in
    let seen : length pl.seat.seen ≡ most_posts = subst (λ (f : Fate). HasFate true f pl.seat pl.view) fate player.fate in
    let seat = ended.stage.seats of.place (correct pl) of.stands in
    let longer : length posts ≡ length pl.seat.seen + length seat.watched.between =
    ap (λ (ps : List Post). length ps) seat.watched.is ∙ length-append pl.seat.seen seat.watched.between in
    omega (arith, seen, longer, ended.legal.short)

pub full : (all : List Spot) (c : Numbers) (s : Script) (done : Done) → HasEnded c s done.history.items all → map end_view done.ends.items ≡ filter_map end_of all
    → EndsFullByCause (report_of c s done)
full all c s done ended same = record {
  full = λ end stands is_full. plan_full all c s done.history.items (end_view end) ended (is_end_of all done.ends.items end same stands) is_full;
}

-- ---- proposals

-- what a desk tells of its votes, of the whole history
proper_at : (all : List Spot) (c : Numbers) (s : Script) (posts : List Post) (i x : ℕ) → HasEnded c s posts all → (there : IsThere all i x)
    → AreProper there.player.view.terms [] (firsts (own_in c i x posts))
proper_at all c s posts i x ended there =
    let pl = there.player in
    let t = pl.view.terms in
    let seat = ended.stage.seats there.place (correct pl) there.stands in
    let kept = kept_at c s posts all there.place pl ended there.stands in
    let here : AreProper t [] (firsts (own_in c pl.seat.node pl.seat.actor pl.seat.seen)) =
    proper_same pl c pl.seat.node pl.seat.actor t.config t.node t.actor (sym seat.config ∙ kept.config) kept.node kept.actor kept.proper in
    let all_here : AreProper t [] (firsts (own_in c pl.seat.node pl.seat.actor posts)) =
    subst (λ (own : List Vote). AreProper t [] (firsts own)) (sym (own_seen c posts pl.seat seat)) here in
    subst (λ (y : ℕ). AreProper t [] (firsts (own_in c i y posts))) there.actor
    (subst (λ (a : ℕ). AreProper t [] (firsts (own_in c a pl.seat.actor posts))) there.node all_here)
  where
    proper_same : (pl : PlayerView) (c : Numbers) (i x : ℕ) (d : Numbers) (a y : ℕ) → c ≡ d → i ≡ a → x ≡ y
        → AreProper pl.view.terms [] (firsts (own_in d a y pl.seat.seen)) → AreProper pl.view.terms [] (firsts (own_in c i x pl.seat.seen))
    proper_same pl c i x d a y same_c same_i same_x proper = rw (same_c, same_i, same_x) proper

rule_at : (all : List Spot) (c : Numbers) (s : Script) (posts : List Post) (i e : ℕ) (value : List ℕ) → HasEnded c s posts all → IsCorrect c i
    → Contains (own_in c i c.n posts) (Propose e value) → value ≡ pool_value c (submitted_at s i) e (own_in c i c.n posts)
rule_at all c s posts i e value ended is_correct stands =
    let there : IsThere all i c.n = is_there c all i c.n ended.team is_correct (omega arith) in
    let player = player_at c s posts all there.place there.player ended there.stands in
    pool_rule c (submitted_at s i) i e value there.player.view.terms posts
    (λ own vote. player.sound.proper there.actor own vote ∙ ap (λ (a : ℕ). is_proper c (submitted_at s a) own vote) there.node)
    is_correct.honest ended.legal (proper_at all c s posts i c.n ended there) stands

pub rule : (all : List Spot) (c : Numbers) (s : Script) (done : Done) → HasEnded c s done.history.items all → FollowsPoolRule (report_of c s done)
rule all c s done ended = record {
  proposals = λ i e value is_correct stands. rule_at all c s done.history.items i e value ended is_correct stands;
}
