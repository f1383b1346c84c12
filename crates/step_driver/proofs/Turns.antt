-- A place that was read out of the list of places is served, and set there again.
use Rattle.std.proofs.Common.{◌≡◌, ◌≢◌, ℕ, zero, suc, ◌+◌, ◌*◌, ◌<◌, ◌≤◌, ◌^◌, Bool, true, false, inl, inr, List, [], ◌∷◌, ◌++◌, length, set, take, remove, Option, Some, None, refl, sym, ap, ◌∙◌, subst, arith, slice_get, get_or}
use Rattle.std.specs.Prelude.{nat_lt, sum_by, IfSome, filter_map}
use Rattle.std.proofs.lemmas.List.{map-set, take_more, length-set}
use Rattle.std.proofs.lemmas.List.Sums.{sum_by-cons}
use Rattle.std.proofs.lemmas.List.Elements.{filter_map-append}
use Rattle.std.proofs.lemmas.Option.{slice_get_within}
use Rattle.std.proofs.lemmas.Bool.{cases_lt}
use Rattle.std.proofs.lemmas.Bool.Decides.{nat_tests}
use Rattle.hb_base.specs.Numbers.{Numbers}
use Rattle.hb_wire.specs.declared.post.Post.{Post}
use Rattle.net_script.specs.declared.script.Script.{Script}
use Rattle.hb_rules.specs.Actor.{ActorView}
use Rattle.hb_rules.specs.Book.{SeatView, BookView, IsSeatOf}
use Rattle.step_driver.specs.declared.place.Place.{Place}
use Rattle.rand_chacha.specs.ChaCha.{ChaCha}
use Rattle.net_script.specs.declared.script.Order.{Order}
use Rattle.net_script.specs.declared.script.Order.TheVariants.{Fifo, Mixed}
use Rattle.step_driver.specs.declared.envelope.Envelope.{Envelope}
use Rattle.step_driver.specs.Waiting.{Waiting, nothing_waits, count_waiting, next_place, next_in, next_of, rest_in, after_next}
use Rattle.step_driver.proofs.Takings.{IsTakenOut}
use Rattle.step_driver.specs.Places.{Spot, correct, lying, seat_of, spot_of, spots, Name, names, left_at}
use Rattle.step_driver.specs.Delivering.{IsSpot, Serves, IsStage, IsSupplied, Always, But, weight, IsBetween, AreFollowed, most_places}
use Rattle.step_driver.specs.Running.{IsTeam, EndView, end_of, ends_at, IsKeptAt, AreKept, GoesOn, IsTurn, HasRun}
use Rattle.step_driver.proofs.Stages.{IsServed-from, IsStage-served, WasServed-from, WasServed-none, weight-served}
use Rattle.step_driver.proofs.Occupants.{spot_at, spots_count}

-- ---- tests

lt_true : (a b : ℕ) → a < b → nat_lt a b ≡ true
lt_true a b less = grind (arith, nat_tests)

lt_false : (a b : ℕ) → b ≤ a → nat_lt a b ≡ false
lt_false a b more = grind (arith, nat_tests)

pub lt_other : (p q : ℕ) → q ≢ p → nat_lt q (p + 1) ≡ nat_lt q p
lt_other p q other = elim (cases_lt q p) [
  | inl below ↦ lt_true q (p + 1) (omega (arith, below)) ∙ sym (lt_true q p below)
  | inr above ↦ elim (cases_lt p q) [
    | inl past ↦ lt_false q (p + 1) (omega (arith, past)) ∙ sym (lt_false q p above)
    | inr up_to ↦ absurd (other (omega (arith, above, up_to)))
  ]
]

-- ---- a turn

pub seat_at : {A L : Type 0} (seat : A → SeatView) (view : A → ActorView) (s : Script) (n p : ℕ) (book : BookView) (places : List (Place A L)) (old : Place A L)
    → p < length places → old ≡ get_or places p old → IsStage book.config s n book.posts (spots seat view places) → IsSeatOf book (seat_of (spot_of seat view old))
seat_at seat view s n p book places old within is stage =
    let seat_is = stage.seats p (spot_of seat view old) (spot_at seat view places p old within is) in
    record { config = seat_is.config; known = seat_is.known; watched = seat_is.watched }

pub started_at : {A L : Type 0} (seat : A → SeatView) (view : A → ActorView) (s : Script) (n p : ℕ) (book : BookView) (places : List (Place A L)) (old : Place A L)
    → p < length places → old ≡ get_or places p old → p < n → IsStage book.config s n book.posts (spots seat view places) → IsSpot book.config s true (spot_of seat view old)
started_at seat view s n p book places old within is started stage =
    subst (λ (b : Bool). IsSpot book.config s b (spot_of seat view old)) (lt_true p n started) (stage.own p (spot_of seat view old) (spot_at seat view places p old within is))

pub fresh_at : {A L : Type 0} (seat : A → SeatView) (view : A → ActorView) (s : Script) (p : ℕ) (book : BookView) (places : List (Place A L)) (old : Place A L)
    → p < length places → old ≡ get_or places p old → IsStage book.config s p book.posts (spots seat view places) → IsSpot book.config s false (spot_of seat view old)
fresh_at seat view s p book places old within is stage =
    subst (λ (b : Bool). IsSpot book.config s b (spot_of seat view old)) (lt_false p p (omega arith)) (stage.own p (spot_of seat view old) (spot_at seat view places p old within is))

turn_at : {A L : Type 0} (seat : A → SeatView) (view : A → ActorView) (s : Script) (k n m p : ℕ) (book book' : BookView) (places : List (Place A L)) (old new : Place A L) (again : Option ℕ)
    → p < length places → old ≡ get_or places p old → IsStage book.config s n book.posts (spots seat view places)
    → Serves s k book book' (spot_of seat view old) (spot_of seat view new) again → nat_lt p m ≡ true → ((q : ℕ) → q ≢ p → nat_lt q m ≡ nat_lt q n)
    → IsTurn s k m p book book' (spots seat view places) (spots seat view (set places p new)) again
turn_at seat view s k n m p book book' places old new again within is stage serves here there =
    let all : List Spot = spots seat view places in
    let one : Spot = spot_of seat view old in
    let two : Spot = spot_of seat view new in
    let at : slice_get all p ≡ Some one = spot_at seat view places p old within is in
    let after : spots seat view (set places p new) ≡ set all p two = map-set (spot_of seat view) places p new in
    subst (λ (spots_after : List Spot). IsTurn s k m p book book' all spots_after again) (sym after)
    (record {
      stage = IsStage-served book.config s n m p book book' all one two again refl stage at (IsServed-from s k book book' one two again serves) here there;
      served = WasServed-from s k p book book' all one two again at serves;
    })

pub heard_at : {A L : Type 0} (seat : A → SeatView) (view : A → ActorView) (s : Script) (k p : ℕ) (book book' : BookView) (places : List (Place A L)) (old new : Place A L) (again : Option ℕ)
    → p < length places → old ≡ get_or places p old → IsStage book.config s (length (spots seat view places)) book.posts (spots seat view places)
    → Serves s k book book' (spot_of seat view old) (spot_of seat view new) again
    → IsTurn s k (length (spots seat view places)) p book book' (spots seat view places) (spots seat view (set places p new)) again
heard_at seat view s k p book book' places old new again within is stage serves =
    let n : ℕ = length (spots seat view places) in
    turn_at seat view s k n n p book book' places old new again within is stage serves (lt_true p n (omega (arith, within, spots_count seat view places))) (λ q other. refl)

pub begun_at : {A L : Type 0} (seat : A → SeatView) (view : A → ActorView) (s : Script) (k p : ℕ) (book book' : BookView) (places : List (Place A L)) (old new : Place A L) (again : Option ℕ)
    → p < length places → old ≡ get_or places p old → IsStage book.config s p book.posts (spots seat view places)
    → Serves s k book book' (spot_of seat view old) (spot_of seat view new) again
    → IsTurn s k (p + 1) p book book' (spots seat view places) (spots seat view (set places p new)) again
begun_at seat view s k p book book' places old new again within is stage serves =
    turn_at seat view s k p (p + 1) p book book' places old new again within is stage serves (lt_true p (p + 1) (omega arith)) (λ q other. lt_other p q other)

-- nobody is there
pub IsTurn-none : {A L : Type 0} (seat : A → SeatView) (view : A → ActorView) (s : Script) (k n p : ℕ) (book : BookView) (places : List (Place A L)) → length places ≤ p
    → IsStage book.config s n book.posts (spots seat view places) → IsTurn s k n p book book (spots seat view places) (spots seat view places) None
IsTurn-none seat view s k n p book places past stage = record {
  stage = stage;
  served = WasServed-none s k p book (spots seat view places) (omega (arith, past, spots_count seat view places));
}

pub place_within : {A L : Type 0} (seat : A → SeatView) (view : A → ActorView) (p : ℕ) (places : List (Place A L)) (new : Place A L) (again : Option ℕ) → p < length places
    → IfSome again (λ _. p < length (spots seat view (set places p new)))
place_within seat view p places new None within = tt
place_within seat view p places new (Some stood) within =
    omega (arith, within, ap (λ (all : List Spot). length all) (map-set (spot_of seat view) places p new), length-set (spots seat view places) p (spot_of seat view new), spots_count seat view places)

-- ---- what follows a turn

-- the envelopes were added for the posts and the config of the book
pub AreFollowed-of : (s : Script) (c d : Numbers) (posts posts' : List Post) (all : List Spot) (first p : ℕ) (again : Option ℕ) (old new : Waiting) → c ≡ d → posts ≡ posts'
    → AreFollowed c s posts all first p again old new → AreFollowed d s posts' all first p again old new
AreFollowed-of s c d posts posts' all first p again old new same_config same_posts followed =
    subst (λ (ps : List Post). AreFollowed d s ps all first p again old new) same_posts
    (subst (λ (e : Numbers). AreFollowed e s posts all first p again old new) same_config followed)

pub GoesOn-followed : (s : Script) (k m p first : ℕ) (book book' : BookView) (old new : List Spot) (again : Option ℕ) (line line' : Waiting) → IsTurn s k m p book book' old new again
    → first ≡ length book.posts → AreFollowed book'.config s book'.posts new first p again line line' → IsSupplied (But p k) book.config s book.posts old line
    → GoesOn s m book book' old new line line'
GoesOn-followed s k m p first book book' old new again line line' turn is followed supplied =
    let served = turn.served in
    let here : AreFollowed book.config s book'.posts new (length book.posts) p again line line' =
    subst (λ (n : ℕ). AreFollowed book.config s book'.posts new n p again line line') is
    (subst (λ (c : Numbers). AreFollowed c s book'.posts new first p again line line') served.config followed) in
    record {
      config = served.config;
      size = served.size;
      same_names = served.same_names;
      stage = turn.stage;
      supplied = here.supplied (served.supplied line supplied);
      less =
          weight-served (length book.posts) (length book'.posts) (count_waiting line) (count_waiting line') (sum_by left_at old) (sum_by left_at new) again
          served.longer here.short served.stood here.few served.left;
    }

pub IsSupplied-but : (c : Numbers) (s : Script) (p k : ℕ) (posts : List Post) (all : List Spot) (w : Waiting) → IsSupplied Always c s posts all w → IsSupplied (But p k) c s posts all w
IsSupplied-but c s p k posts all w supplied = record { each = λ q j pl _ stands running received. supplied.each q j pl tt stands running received }

again_after : (first low high : ℕ) (again : Option ℕ) → first ≡ low → IfSome again (IsBetween low high) → IfSome again (IsBetween first high)
again_after first low high again is stood = subst (λ (n : ℕ). IfSome again (IsBetween n high)) (sym is) stood

pub stood_after : (s : Script) (k m p first : ℕ) (book book' : BookView) (old new : List Spot) (again : Option ℕ) → IsTurn s k m p book book' old new again
    → first ≡ length book.posts → IfSome again (IsBetween first (length book'.posts))
stood_after s k m p first book book' old new again turn is = again_after first (length book.posts) (length book'.posts) again is turn.served.stood

pub GoesOn-refl : (s : Script) (n : ℕ) (book : BookView) (all : List Spot) (line : Waiting) → IsStage book.config s n book.posts all → IsSupplied Always book.config s book.posts all line
    → GoesOn s n book book all all line line
GoesOn-refl s n book all line stage supplied = record { config = refl; size = refl; same_names = refl; stage = stage; supplied = supplied; less = omega arith }

pub GoesOn-trans : (s : Script) (n m : ℕ) (a b c : BookView) (x y z : List Spot) (u v w : Waiting) → GoesOn s n a b x y u v → GoesOn s m b c y z v w → GoesOn s m a c x z u w
GoesOn-trans s n m a b c x y z u v w one two = record {
  config = two.config ∙ one.config;
  size = two.size ∙ one.size;
  same_names = two.same_names ∙ one.same_names;
  stage = subst (λ (d : Numbers). IsStage d s m c.posts z) one.config two.stage;
  supplied = subst (λ (d : Numbers). IsSupplied Always d s c.posts z w) one.config two.supplied;
  less = omega (arith, one.less, two.less);
}

-- what holds of the state that a call began in, told of the state that it left
pub stage_on : (s : Script) (n : ℕ) (a b : BookView) (x y : List Spot) (u v : Waiting) → GoesOn s n a b x y u v → IsStage b.config s n b.posts y
stage_on s n a b x y u v goes = subst (λ (d : Numbers). IsStage d s n b.posts y) (sym goes.config) goes.stage

pub supplied_on : (s : Script) (n : ℕ) (a b : BookView) (x y : List Spot) (u v : Waiting) → GoesOn s n a b x y u v → IsSupplied Always b.config s b.posts y v
supplied_on s n a b x y u v goes = subst (λ (d : Numbers). IsSupplied Always d s b.posts y v) (sym goes.config) goes.supplied

-- ---- the measure at the start

left-few : (c : Numbers) (s : Script) (started : Bool) (spot : Spot) → IsSpot c s started spot → left_at spot ≤ 4
left-few c s started (correct p) own = omega (arith, own.sound.few)
left-few c s started (lying h) own = omega arith

sum-few : (all : List Spot) → ((p : ℕ) (spot : Spot) → slice_get all p ≡ Some spot → left_at spot ≤ 4) → sum_by left_at all ≤ 4 * length all
sum-few [] few = omega arith
sum-few (spot ∷ all) few =
    omega (arith, sum_by-cons left_at spot all, few 0 spot refl, sum-few all (λ p there at. few (suc p) there at))

pub weight-few : (c : Numbers) (s : Script) (posts : List Post) (all : List Spot) → IsStage c s 0 posts all → weight posts all nothing_waits + 1 < 2 ^ 68
weight-few c s posts all stage =
    omega (arith, sum-few all (λ p spot at. left-few c s (nat_lt p 0) spot (stage.own p spot at)), stage.few)

-- nothing waits yet, and nothing stands
pub IsSupplied-empty : (c : Numbers) (s : Script) (all : List Spot) (w : Waiting) → IsSupplied Always c s [] all w
IsSupplied-empty c s all w = record { each = λ p k pl _ stands running received. absurd (cc (received.stands)) }

-- ---- ends

ends_one : (spot : Spot) → filter_map end_of (spot ∷ []) ≡ ends_at spot
ends_one (correct p) = refl
ends_one (lying h) = refl

front_more : (all : List Spot) (n : ℕ) (spot : Spot) → slice_get all n ≡ Some spot → take (n + 1) all ≡ take n all ++ spot ∷ []
front_more all n spot stands =
    take_more all n spot (slice_get_within all n spot stands) ∙ ap (λ (o : Spot). take n all ++ o ∷ []) (got all n spot stands)
  where
    got : (xs : List Spot) (i : ℕ) (x : Spot) → slice_get xs i ≡ Some x → get_or xs i x ≡ x
    got [] i x at = refl
    got (y ∷ xs) zero x at = cc
    got (y ∷ xs) (suc i) x at = got xs i x at

pub ends_more : (all : List Spot) (n : ℕ) (spot : Spot) (ends ends' : List EndView) → slice_get all n ≡ Some spot → ends ≡ filter_map end_of (take n all) → ends' ≡ ends ++ ends_at spot
    → ends' ≡ filter_map end_of (take (n + 1) all)
ends_more all n spot ends ends' stands was more =
    more ∙ ap (λ (es : List EndView). es ++ ends_at spot) was
    ∙ ap (λ (es : List EndView). filter_map end_of (take n all) ++ es) (sym (ends_one spot))
    ∙ sym (filter_map-append end_of (take n all) (spot ∷ []))
    ∙ sym (ap (λ (front : List Spot). filter_map end_of front) (front_more all n spot stands))

pub kept_more : (all : List Spot) (n : ℕ) (spot : Spot) → slice_get all n ≡ Some spot → AreKept n all → IsKeptAt spot → AreKept (n + 1) all
kept_more all n spot stands kept here = record {
  each = λ p o below at. elim (cases_lt p n) [
    | inl before ↦ kept.each p o before at
    | inr after ↦
        let same : p ≡ n = omega (arith, below, after) in
        let there : slice_get all n ≡ Some o = ap (λ (q : ℕ). slice_get all q) (sym same) ∙ at in
        let is : spot ≡ o = cc in
        subst (λ (x : Spot). IsKeptAt x) is here
  ];
}

-- ---- all of it

pub HasRun-of : (s : Script) (n : ℕ) (book book' : BookView) (old new : List Spot) (line line' : Waiting) → IsTeam book.config (names old) → GoesOn s n book book' old new line line'
    → n ≡ length old → line' ≡ nothing_waits → AreKept (length new) new → HasRun book.config s book'.posts new
HasRun-of s n book book' old new line line' team goes is rests kept = record {
  team = subst (λ (all : List Name). IsTeam book.config all) (sym goes.same_names) team;
  stage = subst (λ (m : ℕ). IsStage book.config s m book'.posts new) (is ∙ sym goes.size) goes.stage;
  supplied = subst (λ (w : Waiting). IsSupplied Always book.config s book'.posts new w) rests goes.supplied;
  kept = kept;
}

-- ---- a whole run of the line

-- an element at a place below the length is there
there_is : {A : Type 0} (xs : List A) (i : ℕ) → i < length xs → slice_get xs i ≡ None → ⊥
there_is [] i within none = omega (arith, within)
there_is (x ∷ xs) zero within none = cc (none)
there_is (x ∷ xs) (suc i) within none = there_is xs i (omega (arith, within)) none

next_place-below : (order : Order) (words : ChaCha) (count : ℕ) → 0 < count → next_place order words count < count
next_place-below Fifo words count some = some
next_place-below Mixed words count some = omega (arith, some)

some_length : (e : Envelope) (es : List Envelope) → 0 < length (e ∷ es)
some_length e es = omega arith

abbrev only_late : List Envelope → Waiting
only_late late = record { prompt = []; late = late }

abbrev no_envelopes : List Envelope
no_envelopes = []

remove_nil : (i : ℕ) → remove no_envelopes i ≡ no_envelopes
remove_nil zero = refl
remove_nil (suc i) = refl

-- where none is next, none waits
none_in : (order : Order) (words : ChaCha) (prompt late : List Envelope) → None ≡ next_in order words prompt late
    → (nothing_waits ≡ record { prompt = prompt; late = late }) × (nothing_waits ≡ rest_in order words prompt late)
none_in order words [] [] none = (refl, ap (λ (es : List Envelope). only_late es) (sym (remove_nil (next_place order words 0))))
none_in order words [] (e ∷ es) none = absurd (there_is (e ∷ es) (next_place order words (length (e ∷ es))) (next_place-below order words (length (e ∷ es)) (some_length e es)) (sym none))
none_in order words (e ∷ es) late none = absurd (there_is (e ∷ es) (next_place order words (length (e ∷ es))) (next_place-below order words (length (e ∷ es)) (some_length e es)) (sym none))

pub nothing_left : (order : Order) (words : ChaCha) (old new : Waiting) → None ≡ next_of order words old → new ≡ after_next order words old → (old ≡ nothing_waits) × (new ≡ nothing_waits)
nothing_left order words old new none rest = let both = none_in order words old.prompt old.late none in (sym both.0, rest ∙ sym both.1)

pub GoesOn-rests : (s : Script) (n : ℕ) (a b : BookView) (x y : List Spot) (u v w : Waiting) → v ≡ w → GoesOn s n a b x y u v → GoesOn s n a b x y u w
GoesOn-rests s n a b x y u v w same goes = subst (λ (z : Waiting). GoesOn s n a b x y u z) same goes

weight-taken : (posts : List Post) (all : List Spot) (v v' : Waiting) → count_waiting v' + 1 ≡ count_waiting v → weight posts all v' + 1 ≡ weight posts all v
weight-taken posts all v v' less = omega (arith, less)

-- an envelope was taken, and served
pub GoesOn-taken : (s : Script) (n : ℕ) (a b c : BookView) (x y z : List Spot) (u v v' w : Waiting) (taken : Envelope) → GoesOn s n a b x y u v → n ≡ length x → IsTakenOut taken v v'
    → GoesOn s (length y) b c y z v' w → GoesOn s n a c x z u w
GoesOn-taken s n a b c x y z u v v' w taken one is out two =
    let started : length y ≡ n = one.size ∙ sym is in
    record {
      config = two.config ∙ one.config;
      size = two.size ∙ one.size;
      same_names = two.same_names ∙ one.same_names;
      stage = subst (λ (m : ℕ). IsStage a.config s m c.posts z) started (subst (λ (d : Numbers). IsStage d s (length y) c.posts z) one.config two.stage);
      supplied = subst (λ (d : Numbers). IsSupplied Always d s c.posts z w) one.config two.supplied;
      less = omega (arith, one.less, two.less, weight-taken b.posts y v v' out.less);
    }

-- what is left to do has fallen
pub weight-fell : (s : Script) (n : ℕ) (b c : BookView) (y z : List Spot) (v v' w : Waiting) (taken : Envelope) → IsTakenOut taken v v' → GoesOn s n b c y z v' w
    → weight c.posts z w + 1 ≤ weight b.posts y v
weight-fell s n b c y z v v' w taken out two = omega (arith, two.less, weight-taken b.posts y v v' out.less)

pub words-few : (s : Script) (n : ℕ) (a b : BookView) (x y : List Spot) (u v : Waiting) (c : Numbers) → a.posts ≡ [] → u ≡ nothing_waits → IsStage c s 0 [] x → GoesOn s n a b x y u v
    → weight b.posts y v + 1 < 2 ^ 68
words-few s n a b x y u v c empty rests stage goes =
    let few : weight a.posts x u + 1 < 2 ^ 68 =
    subst (λ (w : Waiting). weight a.posts x w + 1 < 2 ^ 68) (sym rests)
    (weight-few c s a.posts x (subst (λ (posts : List Post). IsStage c s 0 posts x) (sym empty) stage)) in
    omega (arith, few, goes.less)

-- two calls, of which the second began with all places started
pub GoesOn-all : (s : Script) (a b c : BookView) (x y z : List Spot) (u v w : Waiting) → GoesOn s (length x) a b x y u v → GoesOn s (length y) b c y z v w → GoesOn s (length x) a c x z u w
GoesOn-all s a b c x y z u v w one two = GoesOn-trans s (length x) (length x) a b c x y z u v w one (subst (λ (n : ℕ). GoesOn s n b c y z v w) one.size two)

pub AreKept-of : {A L : Type 0} (seat : A → SeatView) (view : A → ActorView) (ps qs : List (Place A L)) → ps ≡ qs → AreKept (length ps) (spots seat view ps)
    → AreKept (length (spots seat view qs)) (spots seat view qs)
AreKept-of {A} {L} seat view ps qs same kept =
    subst (λ (n : ℕ). AreKept n (spots seat view qs)) (sym (spots_count seat view qs)) (subst (λ (rs : List (Place A L)). AreKept (length rs) (spots seat view rs)) same kept)

-- the list of places, lent
pub few_lent : {A L : Type 0} (seat : A → SeatView) (view : A → ActorView) (ps qs : List (Place A L)) → ps ≡ qs → length (spots seat view qs) ≤ most_places → length (spots seat view ps) ≤ most_places
few_lent {A} {L} seat view ps qs same few = subst (λ (rs : List (Place A L)). length (spots seat view rs) ≤ most_places) (sym same) few

pub place_lent : {A L : Type 0} (seat : A → SeatView) (view : A → ActorView) (ps qs : List (Place A L)) (p : ℕ) (again : Option ℕ) → ps ≡ qs
    → IfSome again (λ _. p < length (spots seat view qs)) → IfSome again (λ _. p < length (spots seat view ps))
place_lent {A} {L} seat view ps qs p again same within = subst (λ (rs : List (Place A L)). IfSome again (λ _. p < length (spots seat view rs))) (sym same) within

pub followed_lent : {A L : Type 0} (seat : A → SeatView) (view : A → ActorView) (ps qs : List (Place A L)) (c : Numbers) (s : Script) (posts : List Post) (first p : ℕ) (again : Option ℕ)
    (old new : Waiting) → ps ≡ qs → AreFollowed c s posts (spots seat view ps) first p again old new → AreFollowed c s posts (spots seat view qs) first p again old new
followed_lent {A} {L} seat view ps qs c s posts first p again old new same followed =
    subst (λ (rs : List (Place A L)). AreFollowed c s posts (spots seat view rs) first p again old new) same followed
