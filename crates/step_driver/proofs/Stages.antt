-- All places, from one delivery to the next.
use Rattle.std.proofs.Common.{◌≡◌, ◌≢◌, ◌⊎◌, ℕ, zero, suc, ◌+◌, ◌-◌, ◌*◌, ◌<◌, ◌≤◌, Bool, true, inl, inr, List, [], ◌∷◌, ◌++◌, length, map, set, Contains, Option, Some, None, refl, sym, ap, ◌∙◌, subst, arith, slice_get}
use Rattle.std.specs.Prelude.{nat_lt, sum_by, IfSome}
use Rattle.std.proofs.lemmas.List.{length-set}
use Rattle.std.proofs.lemmas.List.Sums.{sum_by-cons}
use Rattle.std.proofs.lemmas.Bool.{cases_lt, cases_eq}
use Rattle.hb_base.specs.Numbers.{Numbers}
use Rattle.hb_base.specs.Limits.{most_posts}
use Rattle.hb_wire.specs.declared.post.Post.{Post}
use Rattle.net_script.specs.declared.script.Script.{Script}
use Rattle.hb_rules.specs.declared.report.Fate.TheVariants.{Running}
use Rattle.hb_rules.specs.Book.{SeatView, BookView, AreTwo, IsSeatOf, Moved}
use Rattle.hb_rules.specs.BookLaws.{IsSeatOf-moved}
use Rattle.hb_rules.specs.Report.{IsReceived}
use Rattle.step_driver.specs.Waiting.{Waiting}
use Rattle.step_driver.specs.Places.{PlayerView, Spot, correct, lying, seat_of, name_of, left, left_at}
use Rattle.step_driver.specs.Delivering.{IsSpot, WasRestarted, Serves, IsStage, IsOut, IsSupplied, But, Before, resent, ones, IsBetween, WasServed, AreSent, AreResent, AreFollowed}
use Rattle.step_driver.proofs.Playing.{slice_get-none, Moved-longer}

-- ---- lists

pub slice_get-set_same : {A : Type 0} (xs : List A) (p : ℕ) (x y : A) → slice_get xs p ≡ Some x → slice_get (set xs p y) p ≡ Some y
slice_get-set_same [] p x y stands = absurd (cc (stands))
slice_get-set_same (z ∷ xs) zero x y stands = refl
slice_get-set_same (z ∷ xs) (suc p) x y stands = slice_get-set_same xs p x y stands

pub slice_get-set_other : {A : Type 0} (xs : List A) (p q : ℕ) (y : A) → q ≢ p → slice_get (set xs p y) q ≡ slice_get xs q
slice_get-set_other [] p q y apart = refl
slice_get-set_other (x ∷ xs) zero zero y apart = absurd (apart refl)
slice_get-set_other (x ∷ xs) zero (suc q) y apart = refl
slice_get-set_other (x ∷ xs) (suc p) zero y apart = refl
slice_get-set_other (x ∷ xs) (suc p) (suc q) y apart = slice_get-set_other xs p q y (λ same. apart (ap (λ (n : ℕ). suc n) same))

pub map-set_same : {A B : Type 0} (f : A → B) (xs : List A) (p : ℕ) (x y : A) → slice_get xs p ≡ Some x → f y ≡ f x → map f (set xs p y) ≡ map f xs
map-set_same f [] p x y stands same = refl
map-set_same f (z ∷ zs) zero x y stands same = let is : z ≡ x = cc in ap (λ b. b ∷ map f zs) (same ∙ ap f (sym is))
map-set_same f (z ∷ zs) (suc p) x y stands same = ap (λ bs. f z ∷ bs) (map-set_same f zs p x y stands same)

pub slice_get-map : {A B : Type 0} (f : A → B) (xs : List A) (p : ℕ) (x : A) → slice_get xs p ≡ Some x → slice_get (map f xs) p ≡ Some (f x)
slice_get-map f [] p x stands = absurd (cc (stands))
slice_get-map f (z ∷ zs) zero x stands = let is : z ≡ x = cc in ap (λ a. Some (f a)) is
slice_get-map f (z ∷ zs) (suc p) x stands = slice_get-map f zs p x stands

pub sum_by-set_at : {A : Type 0} (f : A → ℕ) (xs : List A) (p : ℕ) (x y : A) → slice_get xs p ≡ Some x → sum_by f (set xs p y) + f x ≡ sum_by f xs + f y
sum_by-set_at f [] p x y stands = absurd (cc (stands))
sum_by-set_at f (z ∷ zs) zero x y stands = let is : z ≡ x = cc in
    omega (arith, sum_by-cons f y zs, sum_by-cons f z zs, ap f is)
sum_by-set_at f (z ∷ zs) (suc p) x y stands =
    omega (arith, sum_by-cons f z (set zs p y), sum_by-cons f z zs, sum_by-set_at f zs p x y stands)

-- ---- one place was served

-- what is the same of actors and liars
pub record IsServed (s : Script) (book book' : BookView) (old new : Spot) (again : Option ℕ) : Type 0 where
  pub moved : Moved (seat_of old).node (seat_of old).actor book book'
  pub seat : IsSeatOf book' (seat_of new)
  pub name : name_of new ≡ name_of old
  pub node : (seat_of new).node ≡ (seat_of old).node
  pub actor : (seat_of new).actor ≡ (seat_of old).actor
  pub spot : IsSpot book.config s true new
  pub left : left_at new + ones again ≤ left_at old
  pub stood : IfSome again (IsBetween (length book.posts) (length book'.posts))

left-restarted : (book book' : BookView) (old new : PlayerView) (again : Option ℕ) → left new ≤ left old → IfSome again (WasRestarted book book' old new)
    → left new + ones again ≤ left old
left-restarted book book' old new None less restarted = omega (arith, less)
left-restarted book book' old new (Some stood) less restarted = restarted.left

stood-restarted : (book book' : BookView) (old new : PlayerView) (again : Option ℕ) → IfSome again (WasRestarted book book' old new)
    → IfSome again (IsBetween (length book.posts) (length book'.posts))
stood-restarted book book' old new None restarted = tt
stood-restarted book book' old new (Some stood) restarted = (restarted.before, restarted.within)

none-again : (low high : ℕ) (again : Option ℕ) → again ≡ None → (0 + ones again ≤ 0) × IfSome again (IsBetween low high)
none-again low high None is = (omega arith, tt)
none-again low high (Some stood) is = absurd (cc (is))

pub IsServed-from : (s : Script) (k : ℕ) (book book' : BookView) (old new : Spot) (again : Option ℕ) → Serves s k book book' old new again
    → IsServed s book book' old new again
IsServed-from s k book book' (correct old) (correct new) again plays = record {
  moved = plays.passes.moved;
  seat = plays.passes.seat;
  name = rw (plays.passes.node, plays.passes.actor) refl;
  node = plays.passes.node;
  actor = plays.passes.actor;
  spot = plays.player;
  left = left-restarted book book' old new again plays.passes.left plays.restarted;
  stood = stood-restarted book book' old new again plays.restarted;
}
IsServed-from s k book book' (lying old) (lying new) again (speaks, none) = record {
  moved = speaks.moved;
  seat = speaks.seat;
  name = rw (speaks.node, speaks.actor) refl;
  node = speaks.node;
  actor = speaks.actor;
  spot = speaks.hired;
  left = (none-again (length book.posts) (length book'.posts) again none).0;
  stood = (none-again (length book.posts) (length book'.posts) again none).1;
}
IsServed-from s k book book' (correct old) (lying new) again serves = absurd serves
IsServed-from s k book book' (lying old) (correct new) again serves = absurd serves

-- who stands at a place after one was set
record IsAt (all : List Spot) (p0 : ℕ) (old new : Spot) (p : ℕ) (spot : Spot) : Type 0 where
  pub case : ((p ≡ p0) × (spot ≡ new)) ⊎ ((p ≢ p0) × (slice_get all p ≡ Some spot))

is_at : (all : List Spot) (p0 : ℕ) (old new : Spot) (p : ℕ) (spot : Spot) → slice_get all p0 ≡ Some old → slice_get (set all p0 new) p ≡ Some spot
    → IsAt all p0 old new p spot
is_at all p0 old new p spot stands there = elim (cases_eq p p0) [
  | inl same ↦ record { case = inl (same, here same) }
  | inr apart ↦ record { case = inr (apart, sym (slice_get-set_other all p0 p new apart) ∙ there) }
]
  where
    here : p ≡ p0 → spot ≡ new
    here same =
        let found : slice_get (set all p0 new) p ≡ Some new = ap (λ (q : ℕ). slice_get (set all p0 new) q) same ∙ slice_get-set_same all p0 old new stands in
        cc

IsSeatOf-at : (c : Numbers) (book : BookView) (seat : SeatView) → book.config ≡ c → IsSeatOf book seat → IsSeatOf (record { config = c; posts = book.posts }) seat
IsSeatOf-at c book seat same is_seat = record { config = is_seat.config ∙ same; known = is_seat.known; watched = is_seat.watched }

-- the seats of other places are of the book as before
seat_on : (c : Numbers) (book book' : BookView) (i x : ℕ) (seat : SeatView) → book.config ≡ c → Moved i x book book' → AreTwo c i x seat.node seat.actor
    → IsSeatOf (record { config = c; posts = book.posts }) seat → IsSeatOf (record { config = c; posts = book'.posts }) seat
seat_on c book book' i x seat same moved apart is_seat =
    let here : IsSeatOf book seat = record { config = is_seat.config ∙ sym same; known = is_seat.known; watched = is_seat.watched } in
    IsSeatOf-at c book' seat (moved.config ∙ same)
    (IsSeatOf-moved i x book book' seat moved (subst (λ (d : Numbers). AreTwo d i x seat.node seat.actor) (sym is_seat.config) apart) here)

pub IsStage-served : (c : Numbers) (s : Script) (n m p0 : ℕ) (book book' : BookView) (all : List Spot) (old new : Spot) (again : Option ℕ) → book.config ≡ c
    → IsStage c s n book.posts all → slice_get all p0 ≡ Some old → IsServed s book book' old new again
    → nat_lt p0 m ≡ true → ((q : ℕ) → q ≢ p0 → nat_lt q m ≡ nat_lt q n) → IsStage c s m book'.posts (set all p0 new)
IsStage-served c s n m p0 book book' all old new again same stage stands served here there = record {
  few = omega (arith, length-set all p0 new, stage.few);
  seats = seats;
  own = own;
  apart = apart;
}
  where
    seats : (p : ℕ) (spot : Spot) → slice_get (set all p0 new) p ≡ Some spot → IsSeatOf (record { config = c; posts = book'.posts }) (seat_of spot)
    seats p spot at = elim (is_at all p0 old new p spot stands at).case [
      | inl (is, is_new) ↦ subst (λ (o : Spot). IsSeatOf (record { config = c; posts = book'.posts }) (seat_of o)) (sym is_new)
          (IsSeatOf-at c book' (seat_of new) (served.moved.config ∙ same) served.seat)
      | inr (other, was) ↦ seat_on c book book' (seat_of old).node (seat_of old).actor (seat_of spot) same served.moved
          (stage.apart p0 p old spot stands was (λ e. other (sym e))) (stage.seats p spot was)
    ]

    own : (p : ℕ) (spot : Spot) → slice_get (set all p0 new) p ≡ Some spot → IsSpot c s (nat_lt p m) spot
    own p spot at = elim (is_at all p0 old new p spot stands at).case [
      | inl (is, is_new) ↦ subst (λ (b : Bool). IsSpot c s b spot) (sym (ap (λ (q : ℕ). nat_lt q m) is ∙ here))
          (subst (λ (d : Numbers). IsSpot d s true spot) same (subst (λ (o : Spot). IsSpot book.config s true o) (sym is_new) served.spot))
      | inr (other, was) ↦ subst (λ (b : Bool). IsSpot c s b spot) (sym (there p other)) (stage.own p spot was)
    ]

    -- the spot that stood there before, with the same seat's name
    was_at : (p : ℕ) (spot : Spot) → slice_get (set all p0 new) p ≡ Some spot
        → (o : Spot) × ((slice_get all p ≡ Some o) × ((seat_of spot).node ≡ (seat_of o).node) × ((seat_of spot).actor ≡ (seat_of o).actor))
    was_at p spot at = elim (is_at all p0 old new p spot stands at).case [
      | inl (is, is_new) ↦ (old, (ap (λ (q : ℕ). slice_get all q) is ∙ stands, ap (λ (o : Spot). (seat_of o).node) is_new ∙ served.node, ap (λ (o : Spot). (seat_of o).actor) is_new ∙ served.actor))
      | inr (other, was) ↦ (spot, (was, refl, refl))
    ]

    apart : (p q : ℕ) (a b : Spot) → slice_get (set all p0 new) p ≡ Some a → slice_get (set all p0 new) q ≡ Some b → p ≢ q
        → AreTwo c (seat_of a).node (seat_of a).actor (seat_of b).node (seat_of b).actor
    apart p q a b at_p at_q other =
        let one = was_at p a at_p in
        let two = was_at q b at_q in
        let was : AreTwo c (seat_of one.0).node (seat_of one.0).actor (seat_of two.0).node (seat_of two.0).actor = stage.apart p q one.0 two.0 one.1.0 two.1.0 other in
        rw (one.1.1, one.1.2, two.1.1, two.1.2) was

-- ---- what is supplied

-- a post that stood before comes to whom it came
received_before : (c : Numbers) (s : Script) (book book' : BookView) (i x a y k : ℕ) → Moved i x book book' → k < length book.posts
    → IsReceived c s book'.posts a y k → IsReceived c s book.posts a y k
received_before c s book book' i x a y k moved below received = record {
  post = received.post;
  stands =
      sym (slice_get-below book.posts moved.extended.added k below)
      ∙ ap (λ (posts : List Post). slice_get posts k) (sym moved.extended.is) ∙ received.stands;
  comes = received.comes;
}
  where
    slice_get-below : (xs ys : List Post) (k : ℕ) → k < length xs → slice_get (xs ++ ys) k ≡ slice_get xs k
    slice_get-below [] ys k below = absurd (omega (arith, below))
    slice_get-below (x ∷ xs) ys zero below = refl
    slice_get-below (x ∷ xs) ys (suc k) below = slice_get-below xs ys k (omega (arith, below))

-- the place that was served
supplied_here : (c : Numbers) (s : Script) (k0 p0 k : ℕ) (book book' : BookView) (all : List Spot) (old : Spot) (pl : PlayerView) (again : Option ℕ) (w : Waiting)
    → book.config ≡ c → slice_get all p0 ≡ Some old → Serves s k0 book book' old (correct pl) again → again ≡ None
    → IsSupplied (But p0 k0) c s book.posts all w → k < length book.posts → pl.fate ≡ Running → IsReceived c s book'.posts pl.seat.node pl.seat.actor k
    → Contains pl.view.got k ⊎ IsOut w k p0
supplied_here c s k0 p0 k book book' all (lying h) pl again w same stands serves none supplied below running received = absurd serves
supplied_here c s k0 p0 k book book' all (correct po) pl (Some stood) w same stands plays none supplied below running received = absurd (cc (none))
supplied_here c s k0 p0 k book book' all (correct po) pl None w same stands plays none supplied below running received =
    let worked = plays.worked running in
    elim (cases_eq k k0) [
      | inl is ↦ inl (subst (λ (j : ℕ). Contains pl.view.got j) (sym is)
          (worked.1.1 (subst (λ (j : ℕ). IsReceived book.config s book'.posts pl.seat.node pl.seat.actor j) is
          (subst (λ (d : Numbers). IsReceived d s book'.posts pl.seat.node pl.seat.actor k) (sym same) received))))
      | inr other ↦
          let before = received_before c s book book' po.seat.node po.seat.actor pl.seat.node pl.seat.actor k plays.passes.moved below received in
          elim (supplied.each p0 k po (inr other) stands worked.0
          (subst (λ (x : ℕ). IsReceived c s book.posts po.seat.node x k) plays.passes.actor
          (subst (λ (i : ℕ). IsReceived c s book.posts i pl.seat.actor k) plays.passes.node before))) [
            | inl had ↦ inl (worked.1.0 k had)
            | inr out ↦ inr out
          ]
    ]

pub IsSupplied-served : (c : Numbers) (s : Script) (k0 p0 : ℕ) (book book' : BookView) (all : List Spot) (old new : Spot) (again : Option ℕ) (w : Waiting)
    → book.config ≡ c → slice_get all p0 ≡ Some old → Serves s k0 book book' old new again
    → IsSupplied (But p0 k0) c s book.posts all w → IsSupplied (Before (length book.posts) p0 again) c s book'.posts (set all p0 new) w
IsSupplied-served c s k0 p0 book book' all old new again w same stands serves supplied = record { each = each }
  where
    each : (p k : ℕ) (pl : PlayerView) → Before (length book.posts) p0 again p k → slice_get (set all p0 new) p ≡ Some (correct pl) → pl.fate ≡ Running
        → IsReceived c s book'.posts pl.seat.node pl.seat.actor k → Contains pl.view.got k ⊎ IsOut w k p
    each p k pl (below, which) at running received = elim (is_at all p0 old new p (correct pl) stands at).case [
      | inr (other, was) ↦ supplied.each p k pl (inl other) was running
          (received_before c s book book' (seat_of old).node (seat_of old).actor pl.seat.node pl.seat.actor k (IsServed-from s k0 book book' old new again serves).moved below received)
      | inl (is, is_new) ↦
          let none : again ≡ None = elim which [ inl other ↦ absurd (other is) | inr none ↦ none ] in
          subst (λ (q : ℕ). Contains pl.view.got k ⊎ IsOut w k q) (sym is)
          (supplied_here c s k0 p0 k book book' all old pl again w same stands
          (subst (λ (o : Spot). Serves s k0 book book' old o again) (sym is_new) serves) none supplied below running received)
    ]

-- ---- the place p0 was served

pub WasServed-from : (s : Script) (k0 p0 : ℕ) (book book' : BookView) (all : List Spot) (old new : Spot) (again : Option ℕ)
    → slice_get all p0 ≡ Some old → Serves s k0 book book' old new again → WasServed s k0 p0 book book' all (set all p0 new) again
WasServed-from s k0 p0 book book' all old new again stands serves =
    let served = IsServed-from s k0 book book' old new again serves in
    record {
      size = length-set all p0 new;
      same_names = map-set_same name_of all p0 old new stands served.name;
      config = served.moved.config;
      longer = Moved-longer (seat_of old).node (seat_of old).actor book book' served.moved;
      stood = served.stood;
      left = omega (arith, sum_by-set_at left_at all p0 old new stands, served.left);
      supplied = λ w supplied. IsSupplied-served book.config s k0 p0 book book' all old new again w refl stands serves supplied;
    }

-- the place is not there: nothing was done
pub WasServed-none : (s : Script) (k0 p0 : ℕ) (book : BookView) (all : List Spot) → length all ≤ p0 → WasServed s k0 p0 book book all all None
WasServed-none s k0 p0 book all past = record {
  size = refl;
  same_names = refl;
  config = refl;
  longer = omega arith;
  stood = tt;
  left = omega arith;
  supplied = λ w supplied. record {
    each = λ p k pl which stands running received. elim (cases_eq p p0) [
      | inl is ↦ absurd (slice_get-none all p (correct pl) (omega (arith, past, is)) stands)
      | inr other ↦ supplied.each p k pl (inl other) stands running received
    ];
  };
}

-- ---- new posts and second deliveries are under way

followed_again : (c : Numbers) (s : Script) (posts : List Post) (all : List Spot) (first p0 : ℕ) (again : Option ℕ) (old mid new : Waiting) (p k : ℕ) (pl : PlayerView)
    → IsSupplied (Before first p0 again) c s posts all old → ((k p : ℕ) → IsOut old k p → IsOut new k p)
    → ((k : ℕ) → k < first → again ≢ None → slice_get all p0 ≡ Some (correct pl) → IsReceived c s posts pl.seat.node pl.seat.actor k → IsOut new k p0)
    → k < first → slice_get all p ≡ Some (correct pl) → pl.fate ≡ Running → IsReceived c s posts pl.seat.node pl.seat.actor k
    → Contains pl.view.got k ⊎ IsOut new k p
followed_again c s posts all first p0 None old mid new p k pl supplied kept resent below stands running received =
    elim (supplied.each p k pl (below, inr refl) stands running received) [ inl had ↦ inl had | inr out ↦ inr (kept k p out) ]
followed_again c s posts all first p0 (Some stood) old mid new p k pl supplied kept resent below stands running received = elim (cases_eq p p0) [
  | inl is ↦ inr (subst (λ (q : ℕ). IsOut new k q) (sym is) (resent k below (λ none. cc (none)) (ap (λ (q : ℕ). slice_get all q) (sym is) ∙ stands) received))
  | inr other ↦ elim (supplied.each p k pl (below, inl other) stands running received) [ inl had ↦ inl had | inr out ↦ inr (kept k p out) ]
]

pub AreFollowed-none : (c : Numbers) (s : Script) (posts : List Post) (all : List Spot) (first p0 : ℕ) (old new : Waiting) → length posts ≤ most_posts
    → AreSent c s posts all first old new → AreFollowed c s posts all first p0 None old new
AreFollowed-none c s posts all first p0 old new short sent = record {
  supplied = λ supplied. record {
    each = λ p k pl _ stands running received. elim (cases_lt k first) [
      | inl below ↦ followed_again c s posts all first p0 None old old new p k pl supplied sent.kept (λ j _ some. absurd (some refl)) below stands running received
      | inr above ↦ inr (sent.sent p k pl above stands received)
    ];
  };
  few = omega (arith, sent.few);
  short = short;
}

pub AreFollowed-some : (c : Numbers) (s : Script) (posts : List Post) (all : List Spot) (first p0 stood : ℕ) (old mid new : Waiting) → length posts ≤ most_posts
    → first ≤ stood → AreSent c s posts all first old mid → AreResent c s posts all p0 stood mid new → AreFollowed c s posts all first p0 (Some stood) old new
AreFollowed-some c s posts all first p0 stood old mid new short low sent resent = record {
  supplied = λ supplied. record {
    each = λ p k pl _ stands running received. elim (cases_lt k first) [
      | inl below ↦ followed_again c s posts all first p0 (Some stood) old mid new p k pl supplied (λ j q out. resent.kept j q (sent.kept j q out))
          (λ j under _ there comes. resent.sent j pl (omega (arith, under, low)) there comes) below stands running received
      | inr above ↦ inr (resent.kept k p (sent.sent p k pl above stands received))
    ];
  };
  few = omega (arith, sent.few, resent.few);
  short = short;
}

-- ---- the measure

pub weight-served : (a b n n' left_before left_after : ℕ) (again : Option ℕ) → a ≤ b → b ≤ most_posts → IfSome again (IsBetween a b) → n' ≤ n + 544 * (b - a) + resent again
    → left_after + ones again ≤ left_before
    → n' + 544 * (most_posts - b) + most_posts * left_after ≤ n + 544 * (most_posts - a) + most_posts * left_before
weight-served a b n n' left_before left_after None longer short stood more less = omega (arith, longer, short, more, less)
weight-served a b n n' left_before left_after (Some k) longer short stood more less = omega (arith, longer, short, stood.1, more, less)
