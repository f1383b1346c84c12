-- All actors of a run at a time.
use Rattle.std.proofs.Common.{◌≡◌, ℕ, zero, suc, ◌+◌, ◌<◌, ◌≤◌, true, inl, inr, List, [], ◌∷◌, length, map, set, Contains, Option, None, Some, refl, sym, ap, ◌∙◌, subst, arith, slice_get, get_or}
use Rattle.std.specs.Prelude.{All, IfSome}
use Rattle.std.specs.List.{AllZip, AllWithin}
use Rattle.std.proofs.lemmas.Bool.{cases_lt}
use Rattle.std.proofs.lemmas.Option.{slice_get_within, slice_get-get_or, get_or_from_slice_get}
use Rattle.std.proofs.lemmas.List.Elements.{All-weaker, All-set, AllWithin-more_set}
use Rattle.std.proofs.lemmas.List.{map-set, length-map}
use Rattle.hb_base.specs.Limits.{most_posts}
use Rattle.hb_wire.specs.declared.post.Post.{Post}
use Rattle.net_script.specs.declared.script.Script.{Script}
use Rattle.hb_rules.specs.declared.report.Fate.{Fate}
use Rattle.hb_rules.specs.declared.report.Fate.TheVariants.{Full}
use Rattle.hb_rules.specs.Book.{SeatView}
use Rattle.hb_rules.specs.Ledger.{IsPrefix}
use Rattle.hb_rules.specs.Report.{is_running_fate}
use Rattle.step_driver.specs.Places.{PlayerView}
use Rattle.step_driver.specs.Delivering.{HasFate}
use Rattle.step_driver.proofs.Stages.{slice_get-map}
use Rattle.last_deliveries.specs.Settling.{IsOfRun, HasGoneOn, IsSeenBySome, IsSettled}
use Rattle.last_deliveries.specs.Catching.{HasHeardTo, HasLooked, IsLevelWith, IsCaughtUp, HasReadAt, HasReadFront}
use Rattle.last_deliveries.proofs.Catches.{HasGoneOn-looked, IsCaughtUp-level}
use Rattle.last_deliveries.proofs.Zips.{AllZip-at, AllZip-was, AllZip-weaker, AllZip-set, AllZip-length}
use Rattle.last_deliveries.proofs.Readings.{IsPrefix-same, none_past}

-- an element that was read stands at its place, seen by its view
pub view_at : {X Y : Type 0} (view : X → Y) (xs : List X) (i : ℕ) (x : X) → i < length xs → x ≡ get_or xs i x → slice_get (map view xs) i ≡ Some (view x)
view_at {X} view xs i x within is = slice_get-map view xs i x (slice_get-get_or xs i x within ∙ ap (λ (o : X). Some o) (sym is))

pub All-at : {X : Type 0} (P : X → Type 0) (xs : List X) (i : ℕ) (x : X) → All P xs → slice_get xs i ≡ Some x → P x
All-at P xs i x all stands = subst P (get_or_from_slice_get xs i x x stands) (all i x (slice_get_within xs i x stands))

-- what all seats of one handle of a book know, those of another handle of it know too
pub known_on : {B S X : Type 0} (knows : B → S → Type 0) (seat : X → S) (a b : B) → ((s : S) → knows a s → knows b s) → (xs : List X) → All (λ x. knows a (seat x)) xs
    → All (λ x. knows b (seat x)) xs
known_on knows seat a b on xs all = All-weaker (λ x. knows a (seat x)) (λ x. knows b (seat x)) (λ x known. on (seat x) known) xs all

Contains-at : {X : Type 0} (xs : List X) (i : ℕ) (x : X) → slice_get xs i ≡ Some x → Contains xs x
Contains-at xs i x stands = (i, slice_get_within xs i x stands, get_or_from_slice_get xs i x x stands)

-- the actor that read the posts has seen no more of them in the end
seen_by : (s : Script) (posts : List Post) (place : ℕ) (old new : List PlayerView) → HasReadAt posts place old → AllZip HasGoneOn old new → All (IsCaughtUp s posts) new → IsSeenBySome posts new
seen_by s posts place old new read went up =
    let pair = AllZip-at HasGoneOn old new place read.player went read.stands in
    let few : length pair.other.seat.seen ≤ length posts = (All-at (IsCaughtUp s posts) new place pair.other up pair.stands).few in
    record {
      player = pair.other;
      stands = Contains-at new place pair.other pair.stands;
      seen =
          IsPrefix-same read.player.seat.seen pair.other.seat.seen pair.pair.seen (omega (arith, few, ap (λ (ps : List Post). length ps) read.seen))
          ∙ read.seen;
    }

-- what it has seen in the end still begins with these posts
pub HasReadFront-on : (posts : List Post) (place : ℕ) (old new : List PlayerView) → HasReadAt posts place old → AllZip HasGoneOn old new → HasReadFront posts place new
HasReadFront-on posts place old new read went p stands =
    let pair = AllZip-at HasGoneOn old new place read.player went read.stands in
    subst (λ (q : PlayerView). IsPrefix posts q.seat.seen) (some_same pair.other p (sym pair.stands ∙ stands))
    (subst (λ (ps : List Post). IsPrefix ps pair.other.seat.seen) read.seen pair.pair.seen)
  where
    some_same : (a b : PlayerView) → Some a ≡ Some b → a ≡ b
    some_same a b is = cc (is)

-- nobody was busy
pub IsSettled-up : (s : Script) (posts : List Post) (place count : ℕ) (old new : List PlayerView) (liars : List SeatView) → HasReadAt posts place old → AllZip HasGoneOn old new
    → All (IsCaughtUp s posts) new → length posts ≡ count → All (λ seat. length seat.seen ≤ count) liars → IsSettled s new liars count
IsSettled-up s posts place count old new liars read went up is level = record {
  all = inl (record { posts = posts; count = is; shown = seen_by s posts place old new read went up; each = λ k d within. (up k d within).all });
  few = λ k d within. omega (arith, (up k d within).few, is);
  level = level;
}

pub full_count : (fate : Fate) (p : PlayerView) → fate ≡ Full → HasFate true fate p.seat p.view → length p.seat.seen ≡ most_posts
full_count fate p full has = subst (λ (f : Fate). HasFate true f p.seat p.view) full has

-- each has ended by a full book
pub IsSettled-full : (s : Script) (count : ℕ) (players : List PlayerView) (liars : List SeatView) → All (λ p. p.fate ≡ Full) players → All (IsOfRun s) players → most_posts ≤ count
    → All (λ seat. length seat.seen ≤ count) liars → IsSettled s players liars count
IsSettled-full s count players liars full of_run most level = record {
  all = inr full;
  few = λ k d within.
      let p : PlayerView = get_or players k d in
      omega (arith, full_count p.fate p (full k d within) (of_run k d within).player.fate, most);
  level = level;
}

-- ---- one of them is served, and set at its place again

set_view : {X Y : Type 0} (P : List Y → Type 0) (view : X → Y) (xs : List X) (i : ℕ) (new : X) → P (set (map view xs) i (view new)) → P (map view (set xs i new))
set_view P view xs i new holds = subst P (sym (map-set view xs i new)) holds

pub AllZip-served : {X Y : Type 0} (R : Y → Y → Type 0) → ((x y z : Y) → R x y → R y z → R x z) → (view : X → Y) (first : List Y) (xs : List X) (i : ℕ) (old new : X) → i < length xs
    → old ≡ get_or xs i old → AllZip R first (map view xs) → R (view old) (view new) → AllZip R first (map view (set xs i new))
AllZip-served R next view first xs i old new within is pairs goes =
    set_view (λ ys. AllZip R first ys) view xs i new (AllZip-set R next first (map view xs) i (view old) (view new) (view_at view xs i old within is) pairs goes)

pub All-served : {X Y : Type 0} (P : Y → Type 0) (view : X → Y) (xs : List X) (i : ℕ) (new : X) → P (view new) → All P (map view xs) → All P (map view (set xs i new))
All-served P view xs i new holds all = set_view (λ ys. All P ys) view xs i new (All-set P (map view xs) i (view new) holds all)

pub AllWithin-served : {X Y : Type 0} (P : Y → Type 0) (view : X → Y) (xs : List X) (i : ℕ) (new : X) → i < length xs → AllWithin P (map view xs) 0 i → P (view new)
    → AllWithin P (map view (set xs i new)) 0 (i + 1)
AllWithin-served P view xs i new within all holds =
    set_view (λ ys. AllWithin P ys 0 (i + 1)) view xs i new (AllWithin-more_set (map view xs) i (view new) (omega (arith, within, length-map xs view)) P all holds)

-- what holds of each of them holds of the one at a place
pub All-view : {X Y : Type 0} (P : Y → Type 0) (view : X → Y) (xs : List X) (i : ℕ) (x : X) → i < length xs → x ≡ get_or xs i x → All P (map view xs) → P (view x)
All-view P view xs i x within is all = All-at P (map view xs) i (view x) all (view_at view xs i x within is)

-- the same of the elements themselves
pub All-read : {X : Type 0} (P : X → Type 0) (xs : List X) (i : ℕ) (x : X) → i < length xs → x ≡ get_or xs i x → All P xs → P x
All-read {X} P xs i x within is all = All-at P xs i x all (slice_get-get_or xs i x within ∙ ap (λ (o : X). Some o) (sym is))

pub All-views : {X Y : Type 0} (P : Y → Type 0) (view : X → Y) (xs : List X) → AllWithin P (map view xs) 0 (length xs) → All P (map view xs)
All-views P view xs all k d within = all k d (omega arith) (omega (arith, within, length-map xs view))

set_stands : {X : Type 0} (xs : List X) (i : ℕ) (x : X) → i < length xs → slice_get (set xs i x) i ≡ Some x
set_stands [] i x within = absurd (omega (arith, within))
set_stands (y ∷ xs) zero x within = refl
set_stands (y ∷ xs) (suc i) x within = set_stands xs i x (omega (arith, within))

pub view_served : {X Y : Type 0} (view : X → Y) (xs : List X) (i : ℕ) (new : X) → i < length xs → slice_get (map view (set xs i new)) i ≡ Some (view new)
view_served view xs i new within = slice_get-map view (set xs i new) i new (set_stands xs i new within)

-- as many of them as at first
pub served_count : {X Y : Type 0} (R : Y → Y → Type 0) (view : X → Y) (xs ys : List X) → AllZip R (map view xs) (map view ys) → length ys ≡ length xs
served_count R view xs ys pairs = sym (length-map ys view) ∙ AllZip-length R (map view xs) (map view ys) pairs ∙ length-map xs view

pub some_at : {X : Type 0} (P : X → Type 0) (found : Option X) (x : X) → found ≡ Some x → IfSome found P → P x
some_at P found x is holds = subst (λ o. IfSome o P) is holds

-- what held of each of them, and how each has gone on
pub All-zip : {X : Type 0} (P Q : X → Type 0) (R : X → X → Type 0) → ((x y : X) → P x → R x y → Q y) → (xs ys : List X) → All P xs → AllZip R xs ys → All Q ys
All-zip {X} P Q R next xs ys all pairs i d within =
    let y : X = get_or ys i d in
    let was = AllZip-was R xs ys i y pairs (slice_get-get_or ys i d within) in
    next was.other y (All-at P xs i was.other all was.stands) was.pair

-- all actors that work have received all of these posts that come to them, and nobody has seen more
pub IsSettled-level : (s : Script) (posts : List Post) (place count : ℕ) (old new : List PlayerView) (liars : List SeatView) → HasReadAt posts place old
    → All (HasHeardTo s posts (length posts)) old → AllZip HasLooked old new → All (IsLevelWith count) new → length posts ≡ count → All (λ seat. length seat.seen ≤ count) liars
    → IsSettled s new liars count
IsSettled-level s posts place count old new liars read heard looked level is few =
    IsSettled-up s posts place count old new liars read (AllZip-weaker HasLooked HasGoneOn HasGoneOn-looked old new looked) (λ i d within.
    let q : PlayerView = get_or new i d in
    let was = AllZip-was HasLooked old new i q looked (slice_get-get_or new i d within) in
    IsCaughtUp-level s posts count was.other q is (All-at (HasHeardTo s posts (length posts)) old i was.other heard was.stands) was.pair (level i d within)) is few

-- ---- actors that have ended by a full book

full_at : {X : Type 0} (view : X → PlayerView) (fate : X → Fate) → ((x : X) → (view x).fate ≡ fate x) → (items : List X) (n : ℕ) (found : Option X) → slice_get items n ≡ found
    → IfSome found (λ x. fate x ≡ Full) → n < length items → (d : PlayerView) → (get_or (map view items) n d).fate ≡ Full
full_at view fate same items n None is full within d = absurd (omega (arith, none_past items n is, within))
full_at view fate same items n (Some x) is full within d =
    ap (λ (p : PlayerView). p.fate) (get_or_from_slice_get (map view items) n (view x) d (slice_get-map view items n x is)) ∙ same x ∙ full

-- those before a place had ended so, and so has the one there
pub full_more : {X : Type 0} (view : X → PlayerView) (fate : X → Fate) → ((x : X) → (view x).fate ≡ fate x) → (old : List PlayerView) (items : List X) (n : ℕ)
    → AllWithin (λ (p : PlayerView). p.fate ≡ Full) old 0 n → AllZip HasGoneOn old (map view items) → IfSome (slice_get items n) (λ x. fate x ≡ Full) → n < length items
    → AllWithin (λ (p : PlayerView). p.fate ≡ Full) (map view items) 0 (n + 1)
full_more view fate same old items n all went full within k d low below = elim (cases_lt k n) [
  | inl before ↦
      let q : PlayerView = get_or (map view items) k d in
      let was = AllZip-was HasGoneOn old (map view items) k q went (slice_get-get_or (map view items) k d (omega (arith, before, within, length-map items view))) in
      let first : was.other.fate ≡ Full = subst (λ (p : PlayerView). p.fate ≡ Full) (get_or_from_slice_get old k was.other d was.stands) (all k d low before) in
      (was.pair.ended (ap is_running_fate first)).1 ∙ first
  | inr from ↦
      let here : k ≡ n = omega (arith, from, below) in
      subst (λ (j : ℕ). (get_or (map view items) j d).fate ≡ Full) (sym here) (full_at view fate same items n (slice_get items n) refl full within d)
]
