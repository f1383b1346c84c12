-- To which places the address of a post leads.
use Rattle.std.proofs.Common.{◌≡◌, ◌≢◌, ◌==◌, ℕ, zero, suc, ◌+◌, ◌<◌, ◌≤◌, Bool, true, false, inl, inr, List, [], ◌∷◌, ◌++◌, length, set, take, Some, if◌then◌else◌, refl, sym, ap, ◌∙◌, subst, append_assoc, append-nil, arith, slice_get, get_or, nat_lt}
use Rattle.std.proofs.lemmas.List.{length-map, length-take-le, take_all, take_more, get_or-set_same, get_or-set_other}
use Rattle.std.proofs.lemmas.Option.{slice_get_within, get_or_from_slice_get}
use Rattle.std.proofs.lemmas.Bool.{and_parts, cases_lt, cases_eq, eq-eqb}
use Rattle.std.proofs.lemmas.Bool.Decides.{nat_tests}
use Rattle.hb_wire.specs.declared.vote.To.{To}
use Rattle.hb_wire.specs.declared.vote.To.TheVariants.{Book, Home, All, Node}
use Rattle.hb_wire.specs.declared.post.Post.{Post}
use Rattle.hb_wire.specs.Addresses.{goes_to, reaches}
use Rattle.hb_rules.specs.Actor.{ActorView}
use Rattle.hb_rules.specs.Book.{SeatView}
use Rattle.step_driver.specs.declared.place.Place.{Place}
use Rattle.step_driver.specs.declared.place.Place.TheVariants.{Correct, Lying}
use Rattle.step_driver.specs.declared.player.Player.{Player}
use Rattle.step_driver.specs.declared.hired.Hired.{Hired}
use Rattle.step_driver.specs.Places.{Spot, spot_of, spots, Name, name_of, names, hired_view}
use Rattle.step_driver.specs.Directory.{is_of_node, has_actor, address_leads, leads_to, places_from, places_where, no_places, Groups, IsDirectory, led_by, led_to, AreAsBefore, IsGrown, IsEntered}
use Rattle.step_driver.proofs.Stages.{slice_get-map}
use Rattle.step_driver.proofs.Occupants.{spot_at, spots_count}

-- ---- the places whose name passes a test

-- one name more
pub places_from-push : (p : ℕ) (test : Name → Bool) (all : List Name) (name : Name)
    → places_from p test (all ++ name ∷ []) ≡ places_from p test all ++ (if test name then (p + length all) ∷ [] else [])
places_from-push p test [] name = by (test name)
  where
    by : (b : Bool) → (if b then p ∷ [] else []) ≡ (if b then (p + 0) ∷ [] else [])
    by true = ap (λ (q : ℕ). q ∷ []) (omega arith)
    by false = refl
places_from-push p test (a ∷ all) name = by (test a) (test name) (places_from-push (p + 1) test all name)
  where
    same : (b : Bool) → (if b then (p + 1 + length all) ∷ [] else []) ≡ (if b then (p + suc (length all)) ∷ [] else [])
    same true = ap (λ (q : ℕ). q ∷ []) (omega arith)
    same false = refl

    by : (b d : Bool) → places_from (p + 1) test (all ++ name ∷ []) ≡ places_from (p + 1) test all ++ (if d then (p + 1 + length all) ∷ [] else [])
        → (if b then p ∷ places_from (p + 1) test (all ++ name ∷ []) else places_from (p + 1) test (all ++ name ∷ []))
        ≡ (if b then p ∷ places_from (p + 1) test all else places_from (p + 1) test all) ++ (if d then (p + suc (length all)) ∷ [] else [])
    by true d rest = ap (λ (ps : List ℕ). p ∷ ps) (rest ∙ ap (λ (ps : List ℕ). places_from (p + 1) test all ++ ps) (same d))
    by false d rest = rest ∙ ap (λ (ps : List ℕ). places_from (p + 1) test all ++ ps) (same d)

-- a place whose name passes is among them
pub places_from-has : (p : ℕ) (test : Name → Bool) (all : List Name) (q : ℕ) (name : Name) → slice_get all q ≡ Some name → test name ≡ true
    → (i : ℕ) × (slice_get (places_from p test all) i ≡ Some (p + q))
places_from-has p test [] q name stands passes = absurd (cc (stands))
places_from-has p test (a ∷ all) zero name stands passes = by (test a) passes_here
  where
    passes_here : test a ≡ true
    passes_here = let is : a ≡ name = cc in ap test is ∙ passes

    by : (b : Bool) → b ≡ true → (i : ℕ) × (slice_get (if b then p ∷ places_from (p + 1) test all else places_from (p + 1) test all) i ≡ Some (p + 0))
    by true is = (0, ap (λ (r : ℕ). Some r) (omega arith))
    by false is = absurd (cc (is))
places_from-has p test (a ∷ all) (suc q) name stands passes = by (test a) (places_from-has (p + 1) test all q name stands passes)
  where
    same : (i : ℕ) → slice_get (places_from (p + 1) test all) i ≡ Some (p + 1 + q) → slice_get (places_from (p + 1) test all) i ≡ Some (p + suc q)
    same i at = at ∙ ap (λ (r : ℕ). Some r) (omega arith)

    by : (b : Bool) → (i : ℕ) × (slice_get (places_from (p + 1) test all) i ≡ Some (p + 1 + q))
        → (i : ℕ) × (slice_get (if b then p ∷ places_from (p + 1) test all else places_from (p + 1) test all) i ≡ Some (p + suc q))
    by true (i, at) = (suc i, same i at)
    by false (i, at) = (i, same i at)

-- each of them is a place
pub places_from-below : (p : ℕ) (test : Name → Bool) (all : List Name) (i q : ℕ) → slice_get (places_from p test all) i ≡ Some q → q < p + length all
places_from-below p test [] i q stands = absurd (cc (stands))
places_from-below p test (a ∷ all) i q stands = by (test a) i (λ j at. places_from-below (p + 1) test all j q at) stands
  where
    by : (b : Bool) (j : ℕ) → ((m : ℕ) → slice_get (places_from (p + 1) test all) m ≡ Some q → q < p + 1 + length all)
        → slice_get (if b then p ∷ places_from (p + 1) test all else places_from (p + 1) test all) j ≡ Some q → q < p + suc (length all)
    by true zero rest at = let is : p ≡ q = cc in omega (arith, is)
    by true (suc j) rest at = omega (arith, rest j at)
    by false j rest at = omega (arith, rest j at)

pub places_from-few : (p : ℕ) (test : Name → Bool) (all : List Name) → length (places_from p test all) ≤ length all
places_from-few p test [] = omega arith
places_from-few p test (a ∷ all) = by (test a) (places_from-few (p + 1) test all)
  where
    by : (b : Bool) → length (places_from (p + 1) test all) ≤ length all
        → length (if b then p ∷ places_from (p + 1) test all else places_from (p + 1) test all) ≤ suc (length all)
    by true rest = omega (arith, rest)
    by false rest = omega (arith, rest)

places_from-none : (p : ℕ) (all : List Name) → places_from p (λ name. false) all ≡ []
places_from-none p [] = refl
places_from-none p (a ∷ all) = places_from-none (p + 1) all

-- ---- what an address leads to

led_by-is : (n : ℕ) (groups : Groups) (all : List Name) (to : To) (from poster : ℕ) → IsDirectory n groups all
    → led_by groups to from poster ≡ places_where (address_leads n to from poster) all
led_by-is n groups all Book from poster directory = sym (places_from-none 0 all)
led_by-is n groups all Home from poster directory = directory.of_node from
led_by-is n groups all All from poster directory = directory.of_actor poster
led_by-is n groups all (Node target) from poster directory = directory.of_node target

pub led_to-is : (n : ℕ) (groups : Groups) (all : List Name) (post : Post) → IsDirectory n groups all → led_to groups post ≡ places_where (leads_to n post) all
led_to-is n groups all post directory = led_by-is n groups all post.to post.from post.actor directory

goes_there : (n : ℕ) (to : To) (from poster node actor : ℕ) → goes_to n to from poster node actor ≡ true
    → address_leads n to from poster (record { node = node; actor = actor; lies = false }) ≡ true
goes_there n Book from poster node actor goes = goes
goes_there n Home from poster node actor goes = (and_parts (node == from) _ goes).0
goes_there n All from poster node actor goes = goes
goes_there n (Node target) from poster node actor goes = (and_parts (actor == poster) (node == target) goes).1

-- a post that reaches an actor leads to its place
pub reaches-leads : (n : ℕ) (post : Post) (node actor : ℕ) → reaches n post node actor ≡ true
    → leads_to n post (record { node = node; actor = actor; lies = false }) ≡ true
reaches-leads n post node actor goes = goes_there n post.to post.from post.actor node actor goes

-- a place to which the address leads is there
pub led_below : {A L : Type 0} (seat : A → SeatView) (view : A → ActorView) (n : ℕ) (groups : Groups) (places : List (Place A L)) (post : Post) (found : List ℕ) (i q : ℕ)
    → IsDirectory n groups (names (spots seat view places)) → found ≡ led_to groups post → slice_get found i ≡ Some q → q < length places
led_below seat view n groups places post found i q directory is stands =
    let all : List Name = names (spots seat view places) in
    let there : slice_get (places_where (leads_to n post) all) i ≡ Some q =
    ap (λ (ps : List ℕ). slice_get ps i) (sym (is ∙ led_to-is n groups all post directory)) ∙ stands in
    omega (arith, places_from-below 0 (leads_to n post) all i q there, length-map (spots seat view places) name_of, spots_count seat view places)

-- ---- groups that grow

get_or-empty_last : (groups : List (List ℕ)) (i : ℕ) → get_or (groups ++ no_places ∷ []) i no_places ≡ get_or groups i no_places
get_or-empty_last [] zero = refl
get_or-empty_last [] (suc i) = refl
get_or-empty_last (group ∷ groups) zero = refl
get_or-empty_last (group ∷ groups) (suc i) = get_or-empty_last groups i

pub AreAsBefore-refl : (groups : List (List ℕ)) → AreAsBefore groups groups
AreAsBefore-refl groups = record { each = λ i. refl }

-- an empty group more
pub AreAsBefore-push : (old mid new : List (List ℕ)) (group : List ℕ) → AreAsBefore old mid → group ≡ [] → new ≡ mid ++ group ∷ [] → AreAsBefore old new
AreAsBefore-push old mid new group before empty pushed = record {
  each = λ i. ap (λ (gs : List (List ℕ)). get_or gs i no_places) (pushed ∙ ap (λ (g : List ℕ). mid ++ g ∷ []) empty) ∙ get_or-empty_last mid i ∙ before.each i;
}

-- a place was added to one group
pub IsGrown-one : (number place : ℕ) (old mid : List (List ℕ)) (group group' : List ℕ) → AreAsBefore old mid → number < length mid → group ≡ get_or mid number group
    → group' ≡ group ++ place ∷ [] → IsGrown (λ i. number == i) place old (set mid number group')
IsGrown-one number place old mid group group' before within is pushed = record { each = each }
  where
    at_number : group ≡ get_or mid number no_places
    at_number = is ∙ within_any mid number within
      where
        within_any : (xs : List (List ℕ)) (i : ℕ) → i < length xs → get_or xs i group ≡ get_or xs i no_places
        within_any [] i below = absurd (omega (arith, below))
        within_any (x ∷ xs) zero below = refl
        within_any (x ∷ xs) (suc i) below = within_any xs i (omega (arith, below))

    here : get_or (set mid number group') number no_places ≡ get_or old number no_places ++ place ∷ []
    here =
        get_or-set_same mid number group' no_places within ∙ pushed ∙ ap (λ (g : List ℕ). g ++ place ∷ []) (at_number ∙ before.each number)

    other : (i : ℕ) → i ≢ number → get_or (set mid number group') i no_places ≡ get_or old i no_places
    other i apart = get_or-set_other mid number i group' no_places apart ∙ before.each i

    each : (i : ℕ) → get_or (set mid number group') i no_places ≡ get_or old i no_places ++ (if number == i then place ∷ [] else [])
    each i = elim (cases_eq i number) [
      | inl same ↦
          let test : (number == i) ≡ true = eq-eqb number i (sym same) in
          rw test (subst (λ (j : ℕ). get_or (set mid number group') j no_places ≡ get_or old j no_places ++ place ∷ []) (sym same) here)
      | inr apart ↦
          let test : (number == i) ≡ false = grind (arith, nat_tests, apart) in
          rw test (other i apart ∙ sym (append-nil (get_or old i no_places)))
    ]

pub IsGrown-none : (place : ℕ) (groups : List (List ℕ)) → IsGrown (λ i. nat_lt i 0) place groups groups
IsGrown-none place groups = record {
  each = λ i. let test : nat_lt i 0 ≡ false = grind (arith, nat_tests) in rw test (sym (append-nil (get_or groups i no_places)));
}

-- one group more has the place
pub IsGrown-more : (n place : ℕ) (old mid new : List (List ℕ)) → IsGrown (λ i. nat_lt i n) place old mid → IsGrown (λ i. n == i) place mid new
    → IsGrown (λ i. nat_lt i (n + 1)) place old new
IsGrown-more n place old mid new one two = record {
  each = λ i. grown (get_or old i no_places) (get_or mid i no_places) (get_or new i no_places) (nat_lt i n) (n == i) (nat_lt i (n + 1)) (one.each i) (two.each i) (which i);
}
  where
    grown : (a b c : List ℕ) (t u v : Bool) → b ≡ a ++ (if t then place ∷ [] else []) → c ≡ b ++ (if u then place ∷ [] else [])
        → (if t then place ∷ [] else []) ++ (if u then place ∷ [] else []) ≡ (if v then place ∷ [] else []) → c ≡ a ++ (if v then place ∷ [] else [])
    grown a b c t u v first second both =
        second ∙ ap (λ (z : List ℕ). z ++ (if u then place ∷ [] else [])) first
        ∙ append_assoc a (if t then place ∷ [] else []) (if u then place ∷ [] else []) ∙ ap (λ (z : List ℕ). a ++ z) both

    which : (i : ℕ) → (if nat_lt i n then place ∷ [] else []) ++ (if n == i then place ∷ [] else []) ≡ (if nat_lt i (n + 1) then place ∷ [] else [])
    which i = elim (cases_lt i n) [
      | inl below ↦
          let t : nat_lt i n ≡ true = grind (arith, nat_tests, below) in
          let u : (n == i) ≡ false = grind (arith, nat_tests, below) in
          let v : nat_lt i (n + 1) ≡ true = grind (arith, nat_tests, below) in
          rw (t, u, v) refl
      | inr above ↦ elim (cases_lt n i) [
        | inl past ↦
            let t : nat_lt i n ≡ false = grind (arith, nat_tests, above) in
            let u : (n == i) ≡ false = grind (arith, nat_tests, past) in
            let v : nat_lt i (n + 1) ≡ false = grind (arith, nat_tests, past) in
            rw (t, u, v) refl
        | inr up_to ↦
            let is : n ≡ i = omega (arith, above, up_to) in
            let t : nat_lt i n ≡ false = grind (arith, nat_tests, above) in
            let u : (n == i) ≡ true = eq-eqb n i is in
            let v : nat_lt i (n + 1) ≡ true = grind (arith, nat_tests, up_to) in
            rw (t, u, v) refl
      ]
    ]

-- ---- a directory that is made

pub IsEntered-correct : {A L : Type 0} (seat : A → SeatView) (view : A → ActorView) (n i x number : ℕ) (place : Place A L) (player : Player A) (old new : Groups)
    → place ≡ Correct player → i ≡ (seat player.actor).node → x ≡ (seat player.actor).actor → IsGrown (λ j. i == j) number old.of_node new.of_node
    → IsGrown (λ j. x == j) number old.of_actor new.of_actor → IsEntered n (name_of (spot_of seat view place)) number old new
IsEntered-correct {A} {L} seat view n i x number place player old new kind node actor nodes actors =
    subst (λ (o : Place A L). IsEntered n (name_of (spot_of seat view o)) number old new) (sym kind)
    (record {
      of_node = subst (λ (a : ℕ). IsGrown (λ j. a == j) number old.of_node new.of_node) node nodes;
      of_actor = subst (λ (a : ℕ). IsGrown (λ j. a == j) number old.of_actor new.of_actor) actor actors;
    })

pub IsEntered-lying : {A L : Type 0} (seat : A → SeatView) (view : A → ActorView) (n i count number : ℕ) (place : Place A L) (hired : Hired L) (old new : Groups)
    → place ≡ Lying hired → i ≡ (hired_view hired).seat.node → count ≡ n + 1 → IsGrown (λ j. i == j) number old.of_node new.of_node
    → IsGrown (λ j. nat_lt j count) number old.of_actor new.of_actor → IsEntered n (name_of (spot_of seat view place)) number old new
IsEntered-lying {A} {L} seat view n i count number place hired old new kind node all nodes actors =
    subst (λ (o : Place A L). IsEntered n (name_of (spot_of seat view o)) number old new) (sym kind)
    (record {
      of_node = subst (λ (a : ℕ). IsGrown (λ j. a == j) number old.of_node new.of_node) node nodes;
      of_actor = subst (λ (m : ℕ). IsGrown (λ j. nat_lt j m) number old.of_actor new.of_actor) all actors;
    })

pub IsDirectory-none : (n : ℕ) (nodes actors : List (List ℕ)) → nodes ≡ [] → actors ≡ [] → IsDirectory n (record { of_node = nodes; of_actor = actors }) []
IsDirectory-none n nodes actors no_node no_actor = record {
  of_node = λ i. ap (λ (gs : List (List ℕ)). get_or gs i no_places) no_node;
  of_actor = λ x. ap (λ (gs : List (List ℕ)). get_or gs x no_places) no_actor;
}

-- one name more
entered : (n k : ℕ) (all : List Name) (name : Name) (old new : Groups) → k ≡ length all → IsDirectory n old all → IsEntered n name k old new
    → IsDirectory n new (all ++ name ∷ [])
entered n k all name old new is directory one = record {
  of_node = λ i. more (is_of_node i) (get_or old.of_node i no_places) (get_or new.of_node i no_places) (directory.of_node i) (one.of_node.each i);
  of_actor = λ x. more (has_actor n x) (get_or old.of_actor x no_places) (get_or new.of_actor x no_places) (directory.of_actor x) (one.of_actor.each x);
}
  where
    more : (test : Name → Bool) (before after : List ℕ) → before ≡ places_where test all → after ≡ before ++ (if test name then k ∷ [] else [])
        → after ≡ places_where test (all ++ name ∷ [])
    more test before after was grown =
        let at : k ≡ 0 + length all = omega (arith, is) in
        grown ∙ ap (λ (ps : List ℕ). ps ++ (if test name then k ∷ [] else [])) was
        ∙ ap (λ (q : ℕ). places_where test all ++ (if test name then q ∷ [] else [])) at
        ∙ sym (places_from-push 0 test all name)

pub IsDirectory-more : {A L : Type 0} (seat : A → SeatView) (view : A → ActorView) (n k : ℕ) (places : List (Place A L)) (place : Place A L) (old new : Groups) → k < length places
    → place ≡ get_or places k place → IsDirectory n old (take k (names (spots seat view places))) → IsEntered n (name_of (spot_of seat view place)) k old new
    → IsDirectory n new (take (k + 1) (names (spots seat view places)))
IsDirectory-more seat view n k places place old new within is directory one =
    let all : List Name = names (spots seat view places) in
    let name : Name = name_of (spot_of seat view place) in
    let stands : slice_get all k ≡ Some name = slice_get-map name_of (spots seat view places) k (spot_of seat view place) (spot_at seat view places k place within is) in
    let below : k < length all = slice_get_within all k name stands in
    let more : take (k + 1) all ≡ take k all ++ name ∷ [] =
    take_more all k name below ∙ ap (λ (o : Name). take k all ++ o ∷ []) (get_or_from_slice_get all k name name stands) in
    subst (λ (some : List Name). IsDirectory n new some) (sym more)
    (entered n k (take k all) name old new (sym (length-take-le k all (omega (arith, below)))) directory one)

pub IsDirectory-all : {A L : Type 0} (seat : A → SeatView) (view : A → ActorView) (n k : ℕ) (places : List (Place A L)) (groups : Groups) → length places ≤ k
    → IsDirectory n groups (take k (names (spots seat view places))) → IsDirectory n groups (names (spots seat view places))
IsDirectory-all seat view n k places groups past directory =
    let all : List Name = names (spots seat view places) in
    subst (λ (some : List Name). IsDirectory n groups some)
    (take_all k all (omega (arith, past, length-map (spots seat view places) name_of, spots_count seat view places))) directory

-- the names are the same
pub IsDirectory-on : (n m : ℕ) (x y : List Spot) (groups : Groups) → m ≡ n → names y ≡ names x → IsDirectory n groups (names x) → IsDirectory m groups (names y)
IsDirectory-on n m x y groups same_n same directory =
    subst (λ (k : ℕ). IsDirectory k groups (names y)) (sym same_n) (subst (λ (all : List Name). IsDirectory n groups all) (sym same) directory)

-- and the list of places is lent
pub IsDirectory-lent : {A L : Type 0} (seat : A → SeatView) (view : A → ActorView) (n m : ℕ) (x : List Spot) (ps qs : List (Place A L)) (groups : Groups) → m ≡ n → ps ≡ qs
    → names (spots seat view qs) ≡ names x → IsDirectory n groups (names x) → IsDirectory m groups (names (spots seat view ps))
IsDirectory-lent {A} {L} seat view n m x ps qs groups same_n lent same directory =
    IsDirectory-on n m x (spots seat view ps) groups same_n (ap (λ (rs : List (Place A L)). names (spots seat view rs)) lent ∙ same) directory
