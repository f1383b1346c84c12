-- Seats and passes stand in the same order.
use Rattle.std.proofs.Common.{◌≡◌, ℕ, zero, suc, ◌+◌, ◌<◌, ◌≤◌, Bool, true, false, List, [], ◌∷◌, ◌++◌, length, map, drop, cond, if◌then◌else◌, refl, sym, ap, ◌∙◌, subst, arith, length-append, append_assoc}
use Rattle.std.specs.Prelude.{All}
use Rattle.std.specs.List.{range_with_len}
use Rattle.std.proofs.lemmas.List.{length-map, length_push, map_push}
use Rattle.std.proofs.lemmas.List.Elements.{All-head, All-tail, All-push, All-weaker}
use Rattle.std.proofs.lemmas.List.FromFn.{length-map-range_with_len, map-range_with_len_more}
use Rattle.atomic_table.specs.Seated.{TableId}
use Rattle.hb_base.specs.Numbers.{Numbers}
use Rattle.hb_base.specs.NodeSet.{is_in}
use Rattle.actor_cell.specs.Boxes.{BoxesView, owners, owners_at, owners_below, place_of}
use Rattle.actor_cell.specs.Passes.{PassesView, ArePassesOf}
use Rattle.actor_cell.proofs.Places.{owners_more, row_length, place_within}
use Rattle.post_book.specs.Numbering.{seat_number}
use Rattle.post_book.specs.SharedSeats.{SharedView, FirstView}
use Rattle.step_driver.specs.Places.{Name}
use Rattle.ledger_run.specs.Actors.{new_seat}
use Rattle.ledger_run.specs.Team.{correct_name, lying_name, names_at, names_below}
use Rattle.ledger_run.proofs.Steps.{below_more}
use Rattle.run_closing.specs.Returning.{number_of}
use Rattle.run_openings.specs.declared.opening.Opening.{Opening}
use Rattle.run_openings.specs.declared.opening.NodeOpening.{NodeOpening}
use Rattle.run_openings.specs.declared.opening.NodeOpening.TheVariants.{Correct, Lying}
use Rattle.run_openings.specs.Opening.{IsOpening, opening_name, opening_names, places_of}
use Rattle.run_openings.specs.Seating.{AreMade}

-- one more in a list
pub all_pushed : {X : Type 0} (P : X → Type 0) (xs ys : List X) (x : X) → ys ≡ xs ++ x ∷ [] → All P xs → P x → All P ys
all_pushed {X = X} P xs ys x more all here = subst (λ (zs : List X). All P zs) (sym more) (All-push P xs x all here)

-- whether a node lies, by a copy of the config
pub lies_here : (c copy : Numbers) (set : List Bool) (i : ℕ) → copy ≡ c → set ≡ copy.liars → true ≡ is_in set i → is_in c.liars i ≡ true
lies_here c copy set i same are lies = ap (λ (k : Numbers). is_in k.liars i) (sym same) ∙ ap (λ (l : List Bool). is_in l i) (sym are) ∙ sym lies

-- ---- as many places as mailboxes

pub count_at : (c : Numbers) (i : ℕ) → length (names_at c i) ≡ cond (is_in c.liars i) 1 (c.n + 1)
count_at c i = by (is_in c.liars i)
  where
    by : (lies : Bool) → length (if lies then lying_name i ∷ [] else map (correct_name i) (range_with_len 0 (c.n + 1))) ≡ cond lies 1 (c.n + 1)
    by true = refl
    by false = length-map-range_with_len (correct_name i) 0 (c.n + 1)

as_many : (c : Numbers) (i : ℕ) → length (names_below c i) ≡ length (owners_below c i)
as_many c zero = refl
as_many c (suc i) =
    let one : suc i ≡ i + 1 = omega arith in
    omega (
      arith,
      ap (λ (k : ℕ). length (names_below c k)) one,
      ap (λ (k : ℕ). length (owners_below c k)) one,
      ap length (below_more c i),
      ap length (owners_more c i),
      length-append (names_below c i) (names_at c i),
      length-append (owners_below c i) (owners_at c i),
      as_many c i,
      count_at c i,
      row_length (is_in c.liars i) c.n i,
    )

-- so the place of an actor is behind those that were made before it
pub actor_place : (c : Numbers) (i x : ℕ) → is_in c.liars i ≡ false → length (names_below c i ++ map (correct_name i) (range_with_len 0 x)) ≡ place_of c i x
actor_place c i x honest =
    rw honest (omega (
      arith,
      length-append (names_below c i) (map (correct_name i) (range_with_len 0 x)),
      length-map-range_with_len (correct_name i) 0 x,
      as_many c i,
    ))

pub liar_place : (c : Numbers) (i x : ℕ) → is_in c.liars i ≡ true → length (names_below c i) ≡ place_of c i x
liar_place c i x lies = rw lies (omega (arith, as_many c i))

-- and within the mailboxes
pub liar_within : (c : Numbers) (i : ℕ) → is_in c.liars i ≡ true → i < c.n → length (names_below c i) < length (owners c)
liar_within c i lies known = omega (arith, liar_place c i 0 lies, place_within c i 0 known (omega arith))

-- ---- whose places the openings are

pub named : (lies : Bool) (i x : ℕ) (o : Opening SharedView) → (o.node ≡ i) × (o.actor ≡ x)
    → opening_name lies o ≡ record { node = i; actor = x; lies = lies }
named lies i x o who = ap (λ (a : ℕ). with a o.actor) who.0 ∙ ap (λ (b : ℕ). with i b) who.1
  where
    with : ℕ → ℕ → Name
    with a b = record { node = a; actor = b; lies = lies }

pub names_honest : (c : Numbers) (i x : ℕ) → is_in c.liars i ≡ false → x ≡ c.n + 1 → map (correct_name i) (range_with_len 0 x) ≡ names_at c i
names_honest c i x honest all = ap (λ (k : ℕ). map (correct_name i) (range_with_len 0 k)) all ∙ sym at
  where
    at : names_at c i ≡ map (correct_name i) (range_with_len 0 (c.n + 1))
    at = rw honest refl

pub names_lying : (c : Numbers) (i : ℕ) → is_in c.liars i ≡ true → lying_name i ∷ [] ≡ names_at c i
names_lying c i lies = sym at
  where
    at : names_at c i ≡ lying_name i ∷ []
    at = rw lies refl

-- one more of a list that is made of a range
mapped_more : {X Y : Type 0} (f : X → Y) (g : ℕ → Y) (k : ℕ) (xs ys : List X) (x : X) → ys ≡ xs ++ x ∷ [] → f x ≡ g k
    → map f xs ≡ map g (range_with_len 0 k) → map f ys ≡ map g (range_with_len 0 (k + 1))
mapped_more {Y = Y} f g k xs ys x more here before =
    let none : 0 + k ≡ k = omega arith in
    ap (map f) more ∙ map_push f xs x ∙ ap (λ (l : List Y). l ++ f x ∷ []) before
    ∙ ap (λ (y : Y). map g (range_with_len 0 k) ++ y ∷ []) here ∙ sym (map-range_with_len_more g 0 k k none)

pub names_pushed : (i x : ℕ) (openings more : List (Opening SharedView)) (o : Opening SharedView) → more ≡ openings ++ o ∷ []
    → (o.node ≡ i) × (o.actor ≡ x) → map (opening_name false) openings ≡ map (correct_name i) (range_with_len 0 x)
    → map (opening_name false) more ≡ map (correct_name i) (range_with_len 0 (x + 1))
names_pushed i x openings more o is who = mapped_more (opening_name false) (correct_name i) x openings more o is (named false i x o who)

pub all_names_pushed : (c : Numbers) (i : ℕ) (openings more : List (NodeOpening SharedView)) (o : NodeOpening SharedView) → more ≡ openings ++ o ∷ []
    → opening_names o ≡ names_at c i → map opening_names openings ≡ map (names_at c) (range_with_len 0 i)
    → map opening_names more ≡ map (names_at c) (range_with_len 0 (i + 1))
all_names_pushed c i openings more o is who = mapped_more opening_names (names_at c) i openings more o is who

-- so there are as many as the node has places
pub places_named : (c : Numbers) (i : ℕ) (o : NodeOpening SharedView) → opening_names o ≡ names_at c i → places_of o ≡ length (names_at c i)
places_named c i o are = each o ∙ ap length are
  where
    each : (o : NodeOpening SharedView) → places_of o ≡ length (opening_names o)
    each (Correct openings) = sym (length-map openings.items (opening_name false))
    each (Lying opening) = refl

-- ---- the seats made so far

module _ (c : Numbers) (boxes : BoxesView) (book : TableId) (made : List Name) (i x : ℕ) (first : FirstView) where
  -- passes are left for a place within the mailboxes
  pub some_left : (rest : List PassesView) → AreMade c boxes book made i x first rest → length made < length (owners c) → 0 < length rest
  some_left rest is within = omega (arith, is.all, within)

  -- the next passes are those of the next place
  pub next_opening : (o : Opening SharedView) (rest : List PassesView) (y : ℕ) → AreMade c boxes book made i x first (o.passes ∷ rest)
      → (o.node ≡ i) × (o.actor ≡ y) → (o.seat.book ≡ book) × (o.seat.seat ≡ record (new_seat c i y) { seen = first.seen })
      → i < c.n → length made ≡ place_of c i y → IsOpening (λ (seat : SharedView). seat.book ≡ book) (λ (seat : SharedView). seat.seat) boxes c o
  next_opening o rest y is who seat known place = record {
    of_book = seat.0;
    seat =
        seat.1 ∙ ap (λ (f : FirstView). record (new_seat c i y) { seen = f.seen }) is.seated
        ∙ ap (λ (a : ℕ). new_seat c a y) (sym who.0) ∙ ap (λ (b : ℕ). new_seat c o.node b) (sym who.1);
    known = subst (λ (a : ℕ). a < c.n) (sym who.0) known;
    passes = All-head (ArePassesOf boxes) o.passes rest is.fit;
    place =
        ap head is.places ∙ place ∙ ap (λ (a : ℕ). place_of c a y) (sym who.0) ∙ ap (λ (b : ℕ). place_of c o.node b) (sym who.1);
  }
    where
      head : List ℕ → ℕ
      head [] = 0
      head (k ∷ ks) = k

  -- one seat more
  pub made_more : (passes : PassesView) (rest : List PassesView) (after : FirstView) (name : Name) (j y : ℕ)
      → AreMade c boxes book made i x first (passes ∷ rest) → after ≡ record first { given = first.given ++ number_of name ∷ [] }
      → seat_number i x ≤ number_of name → number_of name < seat_number j y → AreMade c boxes book (made ++ name ∷ []) j y after rest
  made_more passes rest after name j y is more low high = record {
    seated =
        more ∙ ap (λ (f : FirstView). record f { given = f.given ++ number_of name ∷ [] }) is.seated
        ∙ ap (λ (given : List ℕ). with_given given) (sym (map_push number_of made name));
    below =
        subst (All (λ (number : ℕ). number < seat_number j y)) (sym (map_push number_of made name))
        (All-push (λ (number : ℕ). number < seat_number j y) (map number_of made) (number_of name)
        (All-weaker (λ (number : ℕ). number < seat_number i x) (λ (number : ℕ). number < seat_number j y)
        (λ number less. omega (arith, less, low, high)) (map number_of made) is.below) high);
    places =
        ap (λ (places : List ℕ). drop 1 places) is.places
        ∙ ap (λ (k : ℕ). range_with_len k (length rest)) (sym (length_push made name));
    all = omega (arith, is.all, length_push made name);
    fit = All-tail (ArePassesOf boxes) passes rest is.fit;
  }
    where
      with_given : List ℕ → FirstView
      with_given given = record { book = book; seen = []; given = given; joined = [] }

module _ (c : Numbers) (boxes : BoxesView) (book : TableId) (i : ℕ) (first : FirstView) where
  names_more : (x : ℕ)
      → (names_below c i ++ map (correct_name i) (range_with_len 0 x)) ++ correct_name i x ∷ [] ≡ names_below c i ++ map (correct_name i) (range_with_len 0 (x + 1))
  names_more x =
      let none : 0 + x ≡ x = omega arith in
      append_assoc (names_below c i) (map (correct_name i) (range_with_len 0 x)) (correct_name i x ∷ [])
      ∙ ap (λ (names : List Name). names_below c i ++ names) (sym (map-range_with_len_more (correct_name i) 0 x x none))

  -- that of an actor of a correct node
  pub actor_made : (x : ℕ) (passes : PassesView) (rest : List PassesView) (after : FirstView)
      → AreMade c boxes book (names_below c i ++ map (correct_name i) (range_with_len 0 x)) i x first (passes ∷ rest)
      → after ≡ record first { given = first.given ++ seat_number i x ∷ [] }
      → AreMade c boxes book (names_below c i ++ map (correct_name i) (range_with_len 0 (x + 1))) i (x + 1) after rest
  actor_made x passes rest after is more =
      subst (λ (names : List Name). AreMade c boxes book names i (x + 1) after rest) (names_more x)
      (made_more c boxes book (names_below c i ++ map (correct_name i) (range_with_len 0 x)) i x first passes rest after (correct_name i x) i (x + 1) is more
      (omega arith) (omega arith))

  -- those of all its actors
  pub node_made : (x : ℕ) (rest : List PassesView) → is_in c.liars i ≡ false → x ≡ c.n + 1 → x ≤ 256
      → AreMade c boxes book (names_below c i ++ map (correct_name i) (range_with_len 0 x)) i x first rest
      → AreMade c boxes book (names_below c (i + 1)) (i + 1) 0 first rest
  node_made x rest honest all few is =
      subst (λ (names : List Name). AreMade c boxes book names (i + 1) 0 first rest) same (record {
        seated = is.seated;
        below =
            All-weaker (λ (number : ℕ). number < seat_number i x) (λ (number : ℕ). number < seat_number (i + 1) 0)
            (λ number less. omega (arith, less, few)) (map number_of made) is.below;
        places = is.places;
        all = is.all;
        fit = is.fit;
      })
    where
      made : List Name
      made = names_below c i ++ map (correct_name i) (range_with_len 0 x)

      at : names_at c i ≡ map (correct_name i) (range_with_len 0 (c.n + 1))
      at = rw honest refl

      same : made ≡ names_below c (i + 1)
      same =
          ap (λ (k : ℕ). names_below c i ++ map (correct_name i) (range_with_len 0 k)) all
          ∙ ap (λ (names : List Name). names_below c i ++ names) (sym at) ∙ sym (below_more c i)

  -- that of a node that lies
  pub liar_made : (passes : PassesView) (rest : List PassesView) (after : FirstView) → is_in c.liars i ≡ true
      → AreMade c boxes book (names_below c i) i 0 first (passes ∷ rest) → after ≡ record first { given = first.given ++ seat_number i 255 ∷ [] }
      → AreMade c boxes book (names_below c (i + 1)) (i + 1) 0 after rest
  liar_made passes rest after lies is more =
      subst (λ (names : List Name). AreMade c boxes book names (i + 1) 0 after rest) same
      (made_more c boxes book (names_below c i) i 0 first passes rest after (lying_name i) (i + 1) 0 is more (omega arith) (omega arith))
    where
      at : names_at c i ≡ lying_name i ∷ []
      at = rw lies refl

      same : names_below c i ++ lying_name i ∷ [] ≡ names_below c (i + 1)
      same = ap (λ (names : List Name). names_below c i ++ names) (sym at) ∙ sym (below_more c i)
