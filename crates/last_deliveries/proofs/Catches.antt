-- What an actor lacks of the posts of a book.
use Rattle.std.proofs.Common.{◌≡◌, ◌≢◌, ℕ, ◌⊎◌, zero, suc, Result, Ok, Err, ◌+◌, ◌-◌, ◌^◌, min, ◌<◌, ◌≤◌, ◌++◌, ◌==◌, ◌&&◌, ◌||◌, not, Bool, true, false, inl, inr, List, [], ◌∷◌, length, take, Contains, Option, refl, sym, ap, ◌∙◌, subst, arith, slice_get, slice_index_or, slice_set, get_or, get_or-set_same, get_or-set_other}
use Rattle.std.specs.Prelude.{IfOk}
use Rattle.std.specs.List.{list_any}
use Rattle.std.proofs.Math.Bool.{or-false}
use Rattle.std.proofs.Math.ListN.{length-set}
use Rattle.std.proofs.lemmas.Bool.{cases_eq, cases_lt, eqb-true, eq-eqb, ne_eqb}
use Rattle.std.proofs.lemmas.List.{take_more}
use Rattle.std.proofs.lemmas.List.Elements.{Contains-append_left, Contains-append_right}
use Rattle.std.proofs.lemmas.List.Folds.{list_any-append}
use Rattle.std.proofs.lemmas.Option.{slice_get_within}
use Rattle.hb_wire.specs.declared.post.Post.{Post}
use Rattle.net_script.specs.declared.script.Script.{Script}
use Rattle.hb_rules.specs.declared.report.Fate.{Fate}
use Rattle.hb_rules.specs.declared.report.Fate.TheVariants.{Running, Memory, Journal, Full}
use Rattle.hb_rules.specs.Actor.{ActorView, budget}
use Rattle.hb_rules.specs.Ledger.{IsPrefix}
use Rattle.hb_rules.specs.Report.{IsReceived, is_running_fate}
use Rattle.hb_rules.proofs.Among.{any_stands}
use Rattle.step_driver.specs.Places.{PlayerView, left}
use Rattle.step_driver.specs.Playing.{comes_found}
use Rattle.actor_cell.specs.Turning.{IsSameSeat, HasReceived}
use Rattle.actor_cell.proofs.Hearings.{IsShown-refl, IsShown-then, IsPrefix-refl}
use Rattle.last_deliveries.specs.Settling.{HasGoneOn, HasHeardNothing}
use Rattle.last_deliveries.specs.Catching.{AreMarked, HasReceivedTo, LacksNoOther, HasHeardTo, HasTaken, WasRestarted, HasLooked, IsLevelWith, IsCaughtUp, lacks}
use Rattle.last_deliveries.proofs.Players.{HasGoneOn-shown}

-- ---- marks

any_more : (got : List ℕ) (p k : ℕ) → p < length got → list_any (λ m. m == k) (take (p + 1) got) ≡ (list_any (λ m. m == k) (take p got) || (get_or got p 0 == k))
any_more got p k below =
    ap (λ (front : List ℕ). list_any (λ m. m == k) front) (take_more got p 0 below)
    ∙ list_any-append (λ m. m == k) (take p got) (get_or got p 0 ∷ [])
    ∙ ap (λ (b : Bool). list_any (λ m. m == k) (take p got) || b) (or-false (get_or got p 0 == k))

or_true : (b : Bool) → (b || true) ≡ true
or_true true = refl
or_true false = refl

-- one number more is marked
pub AreMarked-more : (got : List ℕ) (p count : ℕ) (marks : List Bool) → p < length got → get_or got p 0 < count → AreMarked (take p got) count marks
    → AreMarked (take (p + 1) got) count (slice_set marks (get_or got p 0) true)
AreMarked-more got p count marks below within marked = record {
  count = length-set marks (get_or got p 0) true ∙ marked.count;
  each = λ k less. elim (cases_eq k (get_or got p 0)) [
    | inl same ↦
        ap (λ (j : ℕ). slice_index_or (slice_set marks (get_or got p 0) true) j false) same
        ∙ get_or-set_same marks (get_or got p 0) true false (omega (arith, within, marked.count))
        ∙ sym (any_more got p k below ∙ rw (eq-eqb (get_or got p 0) k (sym same)) (or_true (list_any (λ m. m == k) (take p got))))
    | inr other ↦
        get_or-set_other marks (get_or got p 0) k true false other
        ∙ marked.each k less
        ∙ sym (any_more got p k below ∙ rw (ne_eqb (get_or got p 0) k (λ same. other (sym same))) (or-false (list_any (λ m. m == k) (take p got))))
  ];
}

-- a number past the posts is not marked
pub AreMarked-past : (got : List ℕ) (p count : ℕ) (marks : List Bool) → p < length got → count ≤ get_or got p 0 → AreMarked (take p got) count marks
    → AreMarked (take (p + 1) got) count marks
AreMarked-past got p count marks below past marked = record {
  count = marked.count;
  each = λ k less.
      let other : get_or got p 0 ≢ k = omega (arith, past, less) in
      marked.each k less ∙ sym (any_more got p k below ∙ rw (ne_eqb (get_or got p 0) k other) (or-false (list_any (λ m. m == k) (take p got))));
}

-- a number that is found among some stands there
marked_stands : (got : List ℕ) (k : ℕ) → list_any (λ m. m == k) got ≡ true → Contains got k
marked_stands got k some =
    let found = any_stands (λ m. m == k) got some in
    subst (Contains got) (eqb-true found.0 k found.2) found.1

pub AreMarked-got : (got : List ℕ) (count : ℕ) (marks : List Bool) → AreMarked got count marks → (k : ℕ) → k < count → slice_index_or marks k false ≡ true → Contains got k
AreMarked-got got count marks marked k within mark = marked_stands got k (sym (marked.each k within) ∙ mark)

pub unmarked : (k : ℕ) → slice_index_or [] k false ≡ true → ⊥
unmarked k mark = cc (mark)

-- ---- what is not lacking was received

by_mark : (mark comes : Bool) → comes ≡ true → (mark ≡ true) ⊎ ((not mark && comes) ≡ true)
by_mark true comes is = inl refl
by_mark false comes is = inr is

-- it has received what came before the new posts, and of the new ones those that are marked
pub LacksNoOther-new : (s : Script) (posts : List Post) (first i x : ℕ) (got : List ℕ) (marks : List Bool) (numbers : List ℕ) → HasReceivedTo s posts first i x got
    → ((k : ℕ) → k < length posts → slice_index_or marks k false ≡ true → Contains got k) → ((k : ℕ) → first ≤ k → lacks s posts marks i x k ≡ true → Contains numbers k)
    → LacksNoOther s posts i x got numbers
LacksNoOther-new s posts first i x got marks numbers before marked lacking k received =
    let within : k < length posts = slice_get_within posts k received.post received.stands in
    let comes : comes_found s.config s (slice_get posts k) i x k ≡ true = ap (λ (f : Option Post). comes_found s.config s f i x k) received.stands ∙ received.comes in
    elim (cases_lt k first) [
      | inl below ↦ inl (before k below received)
      | inr from ↦ elim (by_mark (slice_index_or marks k false) (comes_found s.config s (slice_get posts k) i x k) comes) [
        | inl mark ↦ inl (marked k within mark)
        | inr lacks_it ↦ inr (lacking k from lacks_it)
      ]
    ]

-- one post more was looked at
pub coming_more : (s : Script) (posts : List Post) (i x k : ℕ) (old new : List ℕ) → ((j : ℕ) → j < k → lacks s posts [] i x j ≡ true → Contains old j)
    → ((j : ℕ) → Contains old j → Contains new j) → (lacks s posts [] i x k ≡ true → Contains new k) → (j : ℕ) → j < k + 1 → lacks s posts [] i x j ≡ true → Contains new j
coming_more s posts i x k old new all kept added j below lacking = elim (cases_lt j k) [
  | inl before ↦ kept j (all j before lacking)
  | inr from ↦
      let here : j ≡ k = omega (arith, from, below) in
      subst (λ (m : ℕ). Contains new m) (sym here) (added (subst (λ (m : ℕ). lacks s posts [] i x m ≡ true) here lacking))
]

-- all posts that come to it are among these numbers
pub LacksNoOther-all : (s : Script) (posts : List Post) (i x : ℕ) (got numbers : List ℕ)
    → ((k : ℕ) → k < length posts → lacks s posts [] i x k ≡ true → Contains numbers k) → LacksNoOther s posts i x got numbers
LacksNoOther-all s posts i x got numbers all k received =
    let within : k < length posts = slice_get_within posts k received.post received.stands in
    let comes : comes_found s.config s (slice_get posts k) i x k ≡ true = ap (λ (f : Option Post). comes_found s.config s f i x k) received.stands ∙ received.comes in
    elim (by_mark (slice_index_or [] k false) (comes_found s.config s (slice_get posts k) i x k) comes) [
      | inl mark ↦ absurd (unmarked k mark)
      | inr lacks_it ↦ inr (all k within lacks_it)
    ]

-- it received these numbers, and so lacks nothing
pub HasReceivedTo-heard : (s : Script) (posts : List Post) (i x : ℕ) (old numbers new : List ℕ) → LacksNoOther s posts i x old numbers → new ≡ old ++ numbers
    → HasReceivedTo s posts (length posts) i x new
HasReceivedTo-heard s posts i x old numbers new lacks_no is k below received = subst (λ (ks : List ℕ). Contains ks k) (sym is) (elim (lacks_no k received) [
  | inl got ↦ Contains-append_left old numbers k got
  | inr number ↦ Contains-append_right old numbers k number
])

pub HasReceivedTo-seated : (s : Script) (posts : List Post) (p q : PlayerView) (numbers : List ℕ) → IsSameSeat p q
    → LacksNoOther s posts p.seat.node p.seat.actor p.view.got numbers → q.view.got ≡ p.view.got ++ numbers
    → HasReceivedTo s posts (length posts) q.seat.node q.seat.actor q.view.got
HasReceivedTo-seated s posts p q numbers seat lacks_no is = rw (seat.node, seat.actor)
    (HasReceivedTo-heard s posts p.seat.node p.seat.actor p.view.got numbers q.view.got lacks_no is)

-- ---- a delivery

pub HasTaken-kept : (k : ℕ) (old new : ActorView) → HasReceived k old new → old.restarts ≡ new.restarts → HasTaken k old new
HasTaken-kept k old new (inl taken) same = record { got = taken.0; restarts = taken.1 }
HasTaken-kept k old new (inr again) same = absurd (omega (arith, again.1, same))

pub WasRestarted-lost : (k : ℕ) (old new : ActorView) → HasReceived k old new → (old.restarts ≡ new.restarts → ⊥) → WasRestarted old new
WasRestarted-lost k old new (inl taken) other = absurd (other (sym taken.1))
WasRestarted-lost k old new (inr again) other = record { got = again.0; restarts = again.1 }

pub WasRestarted-then : (a b c : ActorView) → b.restarts ≡ a.restarts → WasRestarted b c → WasRestarted a c
WasRestarted-then a b c same again = record { got = again.got; restarts = omega (arith, again.restarts, same) }

pub running_fate : (fate : Fate) → is_running_fate fate ≡ true → fate ≡ Running
running_fate Running is = refl
running_fate Memory is = absurd (cc (is))
running_fate Journal is = absurd (cc (is))
running_fate Full is = absurd (cc (is))

pub kept_not : (fate : Fate) (before after : ℕ) → fate ≡ Running → before ≡ after → (is_running_fate fate && (before == after)) ≡ false → ⊥
kept_not fate before after running same lost =
    let kept : (is_running_fate fate && (before == after)) ≡ true = rw (running, eq-eqb before after same) refl in
    cc (kept, lost)

-- a count that saturates
pub counted : (n m : ℕ) → m ≡ min (n + 1) (2 ^ 64 - 1) → m ≡ 0 → ⊥
counted n m is none = omega (arith, is, none)

-- a restart uses up a stop
pub left-falls : (p q : PlayerView) → HasGoneOn p q → WasRestarted p.view q.view → left q < left p
left-falls p q went again =
    let few : budget q.view.restarts q.view.supply ≤ budget p.view.restarts p.view.supply = went.keeps.budget in
    omega (arith, few, again.restarts)

-- ---- levels

pub IsLevelWith-works : (count : ℕ) (p : PlayerView) → length p.seat.seen ≡ count → IsLevelWith count p
IsLevelWith-works count p is = record { few = omega (arith, is); level = λ _. is }

pub IsLevelWith-ended : (count : ℕ) (p : PlayerView) → (p.fate ≡ Running → ⊥) → length p.seat.seen ≤ count → IsLevelWith count p
IsLevelWith-ended count p ended few = record { few = few; level = λ running. absurd (ended running) }

-- ---- answers

pub IfOk-on : {T E : Type 0} (P Q : T → Type 0) (r : Result T E) → ((x : T) → P x → Q x) → IfOk r P → IfOk r Q
IfOk-on P Q (Ok x) on holds = on x holds
IfOk-on P Q (Err e) on holds = tt

-- ---- all actors

pub HasLooked-refl : (p : PlayerView) → HasLooked p p
HasLooked-refl p = record { shown = IsShown-refl p; fate = refl }

pub HasLooked-then : (p q r : PlayerView) → HasLooked p q → HasLooked q r → HasLooked p r
HasLooked-then p q r one two = record { shown = IsShown-then p q r one.shown two.shown; fate = two.fate ∙ one.fate }

pub HasGoneOn-looked : (p q : PlayerView) → HasLooked p q → HasGoneOn p q
HasGoneOn-looked p q looked = HasGoneOn-shown p q looked.shown (λ _. looked.fate)

pub HasHeardNothing-looked : (p q : PlayerView) → HasLooked p q → HasHeardNothing p q
HasHeardNothing-looked p q looked = looked.shown.view

pub HasHeardNothing-refl : (p : PlayerView) → HasHeardNothing p p
HasHeardNothing-refl p = refl

pub HasHeardNothing-then : (p q r : PlayerView) → HasHeardNothing p q → HasHeardNothing q r → HasHeardNothing p r
HasHeardNothing-then p q r one two = two ∙ one

-- no posts came before the first
pub HasHeardTo-none : (s : Script) (posts : List Post) (p : PlayerView) → HasHeardTo s posts 0 p
HasHeardTo-none s posts p running k below received = absurd (omega (arith, below))

front_stands : {A : Type 0} (xs ys : List A) (k : ℕ) → k < length xs → slice_get (xs ++ ys) k ≡ slice_get xs k
front_stands [] ys k below = absurd (omega (arith, below))
front_stands (x ∷ xs) ys zero below = refl
front_stands (x ∷ xs) ys (suc k) below = front_stands xs ys k (omega (arith, below))

front_received : (s : Script) (old new : List Post) (i x k : ℕ) → IsPrefix old new → k < length old → IsReceived s.config s new i x k → IsReceived s.config s old i x k
front_received s old new i x k front below received = record {
  post = received.post;
  stands = sym (front_stands old front.rest k below) ∙ sym (ap (λ (posts : List Post). slice_get posts k) front.is) ∙ received.stands;
  comes = received.comes;
}

-- more posts were read, and actors were shown more
pub HasHeardTo-read : (s : Script) (old new : List Post) (p q : PlayerView) → IsPrefix old new → HasHeardTo s old (length old) p → HasLooked p q → HasHeardTo s new (length old) q
HasHeardTo-read s old new p q front heard looked running k below received =
    let before : IsReceived s.config s old q.seat.node q.seat.actor k = front_received s old new q.seat.node q.seat.actor k front below received in
    subst (λ (v : ActorView). Contains v.got k) (sym looked.shown.view)
    (heard (sym looked.fate ∙ running) k below
    (subst (λ (x : ℕ). IsReceived s.config s old p.seat.node x k) looked.shown.seat.actor
    (subst (λ (i : ℕ). IsReceived s.config s old i q.seat.actor k) looked.shown.seat.node before)))

-- what it has received of these posts it has received of fewer
pub HasHeardTo-any : (s : Script) (posts : List Post) (count : ℕ) (p : PlayerView) → HasHeardTo s posts (length posts) p → HasHeardTo s posts count p
HasHeardTo-any s posts count p heard running k below received = heard running k (slice_get_within posts k received.post received.stands) received

-- it has received all, and has seen no more
pub IsCaughtUp-level : (s : Script) (posts : List Post) (count : ℕ) (p q : PlayerView) → length posts ≡ count → HasHeardTo s posts (length posts) p → HasLooked p q → IsLevelWith count q
    → IsCaughtUp s posts q
IsCaughtUp-level s posts count p q is heard looked level = record {
  few = omega (arith, level.few, is);
  all = λ running. record {
    level = level.level running ∙ sym is;
    received = λ k received.
        HasHeardTo-read s posts posts p q (IsPrefix-refl posts) heard looked running k (slice_get_within posts k received.post received.stands) received;
  };
}
