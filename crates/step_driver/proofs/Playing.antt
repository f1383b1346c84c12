-- The calls of one actor.
use Rattle.std.proofs.Common.{◌≡◌, ◌⊎◌, ℕ, zero, suc, ◌+◌, ◌<◌, ◌≤◌, Bool, true, false, inl, inr, List, [], ◌∷◌, ◌++◌, length, Contains, Option, Some, None, refl, sym, ap, ◌∙◌, subst, arith, slice_get, length-append, cond}
use Rattle.std.proofs.lemmas.List.Elements.{Contains-push, Contains-push_cases, Contains-append_left}
use Rattle.std.proofs.lemmas.Bool.{and_parts}
use Rattle.hb_base.specs.Numbers.{Numbers}
use Rattle.hb_wire.specs.declared.post.Post.{Post}
use Rattle.hb_wire.specs.Addresses.{reaches}
use Rattle.net_script.specs.declared.script.Script.{Script}
use Rattle.disk_model.specs.Supply.{IsNamed}
use Rattle.hb_rules.specs.declared.report.Fate.{Fate}
use Rattle.hb_rules.specs.declared.report.Fate.TheVariants.{Running, Memory, Journal, Full}
use Rattle.hb_rules.specs.Actor.{ActorView, Goes, IsStillOff, IsOnAgain, ReachesActor, budget}
use Rattle.hb_rules.specs.Book.{SeatView, BookView, Watched, IsSeatOf, Moved}
use Rattle.hb_rules.specs.BookLaws.{Moved-refl, Moved-trans}
use Rattle.hb_rules.specs.Ledger.{IsPrefix}
use Rattle.hb_rules.specs.Report.{comes_to, IsReceived, is_running_fate, submitted_at}
use Rattle.hb_rules.specs.Owing.{slots_of}
use Rattle.hb_rules.specs.Slots.{owed}
use Rattle.hb_rules.specs.Terms.{Terms, is_proper}
use Rattle.std.specs.Prelude.{IfSome}
use Rattle.step_driver.specs.Places.{PlayerView, left}
use Rattle.step_driver.specs.Delivering.{IsSound, IsPlayer, HasFate, HasMetFault, Passes, Plays, HasHeard, WasRestarted}
use Rattle.hb_rules.specs.declared.actor.ActorFault.{ActorFault}
use Rattle.hb_rules.specs.declared.actor.ActorFault.TheVariants as faults
use Rattle.step_driver.specs.Playing.{HasLooked, EndsOr, comes_found, Explains, IsRefused, fate_of, may_restart, Called, IsReady}

-- ---- histories that grow

pub slice_get-front : {A : Type 0} (xs ys : List A) (k : ℕ) (x : A) → slice_get xs k ≡ Some x → slice_get (xs ++ ys) k ≡ Some x
slice_get-front [] ys k x stands = absurd (cc (stands))
slice_get-front (y ∷ xs) ys zero x stands = stands
slice_get-front (y ∷ xs) ys (suc k) x stands = slice_get-front xs ys k x stands

pub slice_get-none : {A : Type 0} (xs : List A) (k : ℕ) (x : A) → length xs ≤ k → slice_get xs k ≡ Some x → ⊥
slice_get-none [] k x past stands = cc (stands)
slice_get-none (y ∷ xs) zero x past stands = omega (arith, past)
slice_get-none (y ∷ xs) (suc k) x past stands = slice_get-none xs k x (omega (arith, past)) stands

pub IsPrefix-watched : (c : Numbers) (i x : ℕ) (old new : List Post) → Watched c i x old new → IsPrefix old new
IsPrefix-watched c i x old new watched = record { rest = watched.between; is = watched.is }

pub IsReceived-on : (c : Numbers) (s : Script) (old new : List Post) (i x k : ℕ) → IsPrefix old new → IsReceived c s old i x k → IsReceived c s new i x k
IsReceived-on c s old new i x k more received = record {
  post = received.post;
  stands = ap (λ (posts : List Post). slice_get posts k) more.is ∙ slice_get-front old more.rest k received.post received.stands;
  comes = received.comes;
}

-- a post that comes to an actor reaches it
pub reaches_of : (c : Numbers) (s : Script) (posts : List Post) (i x k : ℕ) → IsReceived c s posts i x k → ReachesActor c posts i x k
reaches_of c s posts i x k received = record { post = received.post; stands = received.stands; reaches = (and_parts (reaches c.n received.post i x) _ received.comes).0 }

-- ---- calls

pub Passes-refl : (book : BookView) (p : PlayerView) → IsSeatOf book p.seat → Passes book book p p
Passes-refl book p seat = record { moved = Moved-refl p.seat.node p.seat.actor book; seat = seat; node = refl; actor = refl; left = omega arith }

pub Passes-trans : (a b c : BookView) (p q r : PlayerView) → Passes a b p q → Passes b c q r → Passes a c p r
Passes-trans a b c p q r one two = record {
  moved =
      Moved-trans p.seat.node p.seat.actor a b c one.moved
      (subst (λ (x : ℕ). Moved p.seat.node x b c) one.actor (subst (λ (i : ℕ). Moved i q.seat.actor b c) one.node two.moved));
  seat = two.seat;
  node = two.node ∙ one.node;
  actor = two.actor ∙ one.actor;
  left = omega (arith, one.left, two.left);
}

-- what an actor received, after a call
pub record HasGot (c : Numbers) (s : Script) (old new : PlayerView) : Type 0 where
  pub each : (k : ℕ) → Contains new.view.got k → Contains old.view.got k ⊎ IsReceived c s new.seat.seen new.seat.node new.seat.actor k

-- an actor that was sound before a call is sound after it
pub IsSound-on : (c : Numbers) (s : Script) (old new : PlayerView) → IsSound c s old → new.seat.node ≡ old.seat.node → new.seat.actor ≡ old.seat.actor
    → IsPrefix old.seat.seen new.seat.seen → new.view.terms ≡ old.view.terms → new.view.supply.planned ≡ old.view.supply.planned
    → budget new.view.restarts new.view.supply ≤ budget old.view.restarts old.view.supply → HasGot c s old new → IsSound c s new
IsSound-on c s old new sound node actor more terms planned less got = record {
  honest = rw node sound.honest;
  owes = λ own heard.
      ap (λ (t : Terms). t.owed own heard) terms ∙ sound.owes own heard
      ∙ ap (λ (i : ℕ). owed (slots_of c (submitted_at s i) i old.seat.actor) own heard) (sym node)
      ∙ ap (λ (x : ℕ). owed (slots_of c (submitted_at s new.seat.node) new.seat.node x) own heard) (sym actor);
  proper = λ desk own vote.
      ap (λ (t : Terms). t.proper own vote) terms ∙ sound.proper (sym actor ∙ desk) own vote
      ∙ ap (λ (i : ℕ). is_proper c (submitted_at s i) own vote) (sym node);
  planned = rw (node, actor, planned) sound.planned;
  bound = rw (node, actor) (omega (arith, sound.bound, less));
  few = omega (arith, sound.few, less);
  got = λ k stands. elim (got.each k stands) [
    | inl had ↦ IsReceived-on c s old.seat.seen new.seat.seen new.seat.node new.seat.actor k more (rw (node, actor) (sound.got k had))
    | inr received ↦ received
  ];
}

pub Moved-longer : (i x : ℕ) (a b : BookView) → Moved i x a b → length a.posts ≤ length b.posts
Moved-longer i x a b moved = omega (arith, ap (λ (posts : List Post). length posts) moved.extended.is, length-append a.posts moved.extended.added)

Contains-none : {A : Type 0} (xs : List A) (x : A) → xs ≡ [] → Contains xs x → ⊥
Contains-none xs x none stands = omega (arith, stands.1, ap length none)

-- ---- what becomes of fates

pub not_running : (fate : Fate) → is_running_fate fate ≡ false → fate ≡ Running → ⊥
not_running fate not is = cc (not, ap is_running_fate is)

pub HasFate-ended : (started : Bool) (fate : Fate) (seat : SeatView) (v : ActorView) → is_running_fate fate ≡ false → HasFate started fate seat v → HasFate true fate seat v
HasFate-ended true fate seat v not has = has
HasFate-ended false Running seat v not has = absurd (cc (not))
HasFate-ended false Memory seat v not has = has
HasFate-ended false Journal seat v not has = has
HasFate-ended false Full seat v not has = has

pub live_of : (c : Numbers) (s : Script) (p : PlayerView) → p.fate ≡ Running → IsPlayer c s true p → p.view.live ≡ true
live_of c s p running player = subst (λ (fate : Fate). HasFate true fate p.seat p.view) running player.fate

pub fresh_of : (fate : Fate) (seat : SeatView) (v : ActorView) → fate ≡ Running → HasFate false fate seat v → v.fresh ≡ true
fresh_of fate seat v running has = subst (λ (f : Fate). HasFate false f seat v) running has

-- an actor that has ended hears nothing
pub Plays-ended : (s : Script) (k : ℕ) (started : Bool) (book : BookView) (p : PlayerView) → IsSeatOf book p.seat → is_running_fate p.fate ≡ false
    → IsPlayer book.config s started p → Plays s k book book p p None
Plays-ended s k started book p seat not player = record {
  passes = Passes-refl book p seat;
  player = record { sound = player.sound; fate = HasFate-ended started p.fate p.seat p.view not player.fate };
  worked = λ running. absurd (not_running p.fate not running);
  restarted = tt;
}

-- an actor that was started, or heard a post, and goes on
pub Plays-went : (s : Script) (k : ℕ) (book book' : BookView) (old new : PlayerView) → Passes book book' old new → IsSound book.config s new
    → HasFate true new.fate new.seat new.view → old.fate ≡ Running → HasHeard book.config s k book'.posts old new None → Plays s k book book' old new None
Plays-went s k book book' old new passes sound fate running heard = record {
  passes = passes;
  player = record { sound = sound; fate = fate };
  worked = λ _. (running, heard);
  restarted = tt;
}

-- an actor that ended for want of memory before it heard a post
pub Plays-memory : (s : Script) (k : ℕ) (book book' : BookView) (old new : PlayerView) → Passes book book' old new → IsSound book.config s new
    → new.fate ≡ Memory → Plays s k book book' old new None
Plays-memory s k book book' old new passes sound memory = record {
  passes = passes;
  player = record { sound = sound; fate = subst (λ (fate : Fate). HasFate true fate new.seat new.view) (sym memory) tt };
  worked = λ running. absurd (cc (running, memory));
  restarted = tt;
}

restarted-on : (book mid book' : BookView) (old mid_p new : PlayerView) (again : Option ℕ) → left mid_p ≤ left old → length book.posts ≤ length mid.posts
    → IfSome again (WasRestarted mid book' mid_p new) → IfSome again (WasRestarted book book' old new)
restarted-on book mid book' old mid_p new None less longer restarted = tt
restarted-on book mid book' old mid_p new (Some stood) less longer restarted = record {
  left = omega (arith, restarted.left, less);
  before = omega (arith, restarted.before, longer);
  within = restarted.within;
}

heard_again : (c : Numbers) (s : Script) (k : ℕ) (posts : List Post) (old new : PlayerView) (again : Option ℕ) → (again ≡ None → ⊥) → HasHeard c s k posts old new again
heard_again c s k posts old new None some = absurd (some refl)
heard_again c s k posts old new (Some stood) some = tt

-- a call was refused, and the actor ended or was restarted
pub Plays-failed : (s : Script) (k : ℕ) (book mid book' : BookView) (old mid_p new : PlayerView) (again : Option ℕ) → Passes book mid old mid_p
    → IsSound book.config s mid_p → old.fate ≡ Running → EndsOr mid book' mid_p new again → Plays s k book book' old new again
Plays-failed s k book mid book' old mid_p new again passes sound running ends = record {
  passes = Passes-trans book mid book' old mid_p new passes ends.passes;
  player = record {
    sound =
        subst (λ (c : Numbers). IsSound c s new) passes.moved.config
        (ends.sound s (subst (λ (c : Numbers). IsSound c s mid_p) (sym passes.moved.config) sound));
    fate = ends.fate;
  };
  worked = λ works. (running, heard_again book.config s k book'.posts old new again (ends.works works).0);
  restarted = restarted-on book mid book' old mid_p new again passes.left (Moved-longer old.seat.node old.seat.actor book mid passes.moved) ends.restarted;
}

-- ---- restarts

pub HasGot-restart : (c : Numbers) (s : Script) (old new : PlayerView) → IsStillOff old.view new.view ⊎ IsOnAgain old.view new.view → HasGot c s old new
HasGot-restart c s old new (inl still) = record { each = λ k stands. inl (subst (λ (got : List ℕ). Contains got k) still.got stands) }
HasGot-restart c s old new (inr again) = record { each = λ k stands. absurd (Contains-none new.view.got k again.got stands) }

pub HasGot-step : (c : Numbers) (s : Script) (old new : PlayerView) (k : ℕ) → IsReceived c s new.seat.seen new.seat.node new.seat.actor k
    → (new.view.got ≡ old.view.got) ⊎ (new.view.got ≡ old.view.got ++ k ∷ []) → HasGot c s old new
HasGot-step c s old new k comes (inl same) = record { each = λ j stands. inl (subst (λ (got : List ℕ). Contains got j) same stands) }
HasGot-step c s old new k comes (inr more) = record {
  each = λ j stands. elim (Contains-push_cases old.view.got k j (subst (λ (got : List ℕ). Contains got j) more stands)) [
    | inl had ↦ inl had
    | inr is ↦ inr (subst (λ (n : ℕ). IsReceived c s new.seat.seen new.seat.node new.seat.actor n) is comes)
  ];
}

pub HasGot-none : (c : Numbers) (s : Script) (old new : PlayerView) → new.view.got ≡ [] → HasGot c s old new
HasGot-none c s old new none = record { each = λ k stands. absurd (Contains-none new.view.got k none stands) }

pub IsSound-called : (c : Numbers) (s : Script) (book book' : BookView) (old new : PlayerView) → Called book book' old new → HasGot c s old new → IsSound c s old → IsSound c s new
IsSound-called c s book book' old new called got sound =
    IsSound-on c s old new sound called.passes.node called.passes.actor called.seen called.goes.terms called.goes.planned called.goes.budget got

-- an actor whose call was refused, before it is restarted or ends
pub record IsFailing (book0 book : BookView) (p0 p : PlayerView) (fault : ActorFault) : Type 0 where
  pub passes : Passes book0 book p0 p
  pub sound : (s : Script) → IsSound book0.config s p0 → IsSound book0.config s p
  pub fate : p.fate ≡ Running
  pub refused : IsRefused fault p

pub IsFailing-start : (book : BookView) (p : PlayerView) (fault : ActorFault) → IsSeatOf book p.seat → p.fate ≡ Running → IsRefused fault p → IsFailing book book p p fault
IsFailing-start book p fault seat running refused = record { passes = Passes-refl book p seat; sound = λ s sound. sound; fate = running; refused = refused }

pub IsFailing-on : (book0 book book' : BookView) (p0 p q : PlayerView) (fault next : ActorFault) → IsFailing book0 book p0 p fault → Called book book' p q
    → IsStillOff p.view q.view ⊎ IsOnAgain p.view q.view → IsRefused next q → IsFailing book0 book' p0 q next
IsFailing-on book0 book book' p0 p q fault next was called either refused = record {
  passes = Passes-trans book0 book book' p0 p q was.passes called.passes;
  sound = λ s sound. IsSound-called book0.config s book book' p q called (HasGot-restart book0.config s p q either) (was.sound s sound);
  fate = called.fate ∙ was.fate;
  refused = refused;
}

pub left-again : (old new : PlayerView) → Goes old.view new.view → IsOnAgain old.view new.view → left new + 1 ≤ left old
left-again old new goes again = omega (arith, goes.budget, again.restarts)

-- what falls from restart to restart
abbrev pub fails_left : ActorFault → PlayerView → ℕ
fails_left fault p = cond (may_restart fault true) (left p + 1) 0

pub fails_left-falls : (fault next : ActorFault) (off : Bool) (p q : PlayerView) → may_restart fault off ≡ true → Goes p.view q.view
    → (next ≡ faults.Journal → IsOnAgain p.view q.view) → fails_left next q < fails_left fault p
fails_left-falls faults.Journal faults.Journal off p q may goes again = omega (arith, left-again p q goes (again refl))
fails_left-falls faults.Journal faults.Full off p q may goes again = omega arith
fails_left-falls faults.Journal faults.Memory off p q may goes again = omega arith
fails_left-falls faults.Full next off p q may goes again = absurd (cc (may))
fails_left-falls faults.Memory next off p q may goes again = absurd (cc (may))

-- a restart that succeeded
pub EndsOr-again : (book0 book book' : BookView) (p0 p q : PlayerView) (stood : ℕ) (fault : ActorFault) → IsFailing book0 book p0 p fault → Called book book' p q
    → IsOnAgain p.view q.view → q.view.live ≡ true → p0.fate ≡ Running → stood ≡ length book.posts → EndsOr book0 book' p0 q (Some stood)
EndsOr-again book0 book book' p0 p q stood fault was called again live running is = record {
  passes = Passes-trans book0 book book' p0 p q was.passes called.passes;
  sound = λ s sound. IsSound-called book0.config s book book' p q called (HasGot-restart book0.config s p q (inr again)) (was.sound s sound);
  fate = subst (λ (f : Fate). HasFate true f q.seat q.view) (sym (called.fate ∙ was.fate)) live;
  works = λ _. ((λ none. cc (none)), running);
  restarted = record {
    left = omega (arith, left-again p q called.goes again, was.passes.left);
    before = omega (arith, is, Moved-longer p0.seat.node p0.seat.actor book0 book was.passes.moved);
    within = omega (arith, is, Moved-longer p.seat.node p.seat.actor book book' called.passes.moved);
  };
  live = λ _. called.fate ∙ was.fate;
}

abbrev pub with_fate : PlayerView → Fate → PlayerView
with_fate p fate = record p { fate = fate }

-- what was sound is sound with another fate
pub IsSound-fate : (c : Numbers) (s : Script) (p : PlayerView) (fate : Fate) → IsSound c s p → IsSound c s (with_fate p fate)
IsSound-fate c s p fate sound = record {
  honest = sound.honest;
  owes = sound.owes;
  proper = sound.proper;
  planned = sound.planned;
  bound = sound.bound;
  few = sound.few;
  got = sound.got;
}

met_of : (v : ActorView) → v.supply.off ≡ false → IsNamed v.supply → HasMetFault v
met_of v on (inl off) = absurd (cc (on, off))
met_of v on (inr named) = record { call = v.supply.calls; planned = named; met = omega arith }

pub HasFate-fault : (fault : ActorFault) (p : PlayerView) → may_restart fault p.view.supply.off ≡ false → Explains fault p.seat p.view → HasFate true (fate_of fault) p.seat p.view
HasFate-fault faults.Journal p not cause = met_of p.view not cause
HasFate-fault faults.Full p not cause = cause
HasFate-fault faults.Memory p not cause = tt

not_running_fault : (fault : ActorFault) → is_running_fate (fate_of fault) ≡ false
not_running_fault faults.Journal = refl
not_running_fault faults.Full = refl
not_running_fault faults.Memory = refl

-- an actor that is not restarted ends
pub EndsOr-ended : (book0 book : BookView) (p0 p : PlayerView) (fault : ActorFault) → IsFailing book0 book p0 p fault → may_restart fault p.view.supply.off ≡ false
    → EndsOr book0 book p0 (with_fate p (fate_of fault)) None
EndsOr-ended book0 book p0 p fault was not = record {
  passes = record { moved = was.passes.moved; seat = was.passes.seat; node = was.passes.node; actor = was.passes.actor; left = was.passes.left };
  sound = λ s sound. IsSound-fate book0.config s p (fate_of fault) (was.sound s sound);
  fate = HasFate-fault fault p not was.refused.cause;
  works = λ running. absurd (not_running (fate_of fault) (not_running_fault fault) running);
  restarted = tt;
  live = λ live. absurd (cc (live, was.refused.ended));
}

-- ---- starts

-- the actor was started, and has received nothing yet
pub Plays-started : (s : Script) (book book' : BookView) (old new : PlayerView) → IsPlayer book.config s false old → old.fate ≡ Running → Called book book' old new
    → old.view.got ≡ [] → new.view.got ≡ [] → new.view.live ≡ true → Plays s (length book'.posts) book book' old new None
Plays-started s book book' old new player running called had none live =
    Plays-went s (length book'.posts) book book' old new called.passes
    (IsSound-called book.config s book book' old new called (HasGot-none book.config s old new none) player.sound)
    (subst (λ (f : Fate). HasFate true f new.seat new.view) (sym (called.fate ∙ running)) live) running (
      (λ j stands. absurd (Contains-none old.view.got j had stands)),
      λ received. absurd (slice_get-none book'.posts (length book'.posts) received.post (omega arith) received.stands),
    )

-- ---- looking

pub IsReceived-found : (c : Numbers) (s : Script) (found : Option Post) (posts : List Post) (i x k : ℕ) → found ≡ slice_get posts k → comes_found c s found i x k ≡ true
    → IsReceived c s posts i x k
IsReceived-found c s None posts i x k is comes = absurd (cc (comes))
IsReceived-found c s (Some post) posts i x k is comes = record { post = post; stands = sym is; comes = comes }

pub not_received : (c : Numbers) (s : Script) (found : Option Post) (posts : List Post) (i x k : ℕ) → found ≡ slice_get posts k → comes_found c s found i x k ≡ false
    → IsReceived c s posts i x k → ⊥
not_received c s None posts i x k is not received = let there = received.stands in cc
not_received c s (Some post) posts i x k is not received =
    let there = received.stands in
    let same : received.post ≡ post = cc in
    let comes : comes_to c s post i x k ≡ true = subst (λ (o : Post). comes_to c s o i x k ≡ true) same received.comes in
    cc (comes, not)

pub found_same : (c d : Numbers) (s : Script) (found : Option Post) (i j x y k : ℕ) (told : Bool) → told ≡ comes_found c s found i x k → c ≡ d → i ≡ j → x ≡ y
    → comes_found d s found j y k ≡ told
found_same c d s found i j x y k told is config node actor =
    sym (is ∙ ap (λ (e : Numbers). comes_found e s found i x k) config ∙ ap (λ (a : ℕ). comes_found d s found a x k) node ∙ ap (λ (b : ℕ). comes_found d s found j b k) actor)

pub HasLooked-of : (book book' : BookView) (old new : PlayerView) → IsSeatOf book' new.seat
    → (new.seat.config ≡ old.seat.config) × (new.seat.node ≡ old.seat.node) × (new.seat.actor ≡ old.seat.actor)
    → Moved old.seat.node old.seat.actor book book' → Watched old.seat.config old.seat.node old.seat.actor old.seat.seen new.seat.seen
    → new.view ≡ old.view → new.fate ≡ old.fate → new.seat.seen ≡ book'.posts → HasLooked book book' old new
HasLooked-of book book' old new seat same moved watched view fate all = record {
  passes = record {
    moved = moved;
    seat = seat;
    node = same.1;
    actor = same.2;
    left = omega (arith, ap (λ (v : ActorView). v.supply.stops + cond v.supply.off 1 0) view);
  };
  view = view;
  fate = fate;
  seen = IsPrefix-watched old.seat.config old.seat.node old.seat.actor old.seat.seen new.seat.seen watched;
  all = all;
}

pub IsSound-looked : (c : Numbers) (s : Script) (book book' : BookView) (old new : PlayerView) → HasLooked book book' old new → IsSound c s old → IsSound c s new
IsSound-looked c s book book' old new looked sound =
    IsSound-on c s old new sound looked.passes.node looked.passes.actor looked.seen (ap (λ (v : ActorView). v.terms) looked.view)
    (ap (λ (v : ActorView). v.supply.planned) looked.view)
    (omega (arith, ap (λ (v : ActorView). budget v.restarts v.supply) looked.view))
    (record { each = λ k stands. inl (subst (λ (v : ActorView). Contains v.got k) looked.view stands) })

-- what was looked for is not for it
pub Plays-looked : (s : Script) (k : ℕ) (book book' : BookView) (old new : PlayerView) → HasLooked book book' old new → IsPlayer book.config s true old → old.fate ≡ Running
    → (IsReceived book.config s new.seat.seen new.seat.node new.seat.actor k → ⊥) → Plays s k book book' old new None
Plays-looked s k book book' old new looked player running not =
    Plays-went s k book book' old new looked.passes (IsSound-looked book.config s book book' old new looked player.sound)
    (subst (λ (f : Fate). HasFate true f new.seat new.view) (sym (looked.fate ∙ running))
    (subst (λ (v : ActorView). v.live ≡ true) (sym looked.view) (live_of book.config s old running player))) running (
      (λ j had. subst (λ (v : ActorView). Contains v.got j) (sym looked.view) had),
      λ received. absurd (not (subst (λ (posts : List Post). IsReceived book.config s posts new.seat.node new.seat.actor k) (sym looked.all) received)),
    )

-- no memory to look
pub Plays-unread : (s : Script) (k : ℕ) (book book' : BookView) (old new : PlayerView) → HasLooked book book' old new → IsPlayer book.config s true old
    → Plays s k book book' old (with_fate new Memory) None
Plays-unread s k book book' old new looked player =
    Plays-memory s k book book' old (with_fate new Memory)
    (record { moved = looked.passes.moved; seat = looked.passes.seat; node = looked.passes.node; actor = looked.passes.actor; left = looked.passes.left })
    (IsSound-fate book.config s new Memory (IsSound-looked book.config s book book' old new looked player.sound)) refl

pub IsReady-looked : (s : Script) (k : ℕ) (book book' : BookView) (old new : PlayerView) → HasLooked book book' old new → IsPlayer book.config s true old → old.fate ≡ Running
    → IsReceived book.config s new.seat.seen new.seat.node new.seat.actor k → IsReady s k book' new
IsReady-looked s k book book' old new looked player running comes = record {
  seat = looked.passes.seat;
  running = looked.fate ∙ running;
  live = subst (λ (v : ActorView). v.live ≡ true) (sym looked.view) (live_of book.config s old running player);
  sound = subst (λ (c : Numbers). IsSound c s new) (sym looked.passes.moved.config) (IsSound-looked book.config s book book' old new looked player.sound);
  comes = subst (λ (c : Numbers). IsReceived c s new.seat.seen new.seat.node new.seat.actor k) (sym looked.passes.moved.config) comes;
}

heard_after : (c d : Numbers) (s : Script) (k : ℕ) (posts : List Post) (old mid new : PlayerView) (again : Option ℕ) → d ≡ c → mid.view ≡ old.view
    → HasHeard d s k posts mid new again → HasHeard c s k posts old new again
heard_after c d s k posts old mid new None same view heard = (
  (λ j had. heard.0 j (subst (λ (v : ActorView). Contains v.got j) (sym view) had)),
  λ received. heard.1 (subst (λ (e : Numbers). IsReceived e s posts new.seat.node new.seat.actor k) (sym same) received),
)
heard_after c d s k posts old mid new (Some stood) same view heard = tt

-- it looked, and then heard the post
pub Plays-after : (s : Script) (k : ℕ) (book mid book' : BookView) (old p new : PlayerView) (again : Option ℕ) → HasLooked book mid old p → Plays s k mid book' p new again
    → Plays s k book book' old new again
Plays-after s k book mid book' old p new again looked plays = record {
  passes = Passes-trans book mid book' old p new looked.passes plays.passes;
  player = subst (λ (c : Numbers). IsPlayer c s true new) looked.passes.moved.config plays.player;
  worked = λ running. let w = plays.worked running in
      (sym looked.fate ∙ w.0, heard_after book.config mid.config s k book'.posts old p new again looked.passes.moved.config looked.view w.1);
  restarted = restarted-on book mid book' old p new again looked.passes.left (Moved-longer old.seat.node old.seat.actor book mid looked.passes.moved) plays.restarted;
}

-- ---- hearing

pub IsSound-stepped : (s : Script) (k : ℕ) (book book' : BookView) (old new : PlayerView) → IsReady s k book old → Called book book' old new
    → (new.view.got ≡ old.view.got) ⊎ (new.view.got ≡ old.view.got ++ k ∷ []) → IsSound book.config s new
IsSound-stepped s k book book' old new ready called either =
    let comes : IsReceived book.config s new.seat.seen new.seat.node new.seat.actor k =
    rw (called.passes.node, called.passes.actor) (IsReceived-on book.config s old.seat.seen new.seat.seen old.seat.node old.seat.actor k called.seen ready.comes) in
    IsSound-called book.config s book book' old new called (HasGot-step book.config s old new k comes either) ready.sound

pub Plays-stepped : (s : Script) (k : ℕ) (book book' : BookView) (old new : PlayerView) → IsReady s k book old → Called book book' old new
    → new.view.got ≡ old.view.got ++ k ∷ [] → new.view.live ≡ true → Plays s k book book' old new None
Plays-stepped s k book book' old new ready called got live =
    Plays-went s k book book' old new called.passes (IsSound-stepped s k book book' old new ready called (inr got))
    (subst (λ (f : Fate). HasFate true f new.seat new.view) (sym (called.fate ∙ ready.running)) live) ready.running (
      (λ j had. subst (λ (ks : List ℕ). Contains ks j) (sym got) (Contains-append_left old.view.got (k ∷ []) j had)),
      λ _. subst (λ (ks : List ℕ). Contains ks k) (sym got) (Contains-push old.view.got k),
    )

-- the post that an actor may hear reaches it
pub ReachesActor-ready : (s : Script) (k : ℕ) (book : BookView) (p : PlayerView) → IsReady s k book p → ReachesActor p.seat.config p.seat.seen p.seat.node p.seat.actor k
ReachesActor-ready s k book p ready =
    subst (λ (c : Numbers). ReachesActor c p.seat.seen p.seat.node p.seat.actor k) (sym ready.seat.config)
    (reaches_of book.config s p.seat.seen p.seat.node p.seat.actor k ready.comes)
