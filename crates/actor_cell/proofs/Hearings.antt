-- The calls of one actor, over any kind of book.
use Rattle.std.proofs.Common.{◌≡◌, ◌⊎◌, ℕ, ◌<◌, ◌≤◌, Bool, true, false, inl, inr, List, [], ◌∷◌, ◌++◌, length, Contains, refl, sym, ap, ◌∙◌, subst, arith, zero, suc, Result, Ok, Err, OnErr, IsErrOf}
use Rattle.std.proofs.lemmas.List.{append-nil, append_assoc}
use Rattle.std.proofs.lemmas.List.Elements.{Contains-push_cases}
use Rattle.hb_base.specs.Numbers.{Numbers}
use Rattle.hb_base.specs.Limits.{most_posts}
use Rattle.disk_model.specs.Supply.{IsNamed}
use Rattle.hb_rules.specs.declared.actor.ActorFault.{ActorFault}
use Rattle.hb_rules.specs.declared.actor.ActorFault.TheVariants as faults
use Rattle.hb_rules.specs.declared.report.Fate.{Fate}
use Rattle.hb_rules.specs.declared.report.Fate.TheVariants.{Running, Memory}
use Rattle.hb_rules.specs.Actor.{ActorView, Goes, IsStillOff, IsOnAgain, Told}
use Rattle.hb_rules.specs.Book.{Watched}
use Rattle.hb_rules.specs.Ledger.{IsPrefix}
use Rattle.journaled_actor.proofs.Posted.{told_refl, told_trans, told_watched}
use Rattle.step_driver.specs.Places.{PlayerView}
use Rattle.step_driver.specs.Delivering.{HasFate}
use Rattle.step_driver.specs.Playing.{IsRefused, Explains, fate_of, may_restart}
use Rattle.step_driver.proofs.Playing.{HasFate-fault}
use Rattle.actor_cell.specs.Turning.{IsSameSeat, IsShown, KeepsTerms, WantedMemory, IsTried, Recovers, Starts, Hears}

pub Contains-none : {A : Type 0} (xs : List A) (x : A) → xs ≡ [] → Contains xs x → ⊥
Contains-none xs x none stands = omega (arith, stands.1, ap length none)

pub IsPrefix-refl : {A : Type 0} (xs : List A) → IsPrefix xs xs
IsPrefix-refl xs = record { rest = []; is = sym (append-nil xs) }

pub IsPrefix-then : {A : Type 0} (xs ys zs : List A) → IsPrefix xs ys → IsPrefix ys zs → IsPrefix xs zs
IsPrefix-then {A} xs ys zs one two = record {
  rest = one.rest ++ two.rest;
  is = two.is ∙ ap (λ (ws : List A). ws ++ two.rest) one.is ∙ append_assoc xs one.rest two.rest;
}

pub IsSameSeat-refl : (p : PlayerView) → IsSameSeat p p
IsSameSeat-refl p = record { config = refl; node = refl; actor = refl }

pub IsSameSeat-then : (p q r : PlayerView) → IsSameSeat p q → IsSameSeat q r → IsSameSeat p r
IsSameSeat-then p q r one two = record { config = two.config ∙ one.config; node = two.node ∙ one.node; actor = two.actor ∙ one.actor }

pub KeepsTerms-refl : (v : ActorView) → KeepsTerms v v
KeepsTerms-refl v = record { terms = refl; begun = λ begun. begun; planned = refl; budget = omega arith }

pub KeepsTerms-then : (u v w : ActorView) → KeepsTerms u v → KeepsTerms v w → KeepsTerms u w
KeepsTerms-then u v w one two = record { terms = two.terms ∙ one.terms; begun = λ begun. two.begun (one.begun begun); planned = two.planned ∙ one.planned; budget = omega (arith, one.budget, two.budget) }

pub KeepsTerms-goes : (u v : ActorView) → Goes u v → KeepsTerms u v
KeepsTerms-goes u v goes = record { terms = goes.terms; begun = λ _. goes.begun; planned = goes.planned; budget = goes.budget }

-- what an actor tells of its seat
abbrev pub IsItsSeat : PlayerView → Type 0
IsItsSeat p = (p.seat.config ≡ p.view.terms.config) × (p.seat.node ≡ p.view.terms.node) × (p.seat.actor ≡ p.view.terms.actor)

-- a look
pub IsShown-of : (old new : PlayerView) → IsItsSeat old
    → (new.seat.config ≡ old.seat.config) × (new.seat.node ≡ old.seat.node) × (new.seat.actor ≡ old.seat.actor)
    → Watched old.seat.config old.seat.node old.seat.actor old.seat.seen new.seat.seen → new.view ≡ old.view → IsShown old new
IsShown-of old new is same watched view =
    let t = old.view.terms in
    let a = old.seat.seen in
    let b = new.seat.seen in
    let by_terms : Watched t.config t.node t.actor a b =
    subst (λ (x : ℕ). Watched t.config t.node x a b) is.2
    (subst (λ (i : ℕ). Watched t.config i old.seat.actor a b) is.1 (subst (λ (c : Numbers). Watched c old.seat.node old.seat.actor a b) is.0 watched)) in
    record { seat = record { config = same.0; node = same.1; actor = same.2 }; view = view; others = told_watched t a b [] by_terms }

-- ---- restarts

-- nothing was done since the first fault, or restarts were tried
abbrev pub WasTried : PlayerView → PlayerView → ActorFault → ActorFault → Type 0
WasTried old now first fault =
    ((now ≡ old) × (fault ≡ first))
    ⊎ ((may_restart first old.view.supply.off ≡ true) × ((old.view.restarts < now.view.restarts) ⊎ ((fault ≡ faults.Memory) × (now.view.supply.off ≡ true))))

-- an actor whose call was refused, before it is restarted or ends
pub record IsRecovering (old now : PlayerView) (first fault : ActorFault) (before out : List ℕ) : Type 0 where
  pub seat : IsSameSeat old now
  pub seen : IsPrefix old.seat.seen now.seat.seen
  pub keeps : KeepsTerms old.view now.view
  pub got : (k : ℕ) → Contains now.view.got k → Contains old.view.got k
  pub refused : IsRefused fault now
  pub restarts : old.view.restarts ≤ now.view.restarts
  pub told : (fault ≡ faults.Memory → ⊥) → Told old.view.terms old.seat.seen now.seat.seen before out
  pub journal : (first ≡ fault) ⊎ (first ≡ faults.Journal)
  pub tried : WasTried old now first fault

pub IsRecovering-start : (p : PlayerView) (fault : ActorFault) (out : List ℕ) → IsRefused fault p → IsRecovering p p fault fault out out
IsRecovering-start p fault out refused = record {
  seat = IsSameSeat-refl p;
  seen = IsPrefix-refl p.seat.seen;
  keeps = KeepsTerms-refl p.view;
  got = λ k stands. stands;
  refused = refused;
  restarts = omega arith;
  told = λ _. told_refl p.view.terms p.seat.seen out;
  journal = inl refl;
  tried = inl (refl, refl);
}

got_after : (old new : ActorView) → IsStillOff old new ⊎ IsOnAgain old new → (k : ℕ) → Contains new.got k → Contains old.got k
got_after old new (inl still) k stands = subst (λ (got : List ℕ). Contains got k) still.got stands
got_after old new (inr again) k stands = absurd (Contains-none new.got k again.got stands)

-- only a failed journal is followed by a restart
pub journal_of : (fault : ActorFault) (off : Bool) → may_restart fault off ≡ true → fault ≡ faults.Journal
journal_of faults.Journal off may = refl
journal_of faults.Full off may = absurd (cc (may))
journal_of faults.Memory off may = absurd (cc (may))

pub restarts_after_journal : (fault : ActorFault) (off told : Bool) → told ≡ may_restart fault off → told ≡ true → fault ≡ faults.Journal
restarts_after_journal fault off told is may = journal_of fault off (sym is ∙ may)

not_memory : (fault : ActorFault) → fault ≡ faults.Journal → fault ≡ faults.Memory → ⊥
not_memory fault is other = cc (is, other)

journal_first : (first fault : ActorFault) → (first ≡ fault) ⊎ (first ≡ faults.Journal) → fault ≡ faults.Journal → first ≡ faults.Journal
journal_first first fault (inl same) is = same ∙ is
journal_first first fault (inr journal) is = journal

pub may_of : (fault : ActorFault) (off is_off told : Bool) → told ≡ may_restart fault is_off → is_off ≡ off → told ≡ true → may_restart fault off ≡ true
may_of fault off is_off told is same may = ap (λ (o : Bool). may_restart fault o) (sym same) ∙ sym is ∙ may

-- a restart may follow the first fault where one may follow now
may_first : (old now : PlayerView) (first fault : ActorFault) → WasTried old now first fault → may_restart fault now.view.supply.off ≡ true → may_restart first old.view.supply.off ≡ true
may_first old now first fault (inl none) may =
    subst (λ (f : ActorFault). may_restart f old.view.supply.off ≡ true) none.1
    (subst (λ (p : PlayerView). may_restart fault p.view.supply.off ≡ true) none.0 may)
may_first old now first fault (inr tried) may = tried.0

switched_on : (old p q : PlayerView) (next : ActorFault) → old.view.restarts ≤ p.view.restarts → IsStillOff p.view q.view ⊎ IsOnAgain p.view q.view
    → (IsStillOff p.view q.view → next ≡ faults.Memory) → (old.view.restarts < q.view.restarts) ⊎ ((next ≡ faults.Memory) × (q.view.supply.off ≡ true))
switched_on old p q next restarts (inl still) memory = inr (memory still, still.off)
switched_on old p q next restarts (inr again) memory = inl (omega (arith, restarts, again.restarts))

-- one more restart was refused
pub IsRecovering-on : (old p q : PlayerView) (first fault next : ActorFault) (before out out' : List ℕ) → IsRecovering old p first fault before out → may_restart fault p.view.supply.off ≡ true
    → IsSameSeat p q → IsPrefix p.seat.seen q.seat.seen → Goes p.view q.view → IsStillOff p.view q.view ⊎ IsOnAgain p.view q.view
    → (IsStillOff p.view q.view → next ≡ faults.Memory) → IsRefused next q
    → ((next ≡ faults.Memory → ⊥) → Told p.view.terms p.seat.seen q.seat.seen out out') → IsRecovering old q first next before out'
IsRecovering-on old p q first fault next before out out' was may seat seen goes either still refused told = record {
  seat = IsSameSeat-then old p q was.seat seat;
  seen = IsPrefix-then old.seat.seen p.seat.seen q.seat.seen was.seen seen;
  keeps = KeepsTerms-then old.view p.view q.view was.keeps (KeepsTerms-goes p.view q.view goes);
  got = λ k stands. was.got k (got_after p.view q.view either k stands);
  refused = refused;
  restarts = omega (arith, was.restarts, goes.restarts);
  told = λ other.
      told_trans old.view.terms old.seat.seen p.seat.seen q.seat.seen before out out' (was.told (not_memory fault (journal_of fault p.view.supply.off may)))
      (subst (λ t. Told t p.seat.seen q.seat.seen out out') was.keeps.terms (told other));
  journal = inr (journal_first first fault was.journal (journal_of fault p.view.supply.off may));
  tried = inr (may_first old p first fault was.tried may, switched_on old p q next was.restarts either still);
}

-- a restart succeeded
pub Recovers-again : (old p q : PlayerView) (first fault : ActorFault) (before out out' : List ℕ) → IsRecovering old p first fault before out → fault ≡ faults.Journal
    → IsSameSeat p q → IsPrefix p.seat.seen q.seat.seen → Goes p.view q.view → IsOnAgain p.view q.view → q.view.live ≡ true → q.fate ≡ Running
    → Told p.view.terms p.seat.seen q.seat.seen out out' → Recovers old q before out'
Recovers-again old p q first fault before out out' was is seat seen goes again live running told = record {
  seat = IsSameSeat-then old p q was.seat seat;
  seen = IsPrefix-then old.seat.seen p.seat.seen q.seat.seen was.seen seen;
  keeps = KeepsTerms-then old.view p.view q.view was.keeps (KeepsTerms-goes p.view q.view goes);
  fate = subst (λ (f : Fate). HasFate true f q.seat q.view) (sym running) live;
  failed = λ ended. absurd (ended running);
  got = λ k stands. absurd (Contains-none q.view.got k again.got stands);
  again = λ _. (again.got, omega (arith, again.restarts, was.restarts));
  told = λ _.
      told_trans old.view.terms old.seat.seen p.seat.seen q.seat.seen before out out' (was.told (not_memory fault is))
      (subst (λ t. Told t p.seat.seen q.seat.seen out out') was.keeps.terms told);
}

-- of what was done after the first fault
pub IsTried-again : (old p q : PlayerView) (first fault : ActorFault) (before out : List ℕ) → IsRecovering old p first fault before out → may_restart fault p.view.supply.off ≡ true
    → IsOnAgain p.view q.view → IsTried first old q
IsTried-again old p q first fault before out was may again = record {
  on = λ no. absurd (cc (no, may_first old p first fault was.tried may));
  off = λ _. inl (omega (arith, was.restarts, again.restarts));
}

pub journal_again : (old p : PlayerView) (first fault : ActorFault) (before out : List ℕ) → IsRecovering old p first fault before out → fault ≡ faults.Journal → first ≡ faults.Journal
journal_again old p first fault before out was is = journal_first first fault was.journal is

pub not_running_after : (fault : ActorFault) → fate_of fault ≡ Running → ⊥
not_running_after faults.Journal is = cc (is)
not_running_after faults.Full is = cc (is)
not_running_after faults.Memory is = cc (is)

-- what a call that was refused made, and then the restarts
told_by_both : (old p new : PlayerView) (fault : ActorFault) (before out after : List ℕ) → Goes old.view p.view
    → ((fault ≡ faults.Memory → ⊥) → Told old.view.terms old.seat.seen p.seat.seen before out) → Recovers p new out after
    → (new.fate ≡ Running → fault ≡ faults.Journal) → new.fate ≡ Running → Told old.view.terms old.seat.seen new.seat.seen before after
told_by_both old p new fault before out after goes told recovers journal running =
    told_trans old.view.terms old.seat.seen p.seat.seen new.seat.seen before out after (told (not_memory fault (journal running)))
    (subst (λ t. Told t p.seat.seen new.seat.seen out after) goes.terms (recovers.told running))

abbrev pub ended_with : PlayerView → ActorFault → PlayerView
ended_with p fault = record p { fate = fate_of fault }

-- it is not restarted, and ends
pub Recovers-ended : (old p : PlayerView) (first fault : ActorFault) (before out : List ℕ) → IsRecovering old p first fault before out → may_restart fault p.view.supply.off ≡ false
    → Recovers old (ended_with p fault) before out
Recovers-ended old p first fault before out was not = record {
  seat = record { config = was.seat.config; node = was.seat.node; actor = was.seat.actor };
  seen = was.seen;
  keeps = was.keeps;
  fate = HasFate-fault fault p not was.refused.cause;
  failed = λ _. was.refused.ended;
  got = was.got;
  again = λ running. absurd (not_running_after fault running);
  told = λ running. absurd (not_running_after fault running);
}

pub IsTried-ended : (old p : PlayerView) (first fault : ActorFault) (before out : List ℕ) → IsRecovering old p first fault before out → may_restart fault p.view.supply.off ≡ false
    → IsTried first old (ended_with p fault)
IsTried-ended old p first fault before out was not = by was.tried
  where
    by : WasTried old p first fault → IsTried first old (ended_with p fault)
    by (inl none) = record {
      on = λ _. ap (λ (f : ActorFault). ended_with p f) none.1 ∙ ap (λ (v : PlayerView). ended_with v first) none.0;
      off = λ may. absurd (cc (
        may,
        subst (λ (f : ActorFault). may_restart f old.view.supply.off ≡ false) none.1
            (subst (λ (v : PlayerView). may_restart fault v.view.supply.off ≡ false) none.0 not),
      ));
    }
    by (inr tried) = record {
      on = λ no. absurd (cc (no, tried.0));
      off = λ _. elim tried.1 [
        | inl more ↦ inl more
        | inr left ↦ inr (ap (λ (f : ActorFault). fate_of f) left.0, left.1)
      ];
    }

fate_memory : (fault : ActorFault) → fate_of fault ≡ Memory → fault ≡ faults.Journal → ⊥
fate_memory faults.Journal is journal = cc (is)
fate_memory faults.Full is journal = cc (journal)
fate_memory faults.Memory is journal = cc (journal)

wanted_by : (old p new : PlayerView) (fault : ActorFault) (may : Bool) → may_restart fault p.view.supply.off ≡ may → Goes old.view p.view
    → ((fault ≡ faults.Journal → ⊥) → p.view.faults ≡ old.view.faults) → IsTried fault p new → new.fate ≡ Memory → WantedMemory old.view new.view
wanted_by old p new fault true may goes unfailed tried memory = elim (tried.off may) [
  | inl more ↦ inr (inr (omega (arith, more, goes.restarts)))
  | inr left ↦ inr (inl left.1)
]
wanted_by old p new fault false may goes unfailed tried memory =
    let same = tried.on may in
    inl (ap (λ (q : PlayerView). q.view.faults) same ∙ unfailed (fate_memory fault (sym (ap (λ (q : PlayerView). q.fate) same) ∙ memory)))

-- an actor whose call failed, and that has then ended for want of memory
wanted_memory : (old p new : PlayerView) (fault : ActorFault) → Goes old.view p.view → ((fault ≡ faults.Journal → ⊥) → p.view.faults ≡ old.view.faults) → IsTried fault p new
    → new.fate ≡ Memory → WantedMemory old.view new.view
wanted_memory old p new fault goes = wanted_by old p new fault (may_restart fault p.view.supply.off) refl goes

not_both : (p : PlayerView) → p.fate ≡ Running → p.fate ≡ Memory → ⊥
not_both p running memory = cc (running, memory)

-- ---- starting

-- it was started
pub Starts-begun : (old new : PlayerView) (before after : List ℕ) → IsSameSeat old new → IsPrefix old.seat.seen new.seat.seen → Goes old.view new.view → new.view.live ≡ true
    → new.fate ≡ Running → new.view.got ≡ [] → Told old.view.terms old.seat.seen new.seat.seen before after → Starts old new before after
Starts-begun old new before after seat seen goes live running got told = record {
  seat = seat;
  seen = seen;
  keeps = KeepsTerms-goes old.view new.view goes;
  begun = goes.begun;
  fate = subst (λ (f : Fate). HasFate true f new.seat new.view) (sym running) live;
  failed = λ ended. absurd (ended running);
  memory = λ memory. absurd (not_both new running memory);
  none = λ k. Contains-none new.view.got k got;
  told = λ _. told;
}

-- its call was refused
pub Starts-recovers : (old p new : PlayerView) (fault : ActorFault) (before out after : List ℕ) → IsSameSeat old p → IsPrefix old.seat.seen p.seat.seen → Goes old.view p.view
    → p.view.got ≡ [] → ((fault ≡ faults.Memory → ⊥) → Told old.view.terms old.seat.seen p.seat.seen before out) → Recovers p new out after
    → (new.fate ≡ Running → fault ≡ faults.Journal) → ((fault ≡ faults.Journal → ⊥) → p.view.faults ≡ old.view.faults) → IsTried fault p new → Starts old new before after
Starts-recovers old p new fault before out after seat seen goes got told recovers journal unfailed tried = record {
  seat = IsSameSeat-then old p new seat recovers.seat;
  seen = IsPrefix-then old.seat.seen p.seat.seen new.seat.seen seen recovers.seen;
  keeps = KeepsTerms-then old.view p.view new.view (KeepsTerms-goes old.view p.view goes) recovers.keeps;
  begun = recovers.keeps.begun goes.begun;
  fate = recovers.fate;
  failed = recovers.failed;
  memory = wanted_memory old p new fault goes unfailed tried;
  none = λ k stands. Contains-none p.view.got k got (recovers.got k stands);
  told = λ running. told_by_both old p new fault before out after goes told recovers journal running;
}

-- ---- hearing

pub got_more : (old new : ActorView) (k : ℕ) → (new.got ≡ old.got) ⊎ (new.got ≡ old.got ++ k ∷ []) → (j : ℕ) → Contains new.got j → Contains old.got j ⊎ (j ≡ k)
got_more old new k (inl same) j stands = inl (subst (λ (got : List ℕ). Contains got j) same stands)
got_more old new k (inr more) j stands = elim (Contains-push_cases old.got k j (subst (λ (got : List ℕ). Contains got j) more stands)) [
  | inl had ↦ inl had
  | inr is ↦ inr (sym is)
]

-- it heard the post
pub Hears-step : (k : ℕ) (old new : PlayerView) (before after : List ℕ) → IsSameSeat old new → IsPrefix old.seat.seen new.seat.seen → Goes old.view new.view
    → new.view.live ≡ true → new.fate ≡ Running → new.view.got ≡ old.view.got ++ k ∷ [] → new.view.restarts ≡ old.view.restarts
    → Told old.view.terms old.seat.seen new.seat.seen before after → Hears k old new before after
Hears-step k old new before after seat seen goes live running got restarts told = record {
  seat = seat;
  seen = seen;
  keeps = KeepsTerms-goes old.view new.view goes;
  fate = subst (λ (f : Fate). HasFate true f new.seat new.view) (sym running) live;
  failed = λ ended. absurd (ended running);
  memory = λ memory. absurd (not_both new running memory);
  got = got_more old.view new.view k (inr got);
  received = λ _. inl (got, restarts);
  told = λ _. told;
}

-- its call was refused
pub Hears-recovers : (k : ℕ) (old p new : PlayerView) (fault : ActorFault) (before out after : List ℕ) → IsSameSeat old p → IsPrefix old.seat.seen p.seat.seen → Goes old.view p.view
    → (p.view.got ≡ old.view.got) ⊎ (p.view.got ≡ old.view.got ++ k ∷ []) → ((fault ≡ faults.Memory → ⊥) → Told old.view.terms old.seat.seen p.seat.seen before out)
    → Recovers p new out after → (new.fate ≡ Running → fault ≡ faults.Journal) → ((fault ≡ faults.Journal → ⊥) → p.view.faults ≡ old.view.faults) → IsTried fault p new
    → Hears k old new before after
Hears-recovers k old p new fault before out after seat seen goes kept told recovers journal unfailed tried = record {
  seat = IsSameSeat-then old p new seat recovers.seat;
  seen = IsPrefix-then old.seat.seen p.seat.seen new.seat.seen seen recovers.seen;
  keeps = KeepsTerms-then old.view p.view new.view (KeepsTerms-goes old.view p.view goes) recovers.keeps;
  fate = recovers.fate;
  failed = recovers.failed;
  memory = wanted_memory old p new fault goes unfailed tried;
  got = λ j stands. got_more old.view p.view k kept j (recovers.got j stands);
  received = λ running. inr ((recovers.again running).0, omega (arith, (recovers.again running).1, goes.restarts));
  told = λ running. told_by_both old p new fault before out after goes told recovers journal running;
}

-- ---- looks in a row

pub IsShown-refl : (p : PlayerView) → IsShown p p
IsShown-refl p = record { seat = IsSameSeat-refl p; view = refl; others = told_refl p.view.terms p.seat.seen [] }

pub IsShown-then : (p q r : PlayerView) → IsShown p q → IsShown q r → IsShown p r
IsShown-then p q r one two = record {
  seat = IsSameSeat-then p q r one.seat two.seat;
  view = two.view ∙ one.view;
  others = told_trans p.view.terms p.seat.seen q.seat.seen r.seat.seen [] [] []
      one.others (subst (λ (v : ActorView). Told v.terms q.seat.seen r.seat.seen [] []) one.view two.others);
}

-- what was shown begins with what was seen before
pub shown_longer : (p q : PlayerView) → IsShown p q → IsPrefix p.seat.seen q.seat.seen
shown_longer p q shown = record { rest = shown.others.added; is = shown.others.grown }

-- what an actor tells of its seat it tells of it after a look
pub IsItsSeat-shown : (p q : PlayerView) → IsShown p q → IsItsSeat p → IsItsSeat q
IsItsSeat-shown p q shown is = (
  shown.seat.config ∙ is.0 ∙ ap (λ (v : ActorView). v.terms.config) (sym shown.view),
  shown.seat.node ∙ is.1 ∙ ap (λ (v : ActorView). v.terms.node) (sym shown.view),
  shown.seat.actor ∙ is.2 ∙ ap (λ (v : ActorView). v.terms.actor) (sym shown.view),
)

-- calls by the same seat
pub moved_by : {B : Type 0} (moved : ℕ → ℕ → B → B → Type 0) (a b : B) (p q : PlayerView) → IsSameSeat p q → moved q.seat.node q.seat.actor a b → moved p.seat.node p.seat.actor a b
moved_by moved a b p q same went =
    subst (λ (x : ℕ). moved p.seat.node x a b) same.actor (subst (λ (i : ℕ). moved i q.seat.actor a b) same.node went)

-- the same book after more calls by the same seat
pub moved_on : {B : Type 0} (moved : ℕ → ℕ → B → B → Type 0) → ((i x : ℕ) (a b c : B) → moved i x a b → moved i x b c → moved i x a c) → (a b c : B) (p q : PlayerView)
    → IsSameSeat p q → moved p.seat.node p.seat.actor a b → moved q.seat.node q.seat.actor b c → moved p.seat.node p.seat.actor a c
moved_on moved goes_on a b c p q same one two =
    goes_on p.seat.node p.seat.actor a b c one (moved_by moved b c p q same two)

pub Explains-of : (fault : ActorFault) (p : PlayerView) → (fault ≡ faults.Full → length p.seat.seen ≡ most_posts) → (fault ≡ faults.Journal → IsNamed p.view.supply) → Explains fault p.seat p.view
Explains-of faults.Journal p full journal = journal refl
Explains-of faults.Full p full journal = full refl
Explains-of faults.Memory p full journal = tt

-- ---- what an answer says

pub below : (n k : ℕ) → (n ≤ k → ⊥) → k < n
below zero k none = absurd (none (omega arith))
below (suc n) zero none = omega arith
below (suc n) (suc k) none = omega (arith, below n k (λ le. none (omega (arith, le))))

pub OnErr-any : {T E : Type 0} (r : Result T E) (P : Type 0) → P → OnErr r P
OnErr-any (Ok x) P p = tt
OnErr-any (Err e) P p = p

pub ok_not_err : {T : Type 0} (x : T) (fault : ActorFault) → IsErrOf {T = T} {E = ActorFault} (Ok x) fault → ⊥
ok_not_err x fault is = cc (is)

abbrev fault_in : {T : Type 0} → Result T ActorFault → ActorFault
fault_in (Ok x) = faults.Memory
fault_in (Err fault) = fault

pub err_is : {T : Type 0} (fault other : ActorFault) → IsErrOf {T = T} {E = ActorFault} (Err fault) other → fault ≡ other
err_is {T} fault other is = ap (λ (r : Result T ActorFault). fault_in r) is

abbrev failed : (T : Type 0) → ActorFault → Result T ActorFault
failed T fault = Err fault

pub err_of : {T : Type 0} (fault other : ActorFault) → fault ≡ other → IsErrOf {T = T} {E = ActorFault} (Err fault) other
err_of {T} fault other is = ap (failed T) is
