-- What a call by the plan leaves, by what it meets.
use Rattle.std.proofs.Common.{◌≡◌, ◌≤◌, ◌<◌, ◌+◌, ◌-◌, ◌^◌, ◌==◌, ◌&&◌, ◌⊎◌, inl, inr, ⊎_elim, cond, length, suc, ℕ, List, [], ◌∷◌, Bool, true, false}
use Rattle.std.proofs.Common.{nat_lt, Option, Some, None, Result, Ok, Err, IsErrOf, OnOk, is_some, if◌then◌else◌, refl, sym, ◌∙◌, ap, subst}
use Rattle.std.proofs.Common.{arith}
use Rattle.std.specs.List.{list_any, Contains}
use Rattle.std.proofs.lemmas.List.Sums.{sum_by-cons}
use Rattle.std.proofs.lemmas.Bool.{cases_lt, cases_Bool, cond-true, cond-false, lt-ltb, le-ltb, ltb-true, eqb-true, or_cases, both_ways, and_from, and_left, and_parts, eq-eqb}
use Rattle.disk_model.specs.declared.disk.DiskFault.{DiskFault}
use Rattle.disk_model.specs.declared.disk.DiskFault.TheVariants.{Failed, Memory}
use Rattle.hb_base.specs.Outside.{HasCauseOf}
use Rattle.disk_model.specs.declared.halves.Halves.{Halves}
use Rattle.disk_model.specs.declared.plan.Leave.{Leave}
use Rattle.disk_model.specs.declared.plan.Stop.{Stop}
use Rattle.disk_model.specs.declared.met.Met.{Met}
use Rattle.disk_model.specs.declared.met.Met.TheVariants.{Nothing, Fault, Stops, Off}
use Rattle.disk_model.specs.declared.disk.Half.{Half}
use Rattle.disk_model.specs.Image.{half_of}
use Rattle.disk_model.specs.Disk.{Only, Follows, Keeps, OnHalf, TornWrite, Cut}
use Rattle.disk_model.specs.Area.{after_write, after_cut}
use Rattle.disk_model.specs.Faults.{is_failed}
use Rattle.disk_model.specs.Supply.{Draws, IsNamed}
use Rattle.disk_model.specs.Halves.{HalvesMayLeave, content_of, on_half, settled}
use Rattle.disk_model.specs.Memory.{MemoryState, one_more, stop_at, met_at, met_by, met_of, IsDisk, AnswersAs, AnswersOrMemory, is_done, stops_after, supply_of}
use Rattle.disk_model.proofs.Images.{only_settled, half_write_follows, half_write_grows, half_write_same, half_cut_follows, half_cut_grows, half_cut_same}

-- whether a stop is at a call after this one
abbrev is_ahead : ℕ → Stop → Bool
is_ahead n stop = nat_lt n stop.call && nat_lt stop.call (2 ^ 32)

ahead : (n : ℕ) (stop : Stop) → n < stop.call → stop.call < 2 ^ 32 → is_ahead n stop ≡ true
ahead n stop later small = and_from _ _ (lt-ltb n stop.call later) (lt-ltb stop.call (2 ^ 32) small)

not_ahead : (n : ℕ) (stop : Stop) → stop.call ≤ n → is_ahead n stop ≡ false
not_ahead n stop past = and_left _ _ (le-ltb n stop.call past)

ahead_later : (n : ℕ) (stop : Stop) → is_ahead n stop ≡ true → (n < stop.call) × (stop.call < 2 ^ 32)
ahead_later n stop is = let parts = and_parts _ _ is in (ltb-true n stop.call parts.0, ltb-true stop.call (2 ^ 32) parts.1)

-- one stop more, first
stops_after_step : (n : ℕ) (stop : Stop) (stops : List Stop) → stops_after n (stop ∷ stops) ≡ cond (is_ahead n stop) 1 0 + stops_after n stops
stops_after_step n stop stops = sum_by-cons (λ (s : Stop). cond (is_ahead n s) 1 0) stop stops

one_later : (m n : ℕ) (stop : Stop) → m ≤ n → cond (is_ahead n stop) 1 0 ≤ cond (is_ahead m stop) 1 0
one_later m n stop h =
    ⊎_elim
    (λ later. let is = ahead_later n stop later in
    omega (
      arith,
      cond-true {A = ℕ} (is_ahead n stop) 1 0 later,
      cond-true {A = ℕ} (is_ahead m stop) 1 0 (ahead m stop (omega (arith, h, is.0)) is.1),
    ))
    (λ past. omega (arith, cond-false {A = ℕ} (is_ahead n stop) 1 0 past))
    (cases_Bool (is_ahead n stop))

-- fewer stops are behind a later call
pub stops_after_later : (m n : ℕ) (stops : List Stop) → m ≤ n → stops_after n stops ≤ stops_after m stops
stops_after_later m n [] h = omega arith
stops_after_later m n (stop ∷ stops) h =
    omega (arith, stops_after_later m n stops h, one_later m n stop h, stops_after_step n stop stops, stops_after_step m stop stops)

-- and one fewer where there is a stop at it
pub stops_after_met : (m call : ℕ) (stops : List Stop) (leave : Leave) → stop_at call stops ≡ Some leave → call < 2 ^ 32 → m < call
    → stops_after call stops < stops_after m stops
stops_after_met m call [] leave met small h = absurd (cc)
stops_after_met m call (stop ∷ stops) leave met small h =
    ⊎_elim
    (λ here. let at : stop.call ≡ call = eqb-true stop.call call here in
    omega (
      arith,
      stops_after_step call stop stops,
      stops_after_step m stop stops,
      stops_after_later m call stops (omega (arith, h)),
      cond-false {A = ℕ} (is_ahead call stop) 1 0 (not_ahead call stop (omega (arith, at))),
      cond-true {A = ℕ} (is_ahead m stop) 1 0 (ahead m stop (omega (arith, at, h)) (omega (arith, at, small))),
    ))
    (λ elsewhere.
    let rest = stops_after_met m call stops leave (sym (cond-false (stop.call == call) (Some stop.leave) (stop_at call stops) elsewhere) ∙ met) small h in
    omega (arith, rest, one_later m call stop (omega (arith, h)), stops_after_step call stop stops, stops_after_step m stop stops))
    (cases_Bool (stop.call == call))

-- no stop is at this call, so none is at a call of the others
none_after : (call : ℕ) (stop : Stop) (stops : List Stop) → stop_at call (stop ∷ stops) ≡ None → ((stop.call == call) ≡ false) × (stop_at call stops ≡ None)
none_after call stop stops none =
    ⊎_elim
    (λ here. absurd (some_not_none (sym (cond-true (stop.call == call) (Some stop.leave) (stop_at call stops) here) ∙ none)))
    (λ elsewhere. (elsewhere, sym (cond-false (stop.call == call) (Some stop.leave) (stop_at call stops) elsewhere) ∙ none))
    (cases_Bool (stop.call == call))
  where
    some_not_none : {A : Type 0} {x : A} → Some x ≡ None → ⊥
    some_not_none h = cc (h)

one_passed : (m n : ℕ) (stop : Stop) → n ≡ m + 1 → (n < 2 ^ 32 → (stop.call == n) ≡ false) → ◌≡◌ {A = ℕ} (cond (is_ahead n stop) 1 0) (cond (is_ahead m stop) 1 0)
one_passed m n stop next none =
    ⊎_elim
    (λ later. let is = ahead_later m stop later in
    ⊎_elim
    (λ (beyond : n < stop.call).
    cond-true {A = ℕ} (is_ahead n stop) 1 0 (ahead n stop beyond is.1) ∙ sym (cond-true {A = ℕ} (is_ahead m stop) 1 0 later))
    (λ (past : stop.call ≤ n).
    let at : stop.call ≡ n = omega (arith, past, next, is.0) in
    absurd (both_ways (stop.call == n) (none (omega (arith, at, is.1))) (eq-eqb stop.call n at)))
    (cases_lt n stop.call))
    (λ past. omega (arith, one_later m n stop (omega (arith, next)), cond-false {A = ℕ} (is_ahead m stop) 1 0 past))
    (cases_Bool (is_ahead m stop))

-- and as many where there is none
pub stops_after_passed : (m n : ℕ) (stops : List Stop) → n ≡ m + 1 → (n < 2 ^ 32 → stop_at n stops ≡ None) → stops_after n stops ≡ stops_after m stops
stops_after_passed m n [] next none = refl
stops_after_passed m n (stop ∷ stops) next none =
    omega (
      arith,
      stops_after_passed m n stops next (λ small. (none_after n stop stops (none small)).1),
      one_passed m n stop next (λ small. (none_after n stop stops (none small)).0),
      stops_after_step n stop stops,
      stops_after_step m stop stops,
    )

-- a fault that is met is named, and its number fits a u32
fault_is : (small : Bool) (stop : Option Leave) (fails : Bool) → (if small then met_at stop fails else Nothing) ≡ Fault → (small ≡ true) × (fails ≡ true)
fault_is true None true met = (refl, refl)
fault_is true None false met = absurd (cc)
fault_is true (Some leave) fails met = absurd (cc)
fault_is false stop fails met = absurd (cc)

-- so is a stop
stop_is : (small : Bool) (stop : Option Leave) (fails : Bool) (leave : Leave) → (if small then met_at stop fails else Nothing) ≡ Stops leave
    → (small ≡ true) × (stop ≡ Some leave)
stop_is true None true leave met = absurd (cc)
stop_is true None false leave met = absurd (cc)
stop_is true (Some first) fails leave met = (refl, cc)
stop_is false stop fails leave met = absurd (cc)

fault_met : (off : Option Leave) (call : ℕ) (stops : List Stop) (planned : List ℕ) → met_by off call stops planned ≡ Fault
    → (call < 2 ^ 32) × (list_any (λ fault. fault == call) planned ≡ true)
fault_met (Some leave) call stops planned met = absurd (cc)
fault_met None call stops planned met = let is = fault_is _ _ _ met in (ltb-true _ _ is.0, is.1)

stop_met : (off : Option Leave) (call : ℕ) (stops : List Stop) (planned : List ℕ) (leave : Leave) → met_by off call stops planned ≡ Stops leave
    → (call < 2 ^ 32) × (stop_at call stops ≡ Some leave)
stop_met (Some left) call stops planned leave met = absurd (cc)
stop_met None call stops planned leave met = let is = stop_is _ _ _ _ met in (ltb-true _ _ is.0, is.1)

-- a call that is stopped finds the disk on
stop_on : (off : Option Leave) (call : ℕ) (stops : List Stop) (planned : List ℕ) (leave : Leave) → met_by off call stops planned ≡ Stops leave
    → is_some off ≡ false
stop_on (Some left) call stops planned leave met = absurd (cc)
stop_on None call stops planned leave met = refl

-- there is no stop at a call that meets none
no_stop_is : (small : Bool) (stop : Option Leave) (fails : Bool) → small ≡ true
    → ((leave : Leave) → (if small then met_at stop fails else Nothing) ≡ Stops leave → ⊥) → stop ≡ None
no_stop_is true None fails is never = refl
no_stop_is true (Some leave) fails is never = absurd (never leave refl)
no_stop_is false stop fails is never = absurd (cc (is))

no_stop : (off : Option Leave) (call : ℕ) (stops : List Stop) (planned : List ℕ) (met : Met) → met_by off call stops planned ≡ met
    → (met ≡ Off → ⊥) → ((leave : Leave) → met ≡ Stops leave → ⊥) → call < 2 ^ 32 → stop_at call stops ≡ None
no_stop (Some left) call stops planned met is on never small = absurd (on (sym is))
no_stop None call stops planned met is on never small =
    no_stop_is (nat_lt call (2 ^ 32)) (stop_at call stops) (list_any (λ fault. fault == call) planned) (lt-ltb call (2 ^ 32) small)
    (λ leave stopped. never leave (sym is ∙ stopped))

stops_kept : (old : MemoryState) (met : Met) → met_of old ≡ met → (met ≡ Off → ⊥) → ((leave : Leave) → met ≡ Stops leave → ⊥) → old.calls < 2 ^ 64
    → stops_after (one_more old.calls) old.stops ≡ stops_after old.calls old.stops
stops_kept old met is on never small =
    ⊎_elim
    (λ (last : 2 ^ 64 - 1 ≤ old.calls). ap (λ (n : ℕ). stops_after n old.stops) (omega (arith, last, small)))
    (λ (more : old.calls < 2 ^ 64 - 1). stops_after_passed old.calls (one_more old.calls) old.stops (omega (arith, more))
    (no_stop old.off (one_more old.calls) old.stops old.planned met is on never))
    (by (cases_lt old.calls (2 ^ 64 - 1)))
  where
    by : (old.calls < 2 ^ 64 - 1) ⊎ (2 ^ 64 - 1 ≤ old.calls) → (2 ^ 64 - 1 ≤ old.calls) ⊎ (old.calls < 2 ^ 64 - 1)
    by (inl h) = inr h
    by (inr h) = inl h

not_off : (small : Bool) (stop : Option Leave) (fails : Bool) → (if small then met_at stop fails else Nothing) ≡ Off → ⊥
not_off true None true met = cc
not_off true None false met = cc
not_off true (Some leave) fails met = cc
not_off false stop fails met = cc

off_met : (off : Option Leave) (call : ℕ) (stops : List Stop) (planned : List ℕ) → met_by off call stops planned ≡ Off → is_some off ≡ true
off_met (Some leave) call stops planned met = refl
off_met None call stops planned met = absurd (not_off _ _ _ met)

-- a disk that is off meets just that
on_met : (off : Option Leave) (call : ℕ) (stops : List Stop) (planned : List ℕ) → is_some off ≡ true → met_by off call stops planned ≡ Off
on_met (Some leave) call stops planned is = refl
on_met None call stops planned is = absurd (cc (is))

-- a fault that the test finds is among them
named_among : (planned : List ℕ) (call : ℕ) → list_any (λ fault. fault == call) planned ≡ true → Contains planned call
named_among [] call found = absurd (cc)
named_among (fault ∷ planned) call found =
    ⊎_elim
    (λ here. (0, omega arith, eqb-true fault call here))
    (λ later. let rest = named_among planned call later in (suc rest.0, omega (arith, rest.1), rest.2))
    (or_cases (fault == call) (list_any (λ x. x == call) planned) found)

pub explained_by : {T : Type 0} (met : Met) (done cut_off : Halves) (old new : MemoryState) (result : Result T DiskFault) → met_of old ≡ met
    → AnswersAs met done cut_off old new result
    → IsErrOf result Failed → IsNamed (supply_of new)
explained_by Nothing done cut_off old new (Ok x) is answers failed = absurd (cc)
explained_by Nothing done cut_off old new (Err e) is answers failed = absurd (cc (answers.0))
explained_by Fault done cut_off old new result is answers failed =
    let met = fault_met old.off (one_more old.calls) old.stops old.planned is in
    subst (λ (d : MemoryState). IsNamed (supply_of d)) (sym answers.1)
    (inr (subst (λ (call : ℕ). Contains old.planned call) (omega (arith, met.0)) (named_among old.planned (one_more old.calls) met.1)))
explained_by (Stops leave) done cut_off old new result is answers failed = subst (λ (d : MemoryState). IsNamed (supply_of d)) (sym answers.1) (inl refl)
explained_by Off done cut_off old new result is answers failed =
    subst (λ (d : MemoryState). IsNamed (supply_of d)) (sym answers.1) (inl (off_met old.off (one_more old.calls) old.stops old.planned is))

-- while the power is off every call fails
pub fails_by : {T : Type 0} (met : Met) (done cut_off : Halves) (old new : MemoryState) (result : Result T DiskFault) → met_of old ≡ met
    → AnswersAs met done cut_off old new result → (supply_of old).off ≡ true → IsErrOf result Failed
fails_by Nothing done cut_off old new result is answers off = absurd (cc (is, on_met old.off (one_more old.calls) old.stops old.planned off))
fails_by Fault done cut_off old new result is answers off = answers.0
fails_by (Stops leave) done cut_off old new result is answers off = answers.0
fails_by Off done cut_off old new result is answers off = answers.0

pub draws_by : {T : Type 0} (met : Met) (done cut_off : Halves) (old new : MemoryState) (result : Result T DiskFault) → met_of old ≡ met → old.calls < 2 ^ 64
    → AnswersAs met done cut_off old new result → Draws (supply_of old) (supply_of new)
draws_by Nothing done cut_off old new result is small answers = subst (λ (d : MemoryState). Draws (supply_of old) (supply_of d)) (sym answers.1) (record {
  stays_off = λ h. h;
  no_more = stops_after_later old.calls (one_more old.calls) old.stops (omega (arith, small));
  uses_up = λ on off. absurd (both_ways _ on off);
  kept = λ _. stops_kept old Nothing is (λ h. cc (h)) (λ leave h. cc (h)) small;
  planned = refl;
  calls = omega (arith, small);
})
draws_by Fault done cut_off old new result is small answers = subst (λ (d : MemoryState). Draws (supply_of old) (supply_of d)) (sym answers.1) (record {
  stays_off = λ h. h;
  no_more = stops_after_later old.calls (one_more old.calls) old.stops (omega (arith, small));
  uses_up = λ on off. absurd (both_ways _ on off);
  kept = λ _. stops_kept old Fault is (λ h. cc (h)) (λ leave h. cc (h)) small;
  planned = refl;
  calls = omega (arith, small);
})
draws_by (Stops leave) done cut_off old new result is small answers =
    let met = stop_met old.off (one_more old.calls) old.stops old.planned leave is in
    subst (λ (d : MemoryState). Draws (supply_of old) (supply_of d)) (sym answers.1) (record {
      stays_off = λ h. refl;
      no_more = stops_after_later old.calls (one_more old.calls) old.stops (omega (arith, small));
      uses_up = λ on off. stops_after_met old.calls (one_more old.calls) old.stops leave met.1 met.0 (omega (arith, met.0));
      kept = λ same. absurd (both_ways (is_some old.off) (stop_on old.off (one_more old.calls) old.stops old.planned leave is) (sym same));
      planned = refl;
      calls = omega (arith, small);
    })
draws_by Off done cut_off old new result is small answers = subst (λ (d : MemoryState). Draws (supply_of old) (supply_of d)) (sym answers.1) (record {
  stays_off = λ h. h;
  no_more = omega arith;
  uses_up = λ on off. absurd (both_ways _ on off);
  kept = λ _. refl;
  planned = refl;
  calls = omega arith;
})

-- a failure is counted once, and nothing else is
abbrev IsCounted : {T : Type 0} → MemoryState → MemoryState → Result T DiskFault → Type 0
IsCounted old new result = HasCauseOf is_failed old.faults new.faults result

counted : {T : Type 0} (old new : MemoryState) (result : Result T DiskFault) → IsErrOf result Failed → new.faults ≡ one_more old.faults
    → old.faults < 2 ^ 64 → IsCounted old new result
counted old new (Ok x) failed more small = absurd (cc failed)
counted old new (Err Failed) failed more small = record { later = omega (arith, more, small); failed = omega (arith, more); quiet = tt }
counted old new (Err Memory) failed more small = absurd (cc failed)

pub cause_by : {T : Type 0} (met : Met) (done cut_off : Halves) (old new : MemoryState) (result : Result T DiskFault) → old.faults < 2 ^ 64
    → AnswersAs met done cut_off old new result → IsCounted old new result
cause_by Nothing done cut_off old new (Ok x) small answers =
    let same : new.faults ≡ old.faults = ap (λ (d : MemoryState). d.faults) answers.1 in
    record { later = omega (arith, same); failed = tt; quiet = same }
cause_by Nothing done cut_off old new (Err e) small answers = absurd (cc (answers.0))
cause_by Fault done cut_off old new result small answers = counted old new result answers.0 (ap (λ (d : MemoryState). d.faults) answers.1) small
cause_by (Stops leave) done cut_off old new result small answers = counted old new result answers.0 (ap (λ (d : MemoryState). d.faults) answers.1) small
cause_by Off done cut_off old new result small answers = counted old new result answers.0 (ap (λ (d : MemoryState). d.faults) answers.1) small

-- the halves are those of the call once it is done, or as before
pub halves_by : {T : Type 0} (met : Met) (done : Halves) (old new : MemoryState) (result : Result T DiskFault)
    → AnswersAs met done done old new result → (new.halves ≡ done) ⊎ (new.halves ≡ old.halves)
halves_by Nothing done old new result answers = inl (ap (λ (d : MemoryState). d.halves) answers.1)
halves_by Fault done old new result answers = inr (ap (λ (d : MemoryState). d.halves) answers.1)
halves_by (Stops leave) done old new result answers = inl (ap (λ (d : MemoryState). d.halves) answers.1)
halves_by Off done old new result answers = inr (ap (λ (d : MemoryState). d.halves) answers.1)

-- after a sync that went well one image may be left
pub durable_by : {T : Type 0} (met : Met) (old new : MemoryState) (result : Result T DiskFault) → AnswersAs met (settled old.halves) old.halves old new result
    → OnOk result (Only (content_of old.halves) (HalvesMayLeave new.halves))
durable_by Nothing old new (Ok x) answers =
    subst (λ (d : MemoryState). Only (content_of old.halves) (HalvesMayLeave d.halves)) (sym answers.1) (only_settled old.halves.a.content old.halves.b.content)
durable_by Nothing old new (Err e) answers = tt
durable_by Fault old new (Ok x) answers = absurd (cc (answers.0))
durable_by Fault old new (Err e) answers = tt
durable_by (Stops leave) old new (Ok x) answers = absurd (cc (answers.0))
durable_by (Stops leave) old new (Err e) answers = tt
durable_by Off old new (Ok x) answers = absurd (cc (answers.0))
durable_by Off old new (Err e) answers = tt

-- what a cut may leave
pub cut_by : {T : Type 0} (met : Met) (half : Half) (len : ℕ) (old new : MemoryState) (result : Result T DiskFault)
    → len ≤ length (half_of half (content_of old.halves))
    → AnswersAs met (on_half half (after_cut len) old.halves) (on_half half (after_cut len) old.halves) old new result
    → Follows (OnHalf half (Cut len)) (HalvesMayLeave old.halves) (HalvesMayLeave new.halves)
cut_by met half len old new result fits answers = λ c left.
    ⊎_elim
    (λ done. half_cut_follows half len old.halves c fits (subst (λ (h : Halves). HalvesMayLeave h c) done left))
    (λ same. (c, subst (λ (h : Halves). HalvesMayLeave h c) same left, half_cut_same half len c))
    (halves_by met (on_half half (after_cut len) old.halves) old new result answers)

pub cut_kept_by : {T : Type 0} (met : Met) (half : Half) (len : ℕ) (old new : MemoryState) (result : Result T DiskFault) → IsDisk old
    → len ≤ length (half_of half (content_of old.halves))
    → AnswersAs met (on_half half (after_cut len) old.halves) (on_half half (after_cut len) old.halves) old new result
    → Keeps (HalvesMayLeave old.halves) (HalvesMayLeave new.halves)
cut_kept_by met half len old new result kept fits answers = λ c left.
    ⊎_elim
    (λ done. subst (λ (h : Halves). HalvesMayLeave h c) (sym done) (half_cut_grows half len old.halves c kept.a kept.b fits left))
    (λ same. subst (λ (h : Halves). HalvesMayLeave h c) (sym same) left)
    (halves_by met (on_half half (after_cut len) old.halves) old new result answers)

-- a write that may also find no memory
written_halves : {T : Type 0} (done : Halves) (old new : MemoryState) (result : Result T DiskFault) → AnswersOrMemory done done old new result
    → (new.halves ≡ done) ⊎ (new.halves ≡ old.halves)
written_halves done old new result (inl answers) = halves_by (met_of old) done old new result answers
written_halves done old new result (inr none) = inr (ap (λ (d : MemoryState). d.halves) none.2)

pub write_by : {T : Type 0} (half : Half) (at : ℕ) (bytes : List ℕ) (old new : MemoryState) (result : Result T DiskFault)
    → at ≤ length (half_of half (content_of old.halves))
    → AnswersOrMemory (on_half half (after_write at bytes) old.halves) (on_half half (after_write at bytes) old.halves) old new result
    → Follows (OnHalf half (TornWrite at (length bytes))) (HalvesMayLeave old.halves) (HalvesMayLeave new.halves)
write_by half at bytes old new result fits answers = λ c left.
    ⊎_elim
    (λ done. half_write_follows half at bytes old.halves c fits (subst (λ (h : Halves). HalvesMayLeave h c) done left))
    (λ same. (c, subst (λ (h : Halves). HalvesMayLeave h c) same left, half_write_same half at (length bytes) c))
    (written_halves (on_half half (after_write at bytes) old.halves) old new result answers)

pub write_kept_by : {T : Type 0} (half : Half) (at : ℕ) (bytes : List ℕ) (old new : MemoryState) (result : Result T DiskFault) → IsDisk old
    → at ≤ length (half_of half (content_of old.halves))
    → AnswersOrMemory (on_half half (after_write at bytes) old.halves) (on_half half (after_write at bytes) old.halves) old new result
    → Keeps (HalvesMayLeave old.halves) (HalvesMayLeave new.halves)
write_kept_by half at bytes old new result kept fits answers = λ c left.
    ⊎_elim
    (λ done. subst (λ (h : Halves). HalvesMayLeave h c) (sym done) (half_write_grows half at bytes old.halves c kept.a kept.b fits left))
    (λ same. subst (λ (h : Halves). HalvesMayLeave h c) (sym same) left)
    (written_halves (on_half half (after_write at bytes) old.halves) old new result answers)

pub write_explained : {T : Type 0} (done : Halves) (old new : MemoryState) (result : Result T DiskFault) → AnswersOrMemory done done old new result
    → IsErrOf result Failed → IsNamed (supply_of new)
write_explained done old new result (inl answers) failed = explained_by (met_of old) done done old new result refl answers failed
write_explained done old new result (inr none) failed = absurd (cc (none.1, failed))

pub write_fails : {T : Type 0} (done : Halves) (old new : MemoryState) (result : Result T DiskFault) → AnswersOrMemory done done old new result
    → (supply_of old).off ≡ true → IsErrOf result Failed
write_fails done old new result (inl answers) off = fails_by (met_of old) done done old new result refl answers off
write_fails done old new result (inr none) off =
    absurd (cc (none.0, ap is_done (on_met old.off (one_more old.calls) old.stops old.planned off)))

pub write_cause : {T : Type 0} (done : Halves) (old new : MemoryState) (result : Result T DiskFault) → old.faults < 2 ^ 64
    → AnswersOrMemory done done old new result → IsCounted old new result
write_cause done old new result small (inl answers) = cause_by (met_of old) done done old new result small answers
write_cause done old new (Ok x) small (inr none) = absurd (cc (none.1))
write_cause done old new (Err Failed) small (inr none) = absurd (cc (none.1))
write_cause done old new (Err Memory) small (inr none) =
    let same : new.faults ≡ old.faults = ap (λ (d : MemoryState). d.faults) none.2 in
    record { later = omega (arith, same); failed = same; quiet = tt }

pub write_draws : {T : Type 0} (done : Halves) (old new : MemoryState) (result : Result T DiskFault) → old.calls < 2 ^ 64
    → AnswersOrMemory done done old new result → Draws (supply_of old) (supply_of new)
write_draws done old new result small (inl answers) = draws_by (met_of old) done done old new result refl small answers
write_draws done old new result small (inr none) = subst (λ (d : MemoryState). Draws (supply_of old) (supply_of d)) (sym none.2) (record {
  stays_off = λ h. h;
  no_more = omega arith;
  uses_up = λ on off. absurd (both_ways _ on off);
  kept = λ _. refl;
  planned = refl;
  calls = omega arith;
})

-- what a call meets while the disk is on, where its number fits a u32
pub met_by_small : (off : Option Leave) (number call : ℕ) (stops stops' : List Stop) (planned planned' : List ℕ) (stop : Option Leave)
    (fails : Bool) (met : Met) → off ≡ None → number < 2 ^ 32 → call ≡ number
    → stops' ≡ stops → planned' ≡ planned → stop ≡ stop_at call stops' → fails ≡ list_any (λ fault. fault == call) planned'
    → met ≡ met_at stop fails → met ≡ met_by off number stops planned
met_by_small off number call stops stops' planned planned' stop fails met none small e1 e2 e3 s f m =
    m
    ∙ ap (λ (x : Option Leave). met_at x fails) (s ∙ ap (λ (xs : List Stop). stop_at call xs) e2 ∙ ap (λ (n : ℕ). stop_at n stops) e1)
    ∙ ap (λ (b : Bool). met_at (stop_at number stops) b) (f ∙ ap (λ (xs : List ℕ). list_any (λ x. x == call) xs) e3
    ∙ ap (λ (n : ℕ). list_any (λ x. x == n) planned) e1)
    ∙ sym (cond-true (nat_lt number (2 ^ 32)) (met_at (stop_at number stops) (list_any (λ x. x == number) planned)) Nothing (lt-ltb number (2 ^ 32) small))
    ∙ ap (λ (o : Option Leave). met_by o number stops planned) (sym none)

-- the power goes off only where it fails
pub power_by : {T : Type 0} (met : Met) (done cut_off : Halves) (old new : MemoryState) (result : Result T DiskFault)
    → AnswersAs met done cut_off old new result → (IsErrOf result Failed → ⊥) → (supply_of new).off ≡ (supply_of old).off
power_by Nothing done cut_off old new result answers well = ap (λ (d : MemoryState). (supply_of d).off) answers.1
power_by Fault done cut_off old new result answers well = absurd (well answers.0)
power_by (Stops leave) done cut_off old new result answers well = absurd (well answers.0)
power_by Off done cut_off old new result answers well = absurd (well answers.0)

pub write_power : {T : Type 0} (done : Halves) (old new : MemoryState) (result : Result T DiskFault)
    → AnswersOrMemory done done old new result → (IsErrOf result Failed → ⊥) → (supply_of new).off ≡ (supply_of old).off
write_power done old new result (inl answers) well = power_by (met_of old) done done old new result answers well
write_power done old new result (inr none) well = ap (λ (d : MemoryState). (supply_of d).off) none.2
