-- How what is said of a disk goes on from call to call.
use Rattle.std.proofs.Common.{◌≡◌, ◌≤◌, inl, inr, ⊎_elim, ℕ, true, false, refl, ◌∙◌, arith, sym, ap, subst, Result, Ok, Err, IfErr, IsErrAnd}
use Rattle.std.proofs.lemmas.Bool.{cases_Bool, both_ways}
use Rattle.disk_model.specs.Image.{Image}
use Rattle.disk_model.specs.Disk.{Elapses}
use Rattle.disk_model.specs.Supply.{Supply, Draws}
use Rattle.vote_journal.specs.declared.fault.JournalFault.{JournalFault}
use Rattle.vote_journal.specs.declared.fault.JournalFault.TheVariants.{Memory}
use Rattle.vote_journal.specs.Runs.{Runs, HasReason, IsUnfailed, IsStep}

-- a power that is as it was at the end was so between
as_between : (a b c : Supply) → Draws a b → Draws b c → c.off ≡ a.off → b.off ≡ a.off
as_between a b c x y same =
    ⊎_elim
    (λ (was : a.off ≡ true). x.stays_off was ∙ sym was)
    (λ (was : a.off ≡ false). ⊎_elim (λ (off : b.off ≡ true). absurd (both_ways c.off (same ∙ was) (y.stays_off off)))
    (λ (on : b.off ≡ false). on ∙ sym was) (cases_Bool b.off))
    (cases_Bool a.off)

pub draws_again : (a b c : Supply) → Draws a b → Draws b c → Draws a c
draws_again a b c x y = record {
  stays_off = λ off. y.stays_off (x.stays_off off);
  no_more = omega (arith, x.no_more, y.no_more);
  uses_up = λ on off. ⊎_elim (λ (was : b.off ≡ true). omega (arith, x.uses_up on was, y.no_more))
      (λ (was : b.off ≡ false). omega (arith, y.uses_up was off, x.no_more)) (cases_Bool b.off);
  kept = λ same. let between = as_between a b c x y same in y.kept (same ∙ sym between) ∙ x.kept between;
  planned = y.planned ∙ x.planned;
  calls = omega (arith, x.calls, y.calls);
}

pub draws_same : (a : Supply) → Draws a a
draws_same a = record {
  stays_off = λ h. h;
  no_more = omega arith;
  uses_up = λ on off. absurd (both_ways _ on off);
  kept = λ _. refl;
  planned = refl;
  calls = omega arith;
}

module _ {D : Type 0} {moment : D → ℕ} {left_since : D → ℕ → Image → Type 0} {faults : D → ℕ} {supply : D → Supply} where
  -- from a disk of which each image has P
  pub begun : {old new : D} {may_leave P : Image → Type 0} → ((c : Image) → left_since old (moment old) c → P c)
      → Elapses (moment old) (moment new) (left_since old) (left_since new) may_leave → ((c : Image) → may_leave c → P c)
      → faults old ≤ faults new → Draws (supply old) (supply new) → Runs moment left_since faults supply old new P
  begun {old} here time left f d = record {
    moments = record {
      later = time.later;
      each = λ c since. ⊎_elim (here c) (left c) (time.nothing_else (moment old) c (omega arith) since);
      before = λ t c h since. ⊎_elim (λ past. inl past) (λ now. inr (left c now)) (time.nothing_else t c h since);
    };
    faults_stay = f;
    draws = d;
  }

  -- one call more
  pub one_call : {old mid new : D} {may_leave P : Image → Type 0} → Runs moment left_since faults supply old mid P
      → Elapses (moment mid) (moment new) (left_since mid) (left_since new) may_leave → ((c : Image) → may_leave c → P c)
      → faults mid ≤ faults new → Draws (supply mid) (supply new) → Runs moment left_since faults supply old new P
  one_call {old} {mid} {new} runs time left f d = record {
    moments = record {
      later = omega (arith, runs.moments.later, time.later);
      each = λ c since. ⊎_elim (runs.moments.each c) (left c) (time.nothing_else (moment old) c runs.moments.later since);
      before = λ t c h since. ⊎_elim (λ past. runs.moments.before t c h past) (λ now. inr (left c now))
          (time.nothing_else t c (omega (arith, h, runs.moments.later)) since);
    };
    faults_stay = omega (arith, runs.faults_stay, f);
    draws = draws_again (supply old) (supply mid) (supply new) runs.draws d;
  }

  -- several calls more
  pub more_calls : {old mid new : D} {P Q R : Image → Type 0} → Runs moment left_since faults supply old mid P
      → Runs moment left_since faults supply mid new Q → ((c : Image) → P c → R c) → ((c : Image) → Q c → R c)
      → Runs moment left_since faults supply old new R
  more_calls {old} {mid} {new} x y p q = record {
    moments = record {
      later = omega (arith, x.moments.later, y.moments.later);
      each = λ c since. ⊎_elim (λ past. p c (x.moments.each c past)) (q c) (y.moments.before (moment old) c x.moments.later since);
      before = λ t c h since. ⊎_elim (λ past. ⊎_elim (λ was. inl was) (λ now. inr (p c now)) (x.moments.before t c h past))
          (λ now. inr (q c now)) (y.moments.before t c (omega (arith, h, x.moments.later)) since);
    };
    faults_stay = omega (arith, x.faults_stay, y.faults_stay);
    draws = draws_again (supply old) (supply mid) (supply new) x.draws y.draws;
  }

  -- the same calls, of which less is said
  pub weaker : {old new : D} {P Q : Image → Type 0} → Runs moment left_since faults supply old new P → ((c : Image) → P c → Q c)
      → Runs moment left_since faults supply old new Q
  weaker x p = record {
    moments = record {
      later = x.moments.later;
      each = λ c since. p c (x.moments.each c since);
      before = λ t c h since. ⊎_elim (λ past. inl past) (λ now. inr (p c now)) (x.moments.before t c h since);
    };
    faults_stay = x.faults_stay;
    draws = x.draws;
  }

-- no call at all, over a disk of which one image that has P may be left
pub stood : {D : Type 0} (moment : D → ℕ) (left_since : D → ℕ → Image → Type 0) (faults : D → ℕ) (supply : D → Supply)
    (disk : D) (P : Image → Type 0) → ((c : Image) → left_since disk (moment disk) c → P c)
    → Runs moment left_since faults supply disk disk P
stood moment left_since faults supply disk P here = record {
  moments = record { later = omega arith; each = here; before = λ t c h since. inl since };
  faults_stay = omega arith;
  draws = draws_same (supply disk);
}

pub unfailed_same : {D : Type 0} (faults : D → ℕ) (supply : D → Supply) (disk : D) → IsUnfailed faults supply disk disk
unfailed_same faults supply disk = record { no_fault = refl; power = refl }

pub unfailed_again : {D : Type 0} (faults : D → ℕ) (supply : D → Supply) (a b c : D) → IsUnfailed faults supply a b → IsUnfailed faults supply b c
    → IsUnfailed faults supply a c
unfailed_again faults supply a b c x y = record { no_fault = y.no_fault ∙ x.no_fault; power = y.power ∙ x.power }

failed_later : {T D : Type 0} (faults : D → ℕ) (explains : D → Type 0) (old mid new : D) (result : Result T JournalFault) → faults old ≤ faults mid
    → IfErr result (HasReason faults explains mid new) → IfErr result (HasReason faults explains old new)
failed_later faults explains old mid new (Ok value) stays reason = tt
failed_later faults explains old mid new (Err fault) stays reason =
    record { rose = λ is. omega (arith, stays, reason.rose is); explained = reason.explained }

pub same_fault : {T : Type 0} {a b : JournalFault} → ◌≡◌ {A = Result T JournalFault} (Err a) (Err b) → a ≡ b
same_fault h = cc (h)

module _ {D : Type 0} {seen : D → Image} {may_leave : D → Image → Type 0} {moment : D → ℕ} {left_since : D → ℕ → Image → Type 0}
    {faults : D → ℕ} {supply : D → Supply} {explains : D → Type 0} where
  -- a step that is refused for want of memory
  pub unfed : {T : Type 0} {old new : D} {P : Image → Type 0} (result : Result T JournalFault) → IsErrAnd result (λ fault. fault ≡ Memory)
      → Runs moment left_since faults supply old new P → IsUnfailed faults supply old new
      → IsStep seen may_leave moment left_since faults supply explains old new P result
  unfed (Ok value) is runs unfailed = absurd is
  unfed (Err fault) is runs unfailed = record {
    durable = tt;
    runs = runs;
    failed = record { rose = λ failed. absurd (cc (is, failed)); explained = λ failed. absurd (cc (is, failed)) };
    no_other = λ foreign. cc (is, foreign);
    unfailed = λ well. unfailed;
  }

  -- a step that is refused as its first part was
  pub refused : {T U : Type 0} {old new : D} {P Q : Image → Type 0} {fault : JournalFault} (result : Result U JournalFault)
      → IsErrAnd result (λ given. given ≡ fault)
      → IsStep {T = T} seen may_leave moment left_since faults supply explains old new P (Err fault) → ((c : Image) → P c → Q c)
      → IsStep seen may_leave moment left_since faults supply explains old new Q result
  refused (Ok value) is step p = absurd is
  refused {old = old} {new = new} (Err given) is step p = record {
    durable = tt;
    runs = weaker step.runs p;
    failed = subst (HasReason faults explains old new) (sym is) step.failed;
    no_other = λ foreign. step.no_other (sym is ∙ foreign);
    unfailed = λ well. step.unfailed (λ failed. well (ap (λ (f : JournalFault). Err f) (is ∙ same_fault failed)));
  }

  -- a step that is done as its first part was
  pub weaker_step : {T U : Type 0} {old new : D} {P Q : Image → Type 0} {value : T} {value' : U}
      → IsStep seen may_leave moment left_since faults supply explains old new P (Ok value) → ((c : Image) → P c → Q c)
      → IsStep seen may_leave moment left_since faults supply explains old new Q (Ok value')
  weaker_step step p = record { durable = step.durable; runs = weaker step.runs p; failed = tt; no_other = tt; unfailed = λ well. step.unfailed (λ failed. absurd (cc (failed))) }

  -- a step after calls that went well
  pub and_then : {T : Type 0} {old mid new : D} {P Q R : Image → Type 0} {result : Result T JournalFault}
      → Runs moment left_since faults supply old mid P → IsUnfailed faults supply old mid
      → IsStep seen may_leave moment left_since faults supply explains mid new Q result
      → ((c : Image) → P c → R c) → ((c : Image) → Q c → R c)
      → IsStep seen may_leave moment left_since faults supply explains old new R result
  and_then {old = old} {mid = mid} {new = new} {result = result} runs unfailed step p q = record {
    durable = step.durable;
    runs = more_calls runs step.runs p q;
    failed = failed_later faults explains old mid new result runs.faults_stay step.failed;
    no_other = step.no_other;
    unfailed = λ well. unfailed_again faults supply old mid new unfailed (step.unfailed well);
  }

  -- a step that went well
  pub done_unfailed : {T : Type 0} {old new : D} {P : Image → Type 0} {value : T}
      → IsStep seen may_leave moment left_since faults supply explains old new P (Ok value) → IsUnfailed faults supply old new
  done_unfailed step = step.unfailed (λ failed. absurd (cc (failed)))
