use Rattle.std.proofs.Common.{◌≡◌, ◌∙◌, inl, inr, ℕ, Bool, ◌&&◌, List, length, ap, sym, subst, Result, Ok, Err, IfErr, IsErrAnd}
use Rattle.disk_model.specs.declared.disk.Half.{Half}
use Rattle.disk_model.specs.Image.{Image, other}
use Rattle.vote_journal.specs.declared.fault.JournalFault.{JournalFault}
use Rattle.vote_journal.specs.Text.{text_of, half_entries, live_half, live_entries, is_some_entry, IsSound, SaysOnly}
use Rattle.vote_journal.specs.Steps.{IsFoundIn, MayArrange, arranged}
use Rattle.vote_journal.proofs.Moments.{weaker, more_calls}
use Rattle.vote_journal.proofs.Arranges.{arrange_says, arranged_holds, live_found, both_found, sound_says}
use Rattle.vote_journal.proofs.recover.open.Goals as goal

-- what holds of the fault that came up holds of the one that is told
on_err : {T : Type 0} (P : JournalFault → Type 0) {fault : JournalFault} (result : Result T JournalFault) → IsErrAnd result (λ given. given ≡ fault)
    → P fault → IfErr result P
on_err P (Ok value) is holds = absurd is
on_err P (Err given) is holds = subst P (sym is) holds

-- where this was found in the halves, and lent
module _ (old : Image) {es fs xs ys : List (List ℕ)} {gate bytes gate' bytes' : ℕ} {short short' both : Bool} (a : IsFoundIn old.a es gate bytes short)
    (b : IsFoundIn old.b fs gate' bytes' short') (lent_a : xs ≡ es) (lent_b : ys ≡ fs) (is : both ≡ (is_some_entry xs && is_some_entry ys)) where
  found_both : both ≡ (is_some_entry (half_entries old.a) && is_some_entry (half_entries old.b))
  found_both = is ∙ both_found old xs ys (lent_a ∙ a.is) (lent_b ∙ b.is)

  -- what arranging the halves of a sound disk may leave says its text
  says_text : {spare : Half} {now : Image} → spare ≡ other (live_half old) → now ≡ old → IsSound old → (c : Image) → MayArrange both spare now c
      → SaysOnly (text_of old) (length (live_entries old)) c
  says_text {spare} beside same sound c may =
      arrange_says both spare old c beside a.are_bytes b.are_bytes sound found_both (subst (λ (i : Image). MayArrange both spare i c) same may)

pub returns-clause-image : goal.returns-clause-image
returns-clause-image g c =
    let old = g.D.Disk.seen c.args.disk.now in
    let found = c.in_ok-found.ensures in
    let live = c.live_of-live.ensures
    ∙ live_found old c.deref.result.now c.deref-2.result.now (c.deref.ensures.value ∙ found.a.is) (c.deref-2.ensures.value ∙ found.b.is) in
    c.in_ok-arrange.ensures.made ∙ ap (arranged c.have_both-both.result c.other.result) c.survey.ensures.seen
    ∙ ap (λ (h : Half). arranged c.have_both-both.result h old) (c.other.ensures ∙ ap other live)
    ∙ ap (λ (both : Bool). arranged both (other (live_half old)) old)
    (found_both old found.a found.b c.deref-3.ensures.value c.deref-4.ensures.value c.have_both-both.ensures)

pub returns-clause-arranged : goal.returns-clause-arranged
returns-clause-arranged g c = λ sound.
    let old = g.D.Disk.seen c.args.disk.now in
    let found = c.in_ok-found.ensures in
    let live = c.live_of-live.ensures
    ∙ live_found old c.deref.result.now c.deref-2.result.now (c.deref.ensures.value ∙ found.a.is) (c.deref-2.ensures.value ∙ found.b.is) in
    arranged_holds c.have_both-both.result old (g.D.Disk.seen c.arrange.new.disk) found.a.are_bytes found.b.are_bytes sound
    (found_both old found.a found.b c.deref-3.ensures.value c.deref-4.ensures.value c.have_both-both.ensures)
    (c.in_ok-arrange.ensures.made ∙ ap (arranged c.have_both-both.result c.other.result) c.survey.ensures.seen
    ∙ ap (λ (h : Half). arranged c.have_both-both.result h old) (c.other.ensures ∙ ap other live))

pub returns-in_err-arrange-clause-runs : goal.returns-in_err-arrange-clause-runs
returns-in_err-arrange-clause-runs g c = λ only sound.
    let old = g.D.Disk.seen c.args.disk.now in
    let found = c.in_ok-found.ensures in
    let beside = c.other.ensures ∙ ap other (c.live_of-live.ensures
    ∙ live_found old c.deref.result.now c.deref-2.result.now (c.deref.ensures.value ∙ found.a.is) (c.deref-2.ensures.value ∙ found.b.is)) in
    more_calls c.survey.ensures.runs c.arrange.ensures.step.runs (λ image left. sound_says old image sound (only image left))
    (says_text old found.a found.b c.deref-3.ensures.value c.deref-4.ensures.value c.have_both-both.ensures beside c.survey.ensures.seen sound)

pub returns-clause-runs : goal.returns-clause-runs
returns-clause-runs g c = λ only sound.
    let old = g.D.Disk.seen c.args.disk.now in
    let found = c.in_ok-found.ensures in
    let beside = c.other.ensures ∙ ap other (c.live_of-live.ensures
    ∙ live_found old c.deref.result.now c.deref-2.result.now (c.deref.ensures.value ∙ found.a.is) (c.deref-2.ensures.value ∙ found.b.is)) in
    more_calls c.survey.ensures.runs c.arrange.ensures.step.runs (λ image left. sound_says old image sound (only image left))
    (says_text old found.a found.b c.deref-3.ensures.value c.deref-4.ensures.value c.have_both-both.ensures beside c.survey.ensures.seen sound)

pub returns-in_err-found-clause-pending : goal.returns-in_err-found-clause-pending
returns-in_err-found-clause-pending g c = λ sound. weaker c.survey.ensures.runs (λ image left. inl left)

pub returns-in_err-arrange-clause-pending : goal.returns-in_err-arrange-clause-pending
returns-in_err-arrange-clause-pending g c = λ sound.
    let old = g.D.Disk.seen c.args.disk.now in
    let found = c.in_ok-found.ensures in
    let beside = c.other.ensures ∙ ap other (c.live_of-live.ensures
    ∙ live_found old c.deref.result.now c.deref-2.result.now (c.deref.ensures.value ∙ found.a.is) (c.deref-2.ensures.value ∙ found.b.is)) in
    let says = says_text old found.a found.b c.deref-3.ensures.value c.deref-4.ensures.value c.have_both-both.ensures beside c.survey.ensures.seen sound in
    more_calls c.survey.ensures.runs c.arrange.ensures.step.runs (λ image left. inl left) (λ image may. inr (says image may))

pub returns-clause-pending : goal.returns-clause-pending
returns-clause-pending g c = λ sound.
    let old = g.D.Disk.seen c.args.disk.now in
    let found = c.in_ok-found.ensures in
    let beside = c.other.ensures ∙ ap other (c.live_of-live.ensures
    ∙ live_found old c.deref.result.now c.deref-2.result.now (c.deref.ensures.value ∙ found.a.is) (c.deref-2.ensures.value ∙ found.b.is)) in
    let says = says_text old found.a found.b c.deref-3.ensures.value c.deref-4.ensures.value c.have_both-both.ensures beside c.survey.ensures.seen sound in
    more_calls c.survey.ensures.runs c.arrange.ensures.step.runs (λ image left. inl left) (λ image may. inr (says image may))

pub returns-in_err-found-clause-untouched : goal.returns-in_err-found-clause-untouched
returns-in_err-found-clause-untouched g c =
    on_err _ c.from_residual.result c.from_residual.ensures.1 (λ foreign. record {
      same = c.survey.ensures.seen;
      durable = c.in_err-found.ensures.foreign_durable foreign;
      moments = c.survey.ensures.runs.moments;
    })

pub returns-in_err-arrange-clause-untouched : goal.returns-in_err-arrange-clause-untouched
returns-in_err-arrange-clause-untouched g c =
    on_err _ c.from_residual-in_err-arrange.result c.from_residual-in_err-arrange.ensures.1 (λ foreign. absurd (c.in_err-arrange.ensures.step.no_other foreign))

pub returns-in_err-found-clause-foreign_stays : goal.returns-in_err-found-clause-foreign_stays
returns-in_err-found-clause-foreign_stays g c = λ foreign. (c.survey.ensures.seen, c.survey.ensures.runs.moments)

pub returns-in_err-arrange-clause-foreign_stays : goal.returns-in_err-arrange-clause-foreign_stays
returns-in_err-arrange-clause-foreign_stays g c = λ foreign. absurd (cc (foreign, c.in_ok-found.ensures.ours))

pub returns-clause-foreign_stays : goal.returns-clause-foreign_stays
returns-clause-foreign_stays g c = λ foreign. absurd (cc (foreign, c.in_ok-found.ensures.ours))
