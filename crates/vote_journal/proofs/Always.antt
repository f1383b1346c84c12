-- From an empty disk on, each image that the calls of a journal leave is sound.
use Rattle.std.proofs.Common.{◌≤◌, ◌+◌, length, inl, inr, ⊎_elim, ℕ, List, [], ◌∷◌, sym, ◌∙◌, subst, arith}
use Rattle.disk_model.specs.Image.{Image}
use Rattle.disk_model.specs.Disk.{LeavesOnly}
use Rattle.disk_model.specs.Supply.{Supply}
use Rattle.vote_journal.specs.Text.{IsSound, SaysOnly, SaysMaybe, text_of, live_entries}
use Rattle.vote_journal.specs.Runs.{LeftOrSays}
use Rattle.vote_journal.specs.Calls.{JournalCall, Recover, Append, Fold, SwitchOn, IsEmpty, ComesBack, Did, Lead}
use Rattle.vote_journal.proofs.Starts.{empty_sound}

-- the laws of a disk
module _ {D : Type 0} (seen : D → Image) (may_leave : D → Image → Type 0) (moment : D → ℕ) (left_since : D → ℕ → Image → Type 0)
    (faults : D → ℕ) (supply : D → Supply)
    (counts_now : (disk : D) (t : ℕ) (c : Image) → t ≤ moment disk → may_leave disk c → left_since disk t c)
    (only_now : (disk : D) (c : Image) → left_since disk (moment disk) c → may_leave disk c)
    (seen_may_stay : (disk : D) → may_leave disk (seen disk)) where
  -- what may be left now
  left_now : (first disk : D) (c : Image) → LeavesOnly moment left_since first disk IsSound → may_leave disk c → IsSound c
  left_now first disk c since left = since.each c (counts_now disk (moment first) c since.later left)

  -- one call more
  further : (first old new : D) (P : Image → Type 0) → LeavesOnly moment left_since first old IsSound → LeavesOnly moment left_since old new P
      → ((c : Image) → P c → IsSound c)
      → LeavesOnly moment left_since first new IsSound
  further first old new P x y p = record {
    later = omega (arith, x.later, y.later);
    each = λ c since. ⊎_elim (x.each c) (p c) (y.before (moment first) c x.later since);
    before = λ t c h since. ⊎_elim (λ past. x.before t c h past) (λ now. inr (p c now)) (y.before t c (omega (arith, h, x.later)) since);
  }

  -- the power comes back
  back : (old new : D) → ComesBack seen may_leave moment left_since old new → LeavesOnly moment left_since old new (may_leave old)
  back old new comes =
      let now : (c : Image) → may_leave new c → may_leave old c = λ c left. subst (may_leave old) (sym (comes.durable c left)) comes.image in
      record {
        later = comes.time.later;
        each = λ c since. ⊎_elim (only_now old c) (now c) (comes.time.nothing_else (moment old) c (omega arith) since);
        before = λ t c h since. ⊎_elim (λ past. inl past) (λ left. inr (now c left)) (comes.time.nothing_else t c h since);
      }

  one_more : (call : JournalCall) (first old new : D) → LeavesOnly moment left_since first old IsSound
      → Did seen may_leave moment left_since faults supply call old new → LeavesOnly moment left_since first new IsSound
  one_more Recover first old new since did =
      further first old new (LeftOrSays (may_leave old) (text_of (seen old)) (length (live_entries (seen old)))) since (did (left_now first old (seen old) since (seen_may_stay old))).moments
      (λ c may. ⊎_elim (λ left. left_now first old c since left) (λ (says : SaysOnly (text_of (seen old)) (length (live_entries (seen old))) c). says.sound) may)
  one_more (Append payload) first old new since did = further first old new (SaysMaybe (text_of (seen old)) payload (length (live_entries (seen old)) + 1)) since did.moments (λ c says. says.sound)
  one_more Fold first old new since did = further first old new (SaysOnly (text_of (seen old)) (length (live_entries (seen old)))) since did.moments (λ c says. says.sound)
  one_more SwitchOn first old new since did = further first old new (may_leave old) since (back old new did) (λ c left. left_now first old c since left)

  all_more : (steps : List (JournalCall × D)) (first old new : D) → LeavesOnly moment left_since first old IsSound
      → Lead seen may_leave moment left_since faults supply steps old new → LeavesOnly moment left_since first new IsSound
  all_more [] first old new since lead = subst (λ (disk : D). LeavesOnly moment left_since first disk IsSound) (sym lead) since
  all_more (step ∷ steps) first old new since lead = all_more steps first step.1 new (one_more step.0 first old step.1 since lead.0) lead.1

  at_first : (first : D) → IsEmpty seen may_leave first → LeavesOnly moment left_since first first IsSound
  at_first first is = record {
    later = omega arith;
    each = λ c since. empty_sound c (is.durable c (only_now first c since) ∙ is.nothing);
    before = λ t c h since. inl since;
  }

  pub always : (steps : List (JournalCall × D)) (first last : D) → IsEmpty seen may_leave first
      → Lead seen may_leave moment left_since faults supply steps first last → LeavesOnly moment left_since first last IsSound
  always steps first last is lead = all_more steps first first last (at_first first is) lead
