use Rattle.std.proofs.Common.{◌∙◌, ◌∷◌, [], ◌++◌, ap, sym, subst, length, arith, List, ℕ}
use Rattle.std.proofs.lemmas.Result.{IfOk-weaker}
use Rattle.disk_model.specs.declared.disk.Half.{Half}
use Rattle.disk_model.specs.Image.{Image, half_of, other}
use Rattle.vote_journal.specs.Text.{half_entries, HoldsEntries}
use Rattle.vote_journal.specs.Steps.{MayGain, Folded}
use Rattle.vote_journal.proofs.Moments.{done_unfailed, unfailed_again, unfed, weaker, refused, more_calls, and_then}
use Rattle.vote_journal.proofs.Folds.{none_held, none_gate, folds_here, fold_gain, fold_lose, folded}
use Rattle.vote_journal.proofs.fold.fold_disk.Goals as goal

pub returns-in_err-read_text-clause-step : goal.returns-in_err-read_text-clause-step
returns-in_err-read_text-clause-step g c =
    let old = g.D.Disk.seen c.args.disk.now in
    let entries : List (List ℕ) = half_entries (half_of c.args.live old) in
    let none : HoldsEntries (half_of (other c.args.live) old) [] = subst (λ (h : Half). HoldsEntries (half_of h old) []) c.requires.spare c.requires.none in
    refused c.from_residual.result c.from_residual.ensures.1 c.in_err-read_text.ensures.step
    (λ image is. folds_here c.args.live old image entries c.requires.live none is)

pub returns-in_err-frame_into-clause-step : goal.returns-in_err-frame_into-clause-step
returns-in_err-frame_into-clause-step g c =
    let old = g.D.Disk.seen c.args.disk.now in
    let entries : List (List ℕ) = half_entries (half_of c.args.live old) in
    let none : HoldsEntries (half_of (other c.args.live) old) [] = subst (λ (h : Half). HoldsEntries (half_of h old) []) c.requires.spare c.requires.none in
    unfed c.from_residual-in_err-frame_into.result c.from_residual-in_err-frame_into.ensures.1
    (weaker c.read_text.ensures.step.runs (λ image is. folds_here c.args.live old image entries c.requires.live none is))
    (done_unfailed c.in_ok-read_text.ensures.step)

pub frame_into-requires-clause-short : goal.frame_into-requires-clause-short
frame_into-requires-clause-short g c =
    let t = c.in_ok-read_text.ensures.text in
    let d = c.deref.ensures.value in
    omega (arith, c.requires.small, ap length t, ap length d)

pub add_entry-requires-clause-holds : goal.add_entry-requires-clause-holds
add_entry-requires-clause-holds g c =
    none_held _ (subst (λ (i : Image). HoldsEntries (half_of c.args.spare i) []) (sym c.read_text.ensures.seen) c.requires.none)

pub add_entry-requires-clause-gate : goal.add_entry-requires-clause-gate
add_entry-requires-clause-gate g c =
    none_gate _ (subst (λ (i : Image). HoldsEntries (half_of c.args.spare i) []) (sym c.read_text.ensures.seen) c.requires.none)

pub add_entry-requires-clause-short : goal.add_entry-requires-clause-short
add_entry-requires-clause-short g c =
    let t = c.in_ok-read_text.ensures.text in
    let d = c.deref-2.ensures.value in
    omega (arith, c.requires.small, ap length t, ap length d)

pub returns-in_err-add_entry-clause-step : goal.returns-in_err-add_entry-clause-step
returns-in_err-add_entry-clause-step g c =
    let old = g.D.Disk.seen c.args.disk.now in
    let entries : List (List ℕ) = half_entries (half_of c.args.live old) in
    let none : HoldsEntries (half_of (other c.args.live) old) [] = subst (λ (h : Half). HoldsEntries (half_of h old) []) c.requires.spare c.requires.none in
    let text = c.deref-2.ensures.value ∙ c.in_ok-read_text.ensures.text in
    and_then c.read_text.ensures.step.runs (done_unfailed c.in_ok-read_text.ensures.step)
    (refused c.from_residual-in_err-add_entry.result c.from_residual-in_err-add_entry.ensures.1 c.in_err-add_entry.ensures.step (λ image may. may))
    (λ image is. folds_here c.args.live old image entries c.requires.live none is)
    (λ image may. fold_gain c.args.live c.args.spare old image entries c.deref-2.result.now c.requires.spare c.requires.live c.requires.none text
    c.requires.some
    (subst (λ (i : Image). MayGain c.args.spare (half_entries (half_of c.args.spare i)) c.deref-2.result.now (half_of (other c.args.spare) i) image)
    c.read_text.ensures.seen may))

pub returns-clause-step : goal.returns-clause-step
returns-clause-step g c =
    let old = g.D.Disk.seen c.args.disk.now in
    let entries : List (List ℕ) = half_entries (half_of c.args.live old) in
    let none : HoldsEntries (half_of (other c.args.live) old) [] = subst (λ (h : Half). HoldsEntries (half_of h old) []) c.requires.spare c.requires.none in
    let text = c.deref-2.ensures.value ∙ c.in_ok-read_text.ensures.text in
    let mid = g.D.Disk.seen c.add_entry.new.disk in
    let added = subst (λ (i : Image). HoldsEntries (half_of c.args.spare mid) (half_entries (half_of c.args.spare i) ++ c.deref-2.result.now ∷ []))
    c.read_text.ensures.seen c.in_ok-add_entry.ensures.added in
    let kept = c.in_ok-add_entry.ensures.there ∙ ap (half_of (other c.args.spare)) c.read_text.ensures.seen in
    and_then
    (more_calls c.read_text.ensures.step.runs c.add_entry.ensures.step.runs
    (λ image is. folds_here c.args.live old image entries c.requires.live none is)
    (λ image may. fold_gain c.args.live c.args.spare old image entries c.deref-2.result.now c.requires.spare c.requires.live c.requires.none text
    c.requires.some
    (subst (λ (i : Image). MayGain c.args.spare (half_entries (half_of c.args.spare i)) c.deref-2.result.now (half_of (other c.args.spare) i) image)
    c.read_text.ensures.seen may)))
    (unfailed_again g.D.Disk.faults g.D.Disk.supply c.args.disk.now c.read_text.new.disk c.add_entry.new.disk (done_unfailed c.in_ok-read_text.ensures.step)
    (done_unfailed c.in_ok-add_entry.ensures.step))
    c.retire.ensures.step (λ image says. says)
    (fold_lose c.args.live c.args.spare old mid entries c.deref-2.result.now c.requires.spare c.requires.live c.requires.none text c.requires.some added kept)

pub returns-clause-folded : goal.returns-clause-folded
returns-clause-folded g c =
    let old = g.D.Disk.seen c.args.disk.now in
    let entries : List (List ℕ) = half_entries (half_of c.args.live old) in
    let text = c.deref-2.ensures.value ∙ c.in_ok-read_text.ensures.text in
    let mid = g.D.Disk.seen c.add_entry.new.disk in
    let new = g.D.Disk.seen c.retire.new.disk in
    let added = subst (λ (i : Image). HoldsEntries (half_of c.args.spare mid) (half_entries (half_of c.args.spare i) ++ c.deref-2.result.now ∷ []))
    c.read_text.ensures.seen c.in_ok-add_entry.ensures.added in
    let kept = c.in_ok-add_entry.ensures.there ∙ ap (half_of (other c.args.spare)) c.read_text.ensures.seen in
    IfOk-weaker c.retire.result _ _
    (λ _ shut. subst (λ (xs : List ℕ). Folded c.args.live xs new) c.deref-2.ensures.value
    (folded c.args.live c.args.spare old mid entries c.deref-2.result.now c.requires.spare c.requires.live c.requires.none text c.requires.some added
    kept new shut))
    c.retire.ensures.shut
