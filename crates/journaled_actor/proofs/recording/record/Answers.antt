use Rattle.std.proofs.Common.{arith, length, sym, ◌+◌, ◌∷◌, ◌++◌, [], ℕ, List, ap, ◌∙◌, subst}
use Rattle.std.proofs.lemmas.Result.{on_ok_weaker}
use Rattle.vote_journal.specs.Text.{live_entries, SaysMaybe}
use Rattle.vote_journal.proofs.Moments.{refused, and_then, done_unfailed}
use Rattle.journaled_actor.proofs.Left.{says_maybe, maybe_most}
use Rattle.journaled_actor.proofs.Safe.{live_is}
use Rattle.journaled_actor.specs.Folding.{folded_if_full}
use Rattle.vote_journal.specs.Usable.{disk_of}
use Rattle.journaled_actor.proofs.recording.record.Goals as goal

pub returns-in_err-fold_if_full-clause-step : goal.returns-in_err-fold_if_full-clause-step
returns-in_err-fold_if_full-clause-step g c =
    refused c.from_residual.result c.from_residual.ensures.1 c.in_err-fold_if_full.ensures.step (λ image says. says_maybe _ c.args.entry.payload _ _ image (omega arith) says)

pub returns : goal.returns
returns g c =
    let folded = c.in_ok-fold_if_full.ensures in
    let did = c.append_entry.ensures in
    let mid = g.D.Disk.seen (disk_of c.fold_if_full.new.journal) in
    let many = ap length (live_is folded.usable ∙ folded.entries ∙ ap folded_if_full (sym (live_is c.requires.usable))) in
    record {
      usable = did.usable;
      entries = on_ok_weaker c.append_entry.result (λ added. added ∙ ap (λ (es : List (List ℕ)). es ++ c.args.entry.payload ∷ []) folded.entries) did.added;
      text = on_ok_weaker c.append_entry.result (λ text. text ∙ ap (λ (xs : List ℕ). xs ++ c.args.entry.payload) folded.text) did.text;
      step = and_then folded.step.runs (done_unfailed folded.step) did.step (λ image says. says_maybe _ c.args.entry.payload _ _ image (omega arith) says)
          (λ image says. maybe_most _ c.args.entry.payload _ _ image (omega (arith, many))
          (subst (λ (text : List ℕ). SaysMaybe text c.args.entry.payload (length (live_entries mid) + 1) image) folded.text says));
    }
