use Rattle.std.proofs.Common.{◌≡◌, ◌∷◌, ◌++◌, [], ◌∙◌, ap, refl, sym, subst, List, ℕ, arith}
use Rattle.disk_model.specs.Image.{half_of, other}
use Rattle.vote_journal.specs.Text.{half_entries, HoldsEntries}
use Rattle.vote_journal.proofs.Moments.{refused, weaker_step}
use Rattle.vote_journal.proofs.Blocks.{holds_has}
use Rattle.vote_journal.proofs.Says.{gain_says, text_is, concat_more, gate_more, count_more, bytes_more}
use Rattle.vote_journal.proofs.journal.Journal.add.Goals as goal

pub returns-in_err-add_entry-clause-step : goal.returns-in_err-add_entry-clause-step
returns-in_err-add_entry-clause-step g c =
    let j = c.args.self.now in
    let u = c.requires.usable in
    refused c.from_residual.result c.from_residual.ensures.1 c.in_err-add_entry.ensures.step
    (λ image may. gain_says j.live (g.D.Disk.seen j.disk) image _ c.args.payload.now u.live u.spare may)

pub returns-clause-step : goal.returns-clause-step
returns-clause-step g c =
    let j = c.args.self.now in
    let u = c.requires.usable in
    weaker_step c.in_ok-add_entry.ensures.step (λ image may. gain_says j.live (g.D.Disk.seen j.disk) image _ c.args.payload.now u.live u.spare may)

pub returns-clause-added : goal.returns-clause-added
returns-clause-added g c = (holds_has _ _ c.in_ok-add_entry.ensures.added).has

pub returns-clause-text : goal.returns-clause-text
returns-clause-text g c =
    let j = c.args.self.now in
    let u = c.requires.usable in
    let old = g.D.Disk.seen j.disk in
    let new = g.D.Disk.seen c.add_entry.new.disk in
    let es : List (List ℕ) = half_entries (half_of j.live old) in
    let spare : HoldsEntries (half_of (other j.live) new) [] = subst (λ (bytes : List ℕ). HoldsEntries bytes [])
    (sym c.in_ok-add_entry.ensures.there) u.spare in
    text_is j.live new (es ++ c.args.payload.now ∷ []) c.in_ok-add_entry.ensures.added spare ∙ concat_more es c.args.payload.now
    ∙ ap (λ (xs : List ℕ). xs ++ c.args.payload.now) (sym (text_is j.live old es u.live u.spare))

pub returns-clause-usable : goal.returns-clause-usable
returns-clause-usable g c =
    let j = c.args.self.now in
    let u = c.requires.usable in
    let new = g.D.Disk.seen c.add_entry.new.disk in
    let es : List (List ℕ) = half_entries (half_of j.live (g.D.Disk.seen j.disk)) in
    let has : half_entries (half_of j.live new) ≡ es ++ c.args.payload.now ∷ [] = (holds_has _ _ c.in_ok-add_entry.ensures.added).has in
    record {
      live = subst (λ (xs : List (List ℕ)). HoldsEntries (half_of j.live new) xs) (sym has) c.in_ok-add_entry.ensures.added;
      spare = subst (λ (bytes : List ℕ). HoldsEntries bytes []) (sym c.in_ok-add_entry.ensures.there) u.spare;
      durable = c.in_ok-add_entry.ensures.step.durable;
      gate = gate_more es _ es c.args.payload.now c.args.framed.now has refl j.gate _ 0 u.gate c.requires.framed (omega arith);
      small = omega (arith, c.in_ok-add_entry.ensures.small);
      count = count_more es _ es c.args.payload.now c.args.framed.now has refl j.entries _ u.count c.saturating_add-self.ensures;
      bytes = bytes_more es _ es c.args.payload.now c.args.framed.now has refl j.bytes _ u.bytes c.bytes_with-self.ensures;
    }
