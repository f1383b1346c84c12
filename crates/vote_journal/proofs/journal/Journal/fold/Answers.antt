use Rattle.std.proofs.Common.{◌∙◌, ◌∷◌, [], ap, length, arith, List, ℕ}
use Rattle.std.specs.List.{concat}
use Rattle.std.proofs.lemmas.List.{length-append}
use Rattle.vote_journal.specs.Text.{blocks}
use Rattle.vote_journal.proofs.Moments.{stood, unfed, unfailed_same}
use Rattle.vote_journal.proofs.Folds.{folds_here, fold_opens}
use Rattle.vote_journal.proofs.journal.Journal.fold.Goals as goal

pub returns-in_err-half-clause-step : goal.returns-in_err-half-clause-step
returns-in_err-half-clause-step g c =
    let j = c.args.self.now in
    let u = c.requires.usable in
    unfed c.from_residual.result c.from_residual.ensures.1 (stood g.D.Disk.moment g.D.Disk.left_since g.D.Disk.faults g.D.Disk.supply j.disk _
    (λ image since. folds_here j.live (g.D.Disk.seen j.disk) image _ u.live u.spare (u.durable image (g.met.D.Disk.only_now j.disk image since))))
    (unfailed_same g.D.Disk.faults g.D.Disk.supply j.disk)

pub returns-in_err-text-clause-step : goal.returns-in_err-text-clause-step
returns-in_err-text-clause-step g c =
    let j = c.args.self.now in
    let u = c.requires.usable in
    unfed c.from_residual-in_err-text.result c.from_residual-in_err-text.ensures.1
    (stood g.D.Disk.moment g.D.Disk.left_since g.D.Disk.faults g.D.Disk.supply j.disk _
    (λ image since. folds_here j.live (g.D.Disk.seen j.disk) image _ u.live u.spare (u.durable image (g.met.D.Disk.only_now j.disk image since))))
    (unfailed_same g.D.Disk.faults g.D.Disk.supply j.disk)

pub returns-in_err-framed-clause-step : goal.returns-in_err-framed-clause-step
returns-in_err-framed-clause-step g c =
    let j = c.args.self.now in
    let u = c.requires.usable in
    unfed c.from_residual-in_err-framed.result c.from_residual-in_err-framed.ensures.1
    (stood g.D.Disk.moment g.D.Disk.left_since g.D.Disk.faults g.D.Disk.supply j.disk _
    (λ image since. folds_here j.live (g.D.Disk.seen j.disk) image _ u.live u.spare (u.durable image (g.met.D.Disk.only_now j.disk image since))))
    (unfailed_same g.D.Disk.faults g.D.Disk.supply j.disk)

pub returns-clause-one : goal.returns-clause-one
returns-clause-one g c =
    let o = fold_opens c.args.self.now.live c.other-spare.result (g.D.Disk.seen c.fold_disk.new.disk) c.fold_disk.new.text.items
    c.other-spare.ensures c.in_ok-fold_disk.ensures.folded in
    o.same ∙ ap (λ (text : List ℕ). text ∷ []) c.in_ok-fold_disk.ensures.text

pub returns-clause-usable : goal.returns-clause-usable
returns-clause-usable g c =
    let o = fold_opens c.args.self.now.live c.other-spare.result (g.D.Disk.seen c.fold_disk.new.disk) c.fold_disk.new.text.items
    c.other-spare.ensures c.in_ok-fold_disk.ensures.folded in
    let e = c.in_ok-fold_disk.ensures in
    let text = c.fold_disk.new.text.items in
    let few = c.requires.usable.bytes in
    record {
      live = o.live;
      spare = o.spare_none;
      durable = c.in_ok-fold_disk.ensures.step.durable;
      gate = omega (arith, c.len.ensures, e.framed, ap (λ (es : List (List ℕ)). length (blocks es)) o.same, length-append text []);
      small = omega (arith, c.len.ensures, e.framed, ap length e.text, c.requires.small, few);
      count = omega (arith, ap length o.same);
      bytes = omega (
        arith,
        c.len-2.ensures,
        ap (λ (es : List (List ℕ)). length (concat es)) o.same,
        length-append text [],
        ap length e.text,
        c.requires.small,
        few,
      );
    }

pub returns-clause-cut : goal.returns-clause-cut
returns-clause-cut g c =
    (fold_opens c.args.self.now.live c.other-spare.result (g.D.Disk.seen c.fold_disk.new.disk) c.fold_disk.new.text.items
    c.other-spare.ensures c.in_ok-fold_disk.ensures.folded).cut
