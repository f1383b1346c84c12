use Rattle.std.proofs.Common.{◌∙◌, ap, length, arith}
use Rattle.disk_model.specs.declared.disk.Half.TheVariants.{A, B}
use Rattle.disk_model.specs.Image.{half_of}
use Rattle.vote_journal.proofs.Says.{found_in}
use Rattle.vote_journal.proofs.recover.survey.Goals as goal

pub returns-clause-a : goal.returns-clause-a
returns-clause-a g c =
    let e = c.in_ok-entries_of_half.ensures in
    let bytes = c.in_ok-a.ensures.bytes ∙ ap (half_of A) c.sync.ensures.seen in
    found_in c.deref-2.result.now (g.D.Disk.seen c.args.disk.now).a _ _ _ _
    (c.deref-2.ensures.value ∙ bytes) e.are_bytes e.entries e.gate e.bytes e.small (omega (arith, c.len.ensures, ap length bytes))

pub returns-clause-b : goal.returns-clause-b
returns-clause-b g c =
    let e = c.in_ok-entries_of_half-2.ensures in
    let bytes = c.in_ok-b.ensures.bytes ∙ ap (half_of B) (c.read_half.ensures.seen ∙ c.sync.ensures.seen) in
    found_in c.deref-3.result.now (g.D.Disk.seen c.args.disk.now).b _ _ _ _
    (c.deref-3.ensures.value ∙ bytes) e.are_bytes e.entries e.gate e.bytes e.small (omega (arith, c.len-2.ensures, ap length bytes))
