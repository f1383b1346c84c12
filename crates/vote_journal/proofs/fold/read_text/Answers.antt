use Rattle.std.proofs.Common.{◌∙◌, ap}
use Rattle.std.specs.List.{concat}
use Rattle.disk_model.specs.Image.{half_of}
use Rattle.vote_journal.specs.Text.{half_entries}
use Rattle.vote_journal.proofs.Folds.{read_entries}
use Rattle.vote_journal.proofs.fold.read_text.Goals as goal

pub returns-clause-text : goal.returns-clause-text
returns-clause-text g c =
    let bytes = half_of c.args.live (g.D.Disk.seen c.args.disk.now) in
    c.in_ok-gather.ensures
    ∙ ap concat (read_entries bytes c.args.half.now c.read.new.buf c.after_magic.result.now (half_entries bytes) c.in_ok-read.field-0 c.requires.live
    c.requires.room c.in_ok-read.ensures.bytes c.after_magic.ensures.rest)
