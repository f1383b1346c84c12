use Rattle.std.proofs.Common.{ℕ, length, ap, arith}
use Rattle.std.proofs.lemmas.List.{length-take}
use Rattle.disk_model.specs.Undo.{UndoState}
use Rattle.disk_model.proofs.Lists.{on_err}
use Rattle.disk_model.proofs.PutBack.{length-settled}
use Rattle.disk_model.proofs.undo.UndoBytes.settled.Goals as goal

pub returns-in_err-bytes-clause-wanting : goal.returns-in_err-bytes-clause-wanting
returns-in_err-bytes-clause-wanting c =
    on_err c.from_residual.result _
    (omega (
      arith,
      length-take {A = ℕ},
      c.in_err-bytes.ensures.wanting,
      ap (λ (s : UndoState). length s.settled) c.self.view_is,
      length-settled c.self.inside.settled_len c.self.inside.saved.items c.self.inside.bytes.items c.self.invariant.0 c.self.invariant.1,
    ))
