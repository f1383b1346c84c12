use Rattle.std.proofs.Common.{◌∙◌, ap}
use Rattle.disk_model.specs.Halves.{restored}
use Rattle.disk_model.specs.Memory.{MemoryState}
use Rattle.disk_model.proofs.Images.{restored_image, restored_only}
use Rattle.disk_model.proofs.memory.MemoryDiskPower.switch_on.Goals as goal

pub returns-clause-image : goal.returns-clause-image
returns-clause-image c =
    restored_image c.in-Some.leave c.args.self.now.halves c.in_ok-self-inside.field-0 c.kept.ensures.a c.kept.ensures.b
    (c.in_ok-self-inside.ensures.ok ∙ ap (λ (d : MemoryState). restored c.in-Some.leave d.halves) c.self.view_is)

pub returns-clause-durable : goal.returns-clause-durable
returns-clause-durable c = restored_only c.in-Some.leave c.self.inside.halves c.in_ok-self-inside.field-0 c.in_ok-self-inside.ensures.ok
