use Rattle.std.proofs.Common.{arith, ◌≡◌, ◌∙◌, List, ℕ, length, take, drop, ap, sym}
use Rattle.hb_base.specs.Memory.{Tape}
use Rattle.hb_base.proofs.Taking.{left-taken, nothing-left}
use Rattle.hb_base.proofs.memory.MemorySourceSource.take.Goals as goal

pub returns-clause-bytes : goal.returns-clause-bytes
returns-clause-bytes c =
    let at = c.self.inside.at in
    let bytes = c.self.inside.bytes in
    let count = c.min-count.result in
    let given : c.split_at.result.1.now ≡ drop at bytes = c.split_at.ensures.back ∙ ap (λ (bs : List ℕ). drop at bs) c.as_slice.ensures in
    let copied : c.copy_from_slice.new.self ≡ take count (drop at bytes) =
    c.copy_from_slice.ensures.after ∙ ap (λ (bs : List ℕ). take count bs) given in
    let size : length c.split_at.result.1.now ≡ length (drop at bytes) = ap (λ (bs : List ℕ). length bs) given in (
      sym (ap (λ (t : Tape). t.left) c.self.view_is)
          ∙ left-taken bytes c.copy_from_slice.new.self _ at count copied (omega (arith, size)),
      λ none some. nothing-left bytes at count (omega (arith, size, none, c.self.invariant.1, c.requires)) none,
    )
