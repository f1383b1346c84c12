use Rattle.std.proofs.Common.{◌≡◌, None, Some, sym, ◌∙◌}
use Rattle.observer.proofs.Leading.{same_default}
use Rattle.observer.proofs.observer.bytes_at.Goals as goal

pub returns-in-Some : goal.returns-in-Some
returns-in-Some c = λ bytes at.
    let same : Some c.in-Some.bytes ≡ Some bytes =
    sym c.in-Some.is ∙ c.index-lists-place.is ∙ same_default c.args.lists.now c.args.place c.index-lists-place.result None c.requires ∙ at in
    let is : c.in-Some.bytes ≡ bytes = cc (same) in
    c.as_slice.ensures ∙ is

pub returns-in-None : goal.returns-in-None
returns-in-None c = λ bytes at.
    let same : None ≡ Some bytes =
    sym c.in-None.is ∙ c.index-lists-place.is ∙ same_default c.args.lists.now c.args.place c.index-lists-place.result None c.requires ∙ at in
    absurd (cc (same))
