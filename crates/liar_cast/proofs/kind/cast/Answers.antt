use Rattle.std.proofs.Common.{◌≡◌, ◌∙◌, ℕ, zero, suc, List, ◌++◌, replicate, ap, sym, append_assoc, append-nil, add-one}
use Rattle.std.specs.List.{flat_map}
use Rattle.liar_cast.specs.Kinds.{names}
use Rattle.liar_cast.proofs.kind.cast.Goals as goal

-- once more, at the end
once_more : {X : Type 0} (times : ℕ) (each : List X) → flat_map (λ x. x) (replicate (suc times) each) ≡ flat_map (λ x. x) (replicate times each) ++ each
once_more zero each = simp append-nil
once_more (suc times) each = ap (λ xs. each ++ xs) (once_more times each) ∙ sym (append_assoc each _ each)

pub loop-time-preserved : goal.loop-time-preserved
loop-time-preserved c = rw add-one (c.in_ok-add_each.ensures ∙ ap (λ xs. xs ++ names) c.loop-time.invariant ∙ sym (once_more c.loop-time._time names))
