use Rattle.std.proofs.Common.{List, ◌++◌, ◌∷◌, [], None, Option, ℕ, ap, ◌∙◌}
use Rattle.observer.proofs.Tabled.{replicate_more}
use Rattle.observer.proofs.observer.no_lists.Goals as goal

pub loop-preserved : goal.loop-preserved
loop-preserved c =
    c.in_ok-push.ensures.items ∙ ap (λ (xs : List (Option (List ℕ))). xs ++ None ∷ []) c.loop.invariant ∙ replicate_more c.loop.counter None
