use Rattle.std.proofs.Common.{ℕ, [], ◌∷◌, ◌++◌, List, refl, sym, ap, ◌∙◌}
use Rattle.hb_wire.specs.declared.vote.Vote.{Vote}
use Rattle.post_judge.specs.Tables.{numbers_in, votes_in}
use Rattle.post_judge.proofs.Adding.{put_new}
use Rattle.post_judge.proofs.buckets.Buckets.add.Goals as goal

pub returns-in_ok-insert-in-None-clause-numbers : goal.returns-in_ok-insert-in-None-clause-numbers
returns-in_ok-insert-in-None-clause-numbers c =
    put_new numbers_in c.args.self.now.by_place _ c.insert.new.self c.args.place c.push-in-None.new.self (c.args.number ∷ []) refl
    c.get_mut.follows.holds-at-none (sym c.in-None.ensures.value)
    (c.in_ok-push-in-None.ensures.numbers ∙ ap (λ (ks : List ℕ). ks ++ c.args.number ∷ []) c.in_ok-bucket-in-None.ensures.numbers)
    c.in_ok-insert-in-None.ensures.updates.0

pub returns-in_ok-insert-in-None-clause-votes : goal.returns-in_ok-insert-in-None-clause-votes
returns-in_ok-insert-in-None-clause-votes c =
    put_new votes_in c.args.self.now.by_place _ c.insert.new.self c.args.place c.push-in-None.new.self (c.args.vote ∷ []) refl
    c.get_mut.follows.holds-at-none (sym c.in-None.ensures.value)
    (c.in_ok-push-in-None.ensures.votes ∙ ap (λ (vs : List Vote). vs ++ c.args.vote ∷ []) c.in_ok-bucket-in-None.ensures.votes)
    c.in_ok-insert-in-None.ensures.updates.0
