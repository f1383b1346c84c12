use Rattle.std.proofs.Common.{◌++◌, ◌∷◌, [], ap, sym, ◌∙◌, List, ℕ}
use Rattle.hb_wire.specs.declared.vote.Vote.TheVariants.{Echo}
use Rattle.rbc_core.proofs.Unheeded.{unheeded_val}
use Rattle.rbc_core.proofs.Vals.{Hears-val_cast, Hears-val_bad, Hears-val}
use Rattle.rbc_core.proofs.rbc.Rbc.hear_val.Goals as goal
use Rattle.rbc_core.proofs.rbc.Rbc.hear_val.Goals.{then-from-self-via-then-from-self, then-from-self-via-else-from-self+then-target-self}

pub returns-then-from-self-clause-ok : goal.returns-then-from-self-clause-ok
returns-then-from-self-clause-ok c =
    rw (← c.self.view_is) (unheeded_val _ c.args.from c.self.inside.epoch c.args.target c.args.root.now c.args.shard.now c.args.branch.now c.args.due.now.votes
    (rw (← c.self.view_is) at c.requires)
    (λ epoch from target. elim c.then-from-self.branch [
      | then-from-self-via-then-from-self w ↦ w.if-from-self.true from
      | then-from-self-via-else-from-self+then-target-self w ↦ w.if-target-self.true target
    ]))

pub returns-then-self-clause-ok : goal.returns-then-self-clause-ok
returns-then-self-clause-ok c =
    rw (← c.self.view_is, c.if-from-self.false, c.if-target-self.false) (Hears-val_cast _ c.args.root.now c.args.shard.now c.args.branch.now c.args.due.now.votes
    (rw (← c.self.view_is, c.if-from-self.false) at c.requires) c.if-self.true)

pub returns-then-not-is_own_shard-clause-ok : goal.returns-then-not-is_own_shard-clause-ok
returns-then-not-is_own_shard-clause-ok c =
    rw (← c.self.view_is, c.if-from-self.false, c.if-target-self.false) (Hears-val_bad _ c.args.root.now c.args.shard.now c.args.branch.now c.args.due.now.votes
    (rw (← c.self.view_is, c.if-from-self.false) at c.requires)
    (sym (rw (← c.self.view_is) at c.is_own_shard.ensures) ∙ c.if-not-is_own_shard.true))

pub returns-clause-ok : goal.returns-clause-ok
returns-clause-ok c =
    rw (← c.self.view_is, c.if-from-self.false, c.if-target-self.false) (Hears-val _ c.args.root.now c.args.shard.now c.args.branch.now c.args.due.now.votes
    c.push.new.self.votes (rw (← c.self.view_is, c.if-from-self.false) at c.requires)
    (sym (rw (← c.self.view_is) at c.is_own_shard.ensures) ∙ c.if-not-is_own_shard.false)
    c.if-self.false
    (c.in_ok-push.ensures.ok ∙ ap (λ (s : List ℕ). c.args.due.now.votes ++ Echo c.self.inside.epoch c.args.root.now s c.args.branch.now ∷ []) c.in_ok-clone.ensures.cases))
