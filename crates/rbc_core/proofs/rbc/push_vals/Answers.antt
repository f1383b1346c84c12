use Rattle.std.proofs.Common.{◌≡◌, List, ◌∷◌, [], ◌++◌, length, get_or, Some, ℕ, sym, ap, ◌∙◌, append_assoc, length-append, add-one, arith}
use Rattle.std.specs.Option.{option_to_list}
use Rattle.std.specs.Vec.Iter.{into_iter_items}
use Rattle.hb_base.specs.NodeSet.{is_in}
use Rattle.hb_wire.specs.declared.vote.Vote.{Vote}
use Rattle.hb_wire.specs.declared.vote.Vote.TheVariants.{Val}
use Rattle.merkle_branch.specs.Branches.{branch_of}
use Rattle.merkle_branch.specs.Digests.{leaf_digests, root_of, tree_root}
use Rattle.merkle_branch.proofs.LeavesLemmas.{length-leaf_digests_from}
use Rattle.hb_rules.specs.BroadcastRows.{val_of}
use Rattle.rbc_core.specs.Due.{unless, missing_vals}
use Rattle.rbc_core.proofs.Vals.{shard_at_seam}
use Rattle.rbc_core.proofs.rbc.push_vals.Goals as goal

pub push_val-requires : goal.push_val-requires
push_val-requires c =
    let here = ap (λ xs. length xs) c.loop-shard.invariant.split in
    let next = ap (λ xs. length xs) c.in-Some.ensures.steps.0 in
    let leaves = ap (λ xs. length xs) c.requires.tree in
    record {
      target =
          omega (
            arith,
            c.loop-shard.invariant.target,
            here,
            next,
            leaves,
            length-append c.loop-shard.yielded (into_iter_items c.loop-shard.shard-iterator),
            length-leaf_digests_from 0 c.args.shards.items,
          );
      room =
          omega (
            arith,
            c.loop-shard.invariant.target,
            c.loop-shard.invariant.room,
            here,
            next,
            length-append c.loop-shard.yielded (into_iter_items c.loop-shard.shard-iterator),
          );
    }

pub overflow_add-target : goal.overflow_add-target
overflow_add-target c =
    omega (
      arith,
      c.loop-shard.invariant.target,
      c.requires.few,
      ap (λ xs. length xs) c.loop-shard.invariant.split,
      ap (λ xs. length xs) c.in-Some.ensures.steps.0,
      length-append c.loop-shard.yielded (into_iter_items c.loop-shard.shard-iterator),
    )

pub loop-shard-preserved : goal.loop-shard-preserved
loop-shard-preserved c =
    let items : List (List ℕ) = c.args.shards.items in
    let t : ℕ = c.loop-shard.target in
    let split : c.loop-shard.yielded ++ c.in-Some.shard ∷ into_iter_items c.next.new.self ≡ items =
    ap (λ (xs : List (List ℕ)). c.loop-shard.yielded ++ xs) (sym c.in-Some.ensures.steps.0) ∙ c.loop-shard.invariant.split in
    let shard : get_or items t [] ≡ c.in-Some.shard =
    ap (λ (k : ℕ). get_or items k []) c.loop-shard.invariant.target ∙ shard_at_seam items c.loop-shard.yielded (into_iter_items c.next.new.self) c.in-Some.shard split in
    let vote : Val c.args.epoch t (root_of c.args.tree.now) c.in-Some.shard (branch_of c.args.tree.now t) ≡ val_of c.args.epoch t items =
    ap (λ (ds : List (List ℕ)). Val c.args.epoch t (root_of ds) c.in-Some.shard (branch_of ds t)) c.requires.tree
    ∙ ap (λ (s : List ℕ). Val c.args.epoch t (tree_root items) s (branch_of (leaf_digests items) t)) (sym shard) in
    record {
      target = omega (arith, c.loop-shard.invariant.target, length-append c.loop-shard.yielded (c.in-Some.shard ∷ []));
      split = append_assoc c.loop-shard.yielded (c.in-Some.shard ∷ []) (into_iter_items c.next.new.self) ∙ split;
      room = omega (arith, c.loop-shard.invariant.room, c.push_val.ensures.room);
      kept = omega (arith, c.loop-shard.invariant.kept, c.push_val.ensures.keeps_room);
      spent = omega (arith, c.loop-shard.invariant.spent, c.push_val.ensures.room);
      votes =
          rw add-one (c.push_val.ensures.votes
          ∙ ap (λ (votes : List Vote). votes ++ option_to_list (unless (is_in c.args.cast.now t) (Some (Val c.args.epoch t (root_of c.args.tree.now) c.in-Some.shard (branch_of c.args.tree.now t))))) c.loop-shard.invariant.votes
          ∙ append_assoc c.args.due.now.votes (missing_vals c.args.epoch items c.args.cast.now t)
          (option_to_list (unless (is_in c.args.cast.now t) (Some (Val c.args.epoch t (root_of c.args.tree.now) c.in-Some.shard (branch_of c.args.tree.now t)))))
          ∙ ap (λ (v : Vote). c.args.due.now.votes ++ (missing_vals c.args.epoch items c.args.cast.now t ++ option_to_list (unless (is_in c.args.cast.now t) (Some v)))) vote);
    }
