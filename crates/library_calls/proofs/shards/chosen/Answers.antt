use Rattle.std.proofs.Common.{◌≡◌, ◌≢◌, ℕ, ◌+◌, ◌<◌, ◌^◌, List, [], ◌∷◌, ◌++◌, Some, length, sym, ◌∙◌, ap, subst, arith}
use Rattle.std.specs.List.{All, AllPairs, slice_get}
use Rattle.std.proofs.lemmas.List.Elements.{All-push, All-weaker}
use Rattle.std.proofs.lemmas.List.Quantifiers.{all_pairs_push}
use Rattle.std.proofs.lemmas.Option.{slice_get-get_or}
use Rattle.library_calls.proofs.shards.chosen.Goals as goal
use Rattle.library_calls.proofs.shards.chosen.Goals.{then-choice-i-eq1+in_ok-clone+in_ok-push, else-choice-i-eq1}

-- the shards that were chosen below i
record Chosen (shards : List (List ℕ)) (i : ℕ) (got : List (ℕ × List ℕ)) : Type 0 where
  pub distinct : AllPairs (λ x y. x.0 ≢ y.0) got
  pub below : All (λ x. x.0 < i) got
  pub short : All (λ x. length x.1 < 2 ^ 32) got
  pub taken : All (λ x. slice_get shards x.0 ≡ Some x.1) got

none_more : (shards : List (List ℕ)) (i : ℕ) (got : List (ℕ × List ℕ)) → Chosen shards i got → Chosen shards (i + 1) got
none_more shards i got so_far = record {
  distinct = so_far.distinct;
  below = All-weaker (λ x. x.0 < i) (λ x. x.0 < i + 1) (λ x low. omega (arith, low)) got so_far.below;
  short = so_far.short;
  taken = so_far.taken;
}

one_more : (shards : List (List ℕ)) (i : ℕ) (got : List (ℕ × List ℕ)) (shard : List ℕ) → Chosen shards i got → slice_get shards i ≡ Some shard
    → length shard < 2 ^ 32 → Chosen shards (i + 1) (got ++ (i, shard) ∷ [])
one_more shards i got shard so_far at short = record {
  distinct = all_pairs_push (λ x y. x.0 ≢ y.0) got (i, shard) so_far.distinct (λ k d inside same. omega (arith, so_far.below k d inside, same));
  below = All-push (λ x. x.0 < i + 1) got (i, shard) (none_more shards i got so_far).below (omega arith);
  short = All-push (λ x. length x.1 < 2 ^ 32) got (i, shard) so_far.short short;
  taken = All-push (λ x. slice_get shards x.0 ≡ Some x.1) got (i, shard) so_far.taken at;
}

pub loop-i-preserved : goal.loop-i-preserved
loop-i-preserved c =
    let shards = c.args.shards.now in
    let i = c.loop-i.i in
    let so_far : Chosen shards i c.loop-i.got.items = record {
      distinct = c.loop-i.invariant.distinct;
      below = c.loop-i.invariant.below;
      short = c.loop-i.invariant.short;
      taken = c.loop-i.invariant.taken;
    } in
    elim c.if-choice-i-eq1.branch [
      | then-choice-i-eq1+in_ok-clone+in_ok-push w ↦
          let shard = w.in_ok-clone.field-0 in
          let read : shard ≡ w.index-shards-i.result = w.in_ok-clone.ensures.cases in
          let next : Chosen shards (i + 1) c.if-choice-i-eq1.got.items =
          subst (Chosen shards (i + 1)) (sym w.in_ok-push.ensures.items ∙ sym (ap (λ v. v.items) w.got-is))
          (one_more shards i c.loop-i.got.items shard so_far
          (slice_get-get_or shards i w.index-shards-i.result c.loop-i-test.true ∙ ap Some (sym w.index-shards-i.is ∙ sym read))
          (omega (arith, c.requires.short i w.index-shards-i.result c.loop-i-test.true, ap length w.index-shards-i.is, ap length read))) in
          record { distinct = next.distinct; below = next.below; short = next.short; taken = next.taken }
      | else-choice-i-eq1 w ↦
          let next : Chosen shards (i + 1) c.if-choice-i-eq1.got.items = subst (Chosen shards (i + 1)) (sym (ap (λ v. v.items) w.got-is)) (none_more shards i c.loop-i.got.items so_far) in
          record { distinct = next.distinct; below = next.below; short = next.short; taken = next.taken }
    ]
