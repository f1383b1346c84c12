-- The numbers of a generated run are those of a config.
use Rattle.std.proofs.Common.{◌≡◌, ◌≢◌, ℕ, zero, suc, ◌+◌, ◌-◌, ◌<◌, ◌≤◌, ◌⊎◌, inl, inr, true, false, sym, subst, ◌∙◌, arith, lit≤}
use Rattle.std.proofs.lemmas.Bool.{cases_eq}
use Rattle.std.proofs.lemmas.List.{get_or-replicate, get_or-set_other}
use Rattle.hb_base.specs.Numbers.{numbers, AreSound}
use Rattle.hb_base.specs.Counting.{count_nodes}
use Rattle.hb_base.specs.NodeSet.{is_in}
use Rattle.hb_base.specs.Limits.{most_nodes, most_epochs, most_rounds, most_batch}
use Rattle.scenario_gen.specs.Generated.{faulty, first_liar, nodes_from, liar_marks}

-- at most f of up to ten nodes lie
few : (k : ℕ) → k < 7 → count_nodes most_nodes (is_in (liar_marks (4 + k))) ≤ faulty (4 + k)
few zero below = lit≤ tt
few (suc zero) below = lit≤ tt
few (suc (suc zero)) below = lit≤ tt
few (suc (suc (suc zero))) below = lit≤ tt
few (suc (suc (suc (suc zero)))) below = lit≤ tt
few (suc (suc (suc (suc (suc zero))))) below = lit≤ tt
few (suc (suc (suc (suc (suc (suc zero)))))) below = lit≤ tt
few (suc (suc (suc (suc (suc (suc (suc k))))))) below = absurd (omega (arith, below))

-- a marked node stands among those that were marked
below : (first count node : ℕ) → node < most_nodes → is_in (nodes_from first count) node ≡ true → node < first + count
below first zero node known marked = absurd (cc (get_or-replicate most_nodes node false false known, marked))
below first (suc count) node known marked =
    by_cases (cases_eq node (first + count)) (λ other. below first count node known
    (sym (get_or-set_other (nodes_from first count) (first + count) node true false other) ∙ marked))
  where
    by_cases : (node ≡ first + count) ⊎ (node ≡ first + count → ⊥) → (node ≢ first + count → node < first + count) → node < first + suc count
    by_cases (inl here) earlier = omega (arith, here)
    by_cases (inr other) earlier = let before : node < first + count = earlier other in omega (arith, before)

-- the numbers of a generated run are within their limits
pub found : (number n epochs batch : ℕ) → 4 ≤ n → n ≤ 10 → (1 ≤ epochs) × (epochs ≤ most_epochs) → (1 ≤ batch) × (batch ≤ most_batch)
    → AreSound (numbers n (faulty n) epochs most_rounds batch number 1 (liar_marks n))
found number n epochs batch least most some_epochs some_batch = record {
  nodes = (omega (arith, least), omega (arith, most));
  faulty = (omega arith, omega (arith, most));
  enough = omega (arith, least);
  epochs = some_epochs;
  rounds = (lit≤ tt, lit≤ tt);
  batch = some_batch;
  version = (lit≤ tt, lit≤ tt);
  known = λ node known marked. let under : node < first_liar n + faulty n = below (first_liar n) (faulty n) node known marked in omega (arith, least, under);
  few = let at : 4 + (n - 4) ≡ n = omega (arith, least) in
      let P : ℕ → Type 0 = λ m. count_nodes most_nodes (is_in (liar_marks m)) ≤ faulty m in
      subst P at (few (n - 4) (omega (arith, least, most)));
}
