-- The shards of valid Echoes that a lane has heard: where they are enough, and the root is that of a codeword, they rebuild to it.
use Rattle.std.proofs.Common.{◌≡◌, ℕ, zero, suc, ◌+◌, ◌≤◌, not, ◌&&◌, ◌==◌, Bool, true, false, inl, inr, List, [], ◌∷◌, ◌++◌, Contains, None, Some, length, take, if◌then◌else◌, refl, sym, ap, ◌∙◌, arith}
use Rattle.std.specs.List.{list_any, fold, filter_map}
use Rattle.std.specs.Option.{option_and_then, is_some}
use Rattle.std.specs.Str.{bytes_eq}
use Rattle.std.proofs.lemmas.Bool.{both_ways, and_parts, and_from, or_left, or_right, or_cases, eqb-true, eq-eqb, not-true}
use Rattle.std.proofs.lemmas.List.{take_all, length-take-le}
use Rattle.std.proofs.lemmas.List.Elements.{All-take, All-weaker}
use Rattle.std.proofs.lemmas.List.Folds.{list_any-append}
use Rattle.std.proofs.lemmas.Slice.Eq.{bytes_eq-Decides}
use Rattle.hb_base.specs.Counting.{count_nodes}
use Rattle.hb_base.specs.Numbers.{Numbers, AreSound}
use Rattle.hb_wire.specs.declared.post.Post.{Post}
use Rattle.merkle_branch.specs.Digests.{tree_root}
use Rattle.rs_shards.specs.Completing.{are_even, completed}
use Rattle.rs_shards.specs.Frame.{framed_value}
use Rattle.rs_shards.specs.Rebuilding.{AreShards, IsRebuilt}
use Rattle.rs_shards.proofs.Completions.{are_even-is, AreShards-take, rebuilt-even, completed-only}
use Rattle.hb_rules.specs.BroadcastRows.{shard_of, shards_of, value_of}
use Rattle.hb_rules.specs.Claims.{is_echo, is_shard_echo}
use Rattle.hb_rules.specs.Code.{data_count, echo_count}
use Rattle.hb_rules.specs.FirstShown.{has_node, with_first}
use Rattle.hb_rules.specs.Hearing.{Hearing, heard_in, heard_by}
use Rattle.hb_rules.specs.Ledger.{IsCorrect}
use Rattle.hb_rules.specs.Strings.{NoCollision}
use Rattle.hb_rules.proofs.Among.{Grows, AreEchoes-grows}
use Rattle.hb_rules.proofs.BroadcastParts.{some_where}
use Rattle.hb_rules.proofs.Counts.{count_nodes-mono, count_nodes-none, count_nodes-less}
use Rattle.hb_rules.proofs.FirstShards.{IsShown, shards_of-shown, shards_of-shards, data_count-some, few_nodes}
use Rattle.hb_rules.proofs.Lists.{Contains-cases, Contains-filter_map}
use Rattle.rbc_world.proofs.Binding.{IsBoundTo, on_bound}
use Rattle.rbc_progress.proofs.Marks.{echo_heard}

-- ---- a shard of each node that has shown a valid Echo

kept_first : (shown : List (ℕ × List ℕ)) (x : ℕ × List ℕ) (a : ℕ) → has_node shown a ≡ true → has_node (with_first shown x) a ≡ true
kept_first shown x a has = by (has_node shown x.0)
  where
    by : (b : Bool) → has_node (if b then shown else shown ++ x ∷ []) a ≡ true
    by true = has
    by false = list_any-append (λ y. y.0 == a) shown (x ∷ []) ∙ or_left (has_node shown a) (list_any (λ y. y.0 == a) (x ∷ [])) has

taken_first : (shown : List (ℕ × List ℕ)) (x : ℕ × List ℕ) → has_node (with_first shown x) x.0 ≡ true
taken_first shown x = by (has_node shown x.0) refl
  where
    by : (b : Bool) → has_node shown x.0 ≡ b → has_node (if b then shown else shown ++ x ∷ []) x.0 ≡ true
    by true has = has
    by false new =
        list_any-append (λ y. y.0 == x.0) shown (x ∷ [])
        ∙ or_right (has_node shown x.0) (list_any (λ y. y.0 == x.0) (x ∷ [])) (or_left (x.0 == x.0) false (eq-eqb x.0 x.0 refl))

kept_firsts : (xs shown : List (ℕ × List ℕ)) (a : ℕ) → has_node shown a ≡ true → has_node (fold with_first shown xs) a ≡ true
kept_firsts [] shown a has = has
kept_firsts (x ∷ xs) shown a has = kept_firsts xs (with_first shown x) a (kept_first shown x a has)

taken_firsts : (xs shown : List (ℕ × List ℕ)) (x : ℕ × List ℕ) → Contains xs x → has_node (fold with_first shown xs) x.0 ≡ true
taken_firsts [] shown x stands = absurd (omega (arith, stands.1))
taken_firsts (y ∷ ys) shown x stands =
    Contains-cases y ys x stands (has_node (fold with_first (with_first shown y) ys) x.0 ≡ true)
    (λ is. kept_firsts ys (with_first shown y) x.0 (ap (λ (z : ℕ × List ℕ). has_node (with_first shown y) z.0) (sym is) ∙ taken_first shown y))
    (λ rest. taken_firsts ys (with_first shown y) x rest)

has_shard : (n e a : ℕ) (root : List ℕ) (heard : List Hearing) → heard_by heard a (is_echo n e root a) ≡ true
    → has_node (shards_of n e root heard) a ≡ true
has_shard n e a root heard said =
    let found = echo_heard n e a root heard said in
    let part : ℕ × List ℕ = (found.hearing.from, found.echo.shard) in
    let gives : shard_of n e root found.hearing ≡ Some part =
    ap (option_and_then (λ (p : List ℕ × List ℕ). if bytes_eq root p.0 then Some (found.hearing.from, p.1) else None)) found.echo.is
    ∙ (let same : bytes_eq root root ≡ true = (bytes_eq-Decides root root).1 refl in rw same refl) in
    ap (has_node (shards_of n e root heard)) (sym found.from)
    ∙ taken_firsts (filter_map (shard_of n e root) heard) [] part (Contains-filter_map (shard_of n e root) heard found.hearing part found.stands gives)

-- ---- there are no more nodes than shards

one_at_most : (n m : ℕ) → count_nodes n (λ a. m == a) ≤ 1
one_at_most zero m = omega arith
one_at_most (suc n) m = by (m == n) refl (one_at_most n m)
  where
    by : (b : Bool) → (m == n) ≡ b → count_nodes n (λ a. m == a) ≤ 1 → count_nodes n (λ a. m == a) + (if b then 1 else 0) ≤ 1
    by true same few =
        let none : count_nodes n (λ a. m == a) ≤ count_nodes n (λ a. false) =
        count_nodes-mono n (λ a. m == a) (λ a. false) (λ a below h. absurd (omega (arith, eqb-true m a h, eqb-true m n same))) in
        omega (arith, none, count_nodes-none n (λ a. false) (λ a. refl))
    by false other few = omega (arith, few)

nodes_few : (n : ℕ) (shown : List (ℕ × List ℕ)) → count_nodes n (has_node shown) ≤ length shown
nodes_few n [] = omega (arith, count_nodes-none n (has_node {A = List ℕ} []) (λ a. refl))
nodes_few n (x ∷ shown) =
    let here : ℕ → Bool = λ a. x.0 == a in
    let others : count_nodes n (λ a. has_node (x ∷ shown) a && not (here a)) ≤ count_nodes n (has_node shown) =
    count_nodes-mono n (λ a. has_node (x ∷ shown) a && not (here a)) (has_node shown) (λ a below h.
    let parts = and_parts (has_node (x ∷ shown) a) (not (here a)) h in
    elim (or_cases (here a) (has_node shown a) parts.0) [
      | inl same ↦ absurd (both_ways (here a) (not-true (here a) parts.1) same)
      | inr has ↦ has
    ]) in
    omega (arith, count_nodes-less n (has_node (x ∷ shown)) here, others, one_at_most n x.0, nodes_few n shown)

-- so there are as many shards as nodes that have shown a valid Echo
shards_enough : (n e : ℕ) (root : List ℕ) (heard : List Hearing) → echo_count n e root (heard_by heard) ≤ length (shards_of n e root heard)
shards_enough n e root heard =
    let more : echo_count n e root (heard_by heard) ≤ count_nodes n (has_node (shards_of n e root heard)) =
    count_nodes-mono n (λ a. heard_by heard a (is_echo n e root a)) (has_node (shards_of n e root heard)) (λ a below said. has_shard n e a root heard said) in
    omega (arith, more, nodes_few n (shards_of n e root heard))

-- ---- the codeword of a root

module _ (c : Numbers) (j e : ℕ) (root : List ℕ) (history : List Post) (sound : AreSound c) (premise : NoCollision c history)
    (bound : IsBoundTo c history root) where
  -- the shards that came first to a lane of a correct node give the value, whoever sent them
  pub value_there : (i : ℕ) (heard : List Hearing) → IsCorrect c i → Grows (heard_by heard) (heard_by (heard_in c i j history))
      → data_count c ≤ echo_count c.n e root (heard_by heard) → is_some (value_of c e heard root) ≡ true
  value_there i heard correct posted enough =
      some_where ((length got == k) && (are_even got && bytes_eq (tree_root (completed c.n k got)) root)) (framed_value k (completed c.n k got))
      (and_from (length got == k) (are_even got && bytes_eq (tree_root (completed c.n k got)) root) (eq-eqb (length got) k length_is)
      (and_from (are_even got) (bytes_eq (tree_root (completed c.n k got)) root) even
      ((bytes_eq-Decides (tree_root (completed c.n k got)) root).1 (ap tree_root (sym whole) ∙ bound.root_is))))
    where
      k : ℕ
      k = data_count c

      all : List (ℕ × List ℕ)
      all = shards_of c.n e root heard

      got : List (ℕ × List ℕ)
      got = take (data_count c) (shards_of c.n e root heard)

      long : data_count c ≤ length (shards_of c.n e root heard)
      long = omega (arith, enough, shards_enough c.n e root heard)

      length_is : length (take (data_count c) (shards_of c.n e root heard)) ≡ data_count c
      length_is = length-take-le (data_count c) (shards_of c.n e root heard) long

      are : AreShards c.n (take (data_count c) (shards_of c.n e root heard))
      are = AreShards-take c.n k all long (shards_of-shards c.n e root heard)

      rebuilt : IsRebuilt c.n (data_count c) (take (data_count c) (shards_of c.n e root heard)) bound.shards
      rebuilt =
          on_bound c i j e root history sound premise bound correct got
          (AreEchoes-grows c.n k e root (heard_by heard) (heard_by (heard_in c i j history)) got posted (record {
            enough = length_is;
            shards = are;
            each =
                All-weaker (IsShown c.n e root heard) (λ (x : ℕ × List ℕ). heard_by heard x.0 (is_shard_echo c.n e root x.0 x.1) ≡ true)
                (λ x shown. shown.shown) got (All-take (IsShown c.n e root heard) k all (shards_of-shown c.n e root heard).each);
          }))

      enough_got : data_count c ≤ length (take (data_count c) (shards_of c.n e root heard))
      enough_got = omega (arith, length_is)

      even : are_even (take (data_count c) (shards_of c.n e root heard)) ≡ true
      even =
          let same : take k got ≡ got = take_all k got (omega (arith, length_is)) in
          ap are_even (sym same)
          ∙ are_even-is (take k got) (rebuilt-even c.n k (data_count-some c sound) (few_nodes c sound) got enough_got are bound.shards rebuilt)

      whole : bound.shards ≡ completed c.n (data_count c) (take (data_count c) (shards_of c.n e root heard))
      whole = completed-only c.n k (data_count-some c sound) (few_nodes c sound) got enough_got are bound.shards rebuilt
