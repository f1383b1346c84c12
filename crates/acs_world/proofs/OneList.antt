-- Closed lists of correct desks: they are one in an epoch, have n - f items at least, and are unaltered.
use Rattle.std.proofs.Common.{◌≡◌, ℕ, zero, suc, ◌+◌, ◌-◌, ◌<◌, ◌≤◌, ◌⊎◌, Bool, true, false, inl, inr, List, [], ◌∷◌, map, length, Contains, if◌then◌else◌, refl, sym, ap, ◌∙◌, subst, arith}
use Rattle.std.specs.List.{filter, range_with_len}
use Rattle.std.proofs.lemmas.List.{length-map}
use Rattle.hb_base.specs.Counting.{count_nodes}
use Rattle.hb_base.specs.Numbers.{Numbers, AreSound}
use Rattle.hb_wire.specs.declared.items.Item.{Item}
use Rattle.hb_wire.specs.Lists.{item as item_of}
use Rattle.hb_wire.specs.declared.vote.Vote.TheVariants.{Delivered, Decided, Propose, NoMore}
use Rattle.hb_wire.specs.declared.post.Post.{Post}
use Rattle.hb_rules.specs.Hearing.{own_in}
use Rattle.hb_rules.specs.History.{IsLegal}
use Rattle.hb_rules.specs.Ledger.{IsCorrect}
use Rattle.hb_rules.specs.Strings.{NoCollision}
use Rattle.hb_rules.proofs.Counts.{count_nodes-mono}
use Rattle.hb_rules.proofs.Lists.{Contains-first, Contains-later}
use Rattle.rbc_world.proofs.Theorems.{deliveries_agree, deliveries_proposed}
use Rattle.aba_world.specs.Agreed.{HasEstimate}
use Rattle.aba_world.proofs.Theorems.{decisions_agree, decisions_begun, beginnings_backed}
use Rattle.acs_world.specs.Backing.{IsBacked}
use Rattle.acs_world.proofs.Backed.{WasEnough, was_enough}

-- ---- lists of lanes

filter_same : (p q : ℕ → Bool) (s k : ℕ) → ((j : ℕ) → j < s + k → p j ≡ q j)
    → filter p (range_with_len s k) ≡ filter q (range_with_len s k)
filter_same p q s zero same = refl
filter_same p q s (suc k) same =
    let here : p s ≡ q s = same s (omega arith) in
    let later : filter p (range_with_len (s + 1) k) ≡ filter q (range_with_len (s + 1) k) =
    filter_same p q (s + 1) k (λ j below. same j (omega arith)) in
    rw (here, later) refl

count_step : (b : Bool) (s count all : ℕ) (rest : List ℕ) → length rest + (count + (if b then 1 else 0)) ≡ all
    → length (if b then s ∷ rest else rest) + count ≡ all
count_step true s count all rest h = omega (arith, h)
count_step false s count all rest h = omega (arith, h)

count_from : (p : ℕ → Bool) (s k : ℕ) → length (filter p (range_with_len s k)) + count_nodes s p ≡ count_nodes (s + k) p
count_from p s zero =
    let e : s ≡ s + 0 = omega arith in
    let same : count_nodes s p ≡ count_nodes (s + 0) p = ap (λ (m : ℕ). count_nodes m p) e in
    omega (arith, same)
count_from p s (suc k) =
    let more : s + 1 ≡ suc s = omega arith in
    let all : s + 1 + k ≡ s + suc k = omega arith in
    let here : count_nodes (s + 1) p ≡ count_nodes s p + (if p s then 1 else 0) = ap (λ (m : ℕ). count_nodes m p) more in
    let there : count_nodes (s + 1 + k) p ≡ count_nodes (s + suc k) p = ap (λ (m : ℕ). count_nodes m p) all in
    let later = count_from p (s + 1) k in
    count_step (p s) s (count_nodes s p) (count_nodes (s + suc k) p) (filter p (range_with_len (s + 1) k))
    (ap (λ (m : ℕ). length (filter p (range_with_len (s + 1) k)) + m) (sym here) ∙ later ∙ there)

-- all nodes pass a test, or one does not
all_or_one : (n : ℕ) (p : ℕ → Bool) → (count_nodes n p ≡ n) ⊎ ((a : ℕ) × (a < n) × (p a ≡ false))
all_or_one zero p = inl refl
all_or_one (suc n) p = by (p n) refl (all_or_one n p)
  where
    by : (b : Bool) → p n ≡ b → (count_nodes n p ≡ n) ⊎ ((a : ℕ) × (a < n) × (p a ≡ false))
        → (count_nodes (suc n) p ≡ suc n) ⊎ ((a : ℕ) × (a < suc n) × (p a ≡ false))
    by false fails before = inr (n, omega arith, fails)
    by true passes (inl all) = inl (rw passes (omega (arith, all)))
    by true passes (inr one) = inr (one.0, omega (arith, one.1), one.2)

-- ---- one list

one_item : (x y : Item) → x.node ≡ y.node → x.value ≡ y.value → x ≡ y
one_item x y node value = ap (λ (n : ℕ). item_of n x.value) node ∙ ap (λ (v : List ℕ). item_of y.node v) value

items_same : (xs ys : List Item) → map (λ (x : Item). x.node) xs ≡ map (λ (y : Item). y.node) ys
    → ((x y : Item) → Contains xs x → Contains ys y → x.node ≡ y.node → x.value ≡ y.value) → xs ≡ ys
items_same [] [] nodes values = refl
items_same [] (y ∷ ys) nodes values = absurd (cc (nodes))
items_same (x ∷ xs) [] nodes values = absurd (cc (nodes))
items_same (x ∷ xs) (y ∷ ys) nodes values =
    let node : x.node ≡ y.node = cc (nodes) in
    let others : map (λ (x : Item). x.node) xs ≡ map (λ (y : Item). y.node) ys = cc (nodes) in
    let first : x ≡ y = one_item x y node (values x y (Contains-first x xs) (Contains-first y ys) node) in
    let rest : xs ≡ ys =
    items_same xs ys others (λ u v one other. values u v (Contains-later x xs u one) (Contains-later y ys v other)) in
    cc (first, rest)

pub one_list : (c : Numbers) (history : List Post) (e i m : ℕ) (list other : List Item) → AreSound c → IsLegal c history → NoCollision c history
    → IsCorrect c i → IsCorrect c m → IsBacked c history i e list → IsBacked c history m e other → list ≡ other
one_list c history e i m list other sound legal premise correct also first second =
    items_same list other (first.lanes ∙ filter_same first.bits second.bits 0 c.n bits ∙ sym second.lanes) values
  where
    bits : (j : ℕ) → j < 0 + c.n → first.bits j ≡ second.bits j
    bits j below =
        let inside : j < c.n = omega (arith, below) in
        (decisions_agree c history sound legal premise).one j e i m (first.bits j) (second.bits j) inside correct also (first.decided j inside)
        (second.decided j inside)

    values : (x y : Item) → Contains list x → Contains other y → x.node ≡ y.node → x.value ≡ y.value
    values x y one two node =
        let of_x = first.delivered x one in
        let of_y = second.delivered y two in
        (deliveries_agree c history sound legal premise).one y.node e i m x.value y.value of_y.lane correct also
        (subst (λ (j : ℕ). Contains (own_in c i j history) (Delivered e x.value)) node of_x.cast) of_y.cast

-- ---- enough items

-- where the lane of one decided 0, a correct desk had n - f decisions of 1
zero_enough : (c : Numbers) (history : List Post) (e i j : ℕ) (list : List Item) → AreSound c → IsLegal c history → NoCollision c history
    → IsCorrect c i → (backed : IsBacked c history i e list) → j < c.n → backed.bits j ≡ false → c.n - c.f ≤ count_nodes c.n backed.bits
zero_enough c history e i j list sound legal premise correct backed inside nought =
    let decided : Contains (own_in c i j history) (Decided e false) =
    subst (λ (b : Bool). Contains (own_in c i j history) (Decided e b)) nought (backed.decided j inside) in
    let began : HasEstimate c history j e 0 false = (decisions_begun c history sound legal).begun j e i false inside correct decided in
    let no_more : Contains (own_in c began.node c.n history) (NoMore e) =
    (beginnings_backed c history legal).unwanted j e began.node began.correct began.cast in
    let enough : WasEnough c history began.node e = was_enough c history began.node e legal began.correct.honest no_more in
    omega (
      arith,
      enough.many,
      count_nodes-mono c.n enough.votes backed.bits (λ l below h.
          sym ((decisions_agree c history sound legal premise).one l e began.node i true (backed.bits l) below began.correct correct (enough.each l h)
          (backed.decided l below))),
    )

pub list_enough : (c : Numbers) (history : List Post) (e i : ℕ) (list : List Item) → AreSound c → IsLegal c history → NoCollision c history
    → IsCorrect c i → IsBacked c history i e list → c.n - c.f ≤ length list
list_enough c history e i list sound legal premise correct backed =
    let nodes : length (map (λ (x : Item). x.node) list) ≡ length (filter backed.bits (range_with_len 0 c.n)) =
    ap (λ (xs : List ℕ). length xs) backed.lanes in
    let size : length (map (λ (x : Item). x.node) list) ≡ length list = length-map list (λ (x : Item). x.node) in
    let nodes_are : 0 + c.n ≡ c.n = omega arith in
    let whole : count_nodes (0 + c.n) backed.bits ≡ count_nodes c.n backed.bits = ap (λ (m : ℕ). count_nodes m backed.bits) nodes_are in
    let counted = count_from backed.bits 0 c.n in
    elim (all_or_one c.n backed.bits) [
      | inl all ↦ omega (arith, nodes, size, whole, counted, all)
      | inr one ↦ omega (arith, nodes, size, whole, counted, zero_enough c history e i one.0 list sound legal premise correct backed one.1 one.2)
    ]

-- ---- unaltered items

pub item_unaltered : (c : Numbers) (history : List Post) (e i : ℕ) (list : List Item) (item : Item) → AreSound c → IsLegal c history
    → NoCollision c history → IsCorrect c i → IsCorrect c item.node → IsBacked c history i e list → Contains list item
    → Contains (own_in c item.node c.n history) (Propose e item.value)
item_unaltered c history e i list item sound legal premise correct sender backed stands =
    (deliveries_proposed c history sound legal premise).proposed item.node e i item.value sender correct (backed.delivered item stands).cast
