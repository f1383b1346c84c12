-- The coin of a round in a calm run: where all running nodes have shown their shares, each knows the coin that was dealt.
use Rattle.std.proofs.Common.{◌≡◌, ℕ, zero, suc, ◌+◌, ◌<◌, ◌≤◌, ◌&&◌, ◌||◌, ◌==◌, not, Bool, true, false, inl, inr, List, [], ◌∷◌, ◌++◌, length, take, Contains, None, Some, if◌then◌else◌, refl, sym, ap, ◌∙◌, subst, arith}
use Rattle.std.specs.List.{fold, filter_map}
use Rattle.std.proofs.lemmas.Bool.{and_parts, or_left, or_right, cases_lt, cases_Bool, eqb-true, eq-eqb, ne_eqb, lt-ltb}
use Rattle.std.proofs.lemmas.List.Elements.{All-weaker}
use Rattle.std.proofs.lemmas.List.Folds.{list_any-append}
use Rattle.hb_base.specs.Counting.{count_nodes}
use Rattle.hb_base.specs.Numbers.{Numbers}
use Rattle.merkle_branch.specs.Digests.{leaf_digests}
use Rattle.merkle_branch.specs.Branches.{branch_of}
use Rattle.coin_deal.specs.Deal.{share, salt, coin_leaves, coin_root, dealt_coin}
use Rattle.coin_deal.specs.Heard.{HeardShare, heard_share, IsGood, is_good, has_share_of, with_heard, coin_through}
use Rattle.coin_deal.proofs.OneCoin.{leaf_proved}
use Rattle.coin_deal.proofs.Shares.{is_good-from}
use Rattle.hb_wire.specs.declared.vote.Vote.{Vote}
use Rattle.hb_wire.specs.declared.vote.Vote.TheVariants.{Coin}
use Rattle.hb_rules.specs.Coins.{hearing_of_share, share_in, shares_in, coin_in}
use Rattle.hb_rules.specs.Hearing.{Hearing, hearing, heard_in}
use Rattle.hb_rules.specs.History.{HasSpelling}
use Rattle.hb_rules.specs.Marks.{any_coin, bears}
use Rattle.hb_rules.specs.Terms.{AreHeardSpelled}
use Rattle.hb_rules.proofs.Among.{any_stands}
use Rattle.hb_rules.proofs.Counts.{count_nodes-mono, count_nodes-none, count_nodes-less}
use Rattle.hb_rules.proofs.FirstShares.{coin_in-shown}
use Rattle.hb_rules.proofs.Lists.{AllByRecursion-contains, Contains-cases, Contains-first, Contains-later, Contains-filter_map}
use Rattle.hb_rules.proofs.Received.{heard_spelled}
use Rattle.aba_world.proofs.Stood.{share_dealt}
use Rattle.aba_world.proofs.Theorems.{coins_dealt}
use Rattle.aba_progress.proofs.Running.{QuietAgreement, own, view, EachCast, share_heard}
use Rattle.aba_progress.proofs.Marked.{IsShare, any_coin-is}

-- ---- good shares are taken as they come

kept_share : (root : List ℕ) (n m : ℕ) (shares : List HeardShare) (a : HeardShare) → has_share_of shares m ≡ true
    → has_share_of (with_heard root n shares a) m ≡ true
kept_share root n m shares a has = by (not (has_share_of shares a.node) && is_good root n a)
  where
    by : (b : Bool) → has_share_of (if b then shares ++ a ∷ [] else shares) m ≡ true
    by true =
        list_any-append (λ (x : HeardShare). x.node == m) shares (a ∷ []) ∙ or_left (has_share_of shares m) (has_share_of (a ∷ []) m) has
    by false = has

taken_share : (root : List ℕ) (n : ℕ) (shares : List HeardShare) (a : HeardShare) → is_good root n a ≡ true
    → has_share_of (with_heard root n shares a) a.node ≡ true
taken_share root n shares a good = elim (cases_Bool (has_share_of shares a.node)) [
  | inl has ↦ kept_share root n a.node shares a has
  | inr none ↦
      let now : has_share_of (shares ++ a ∷ []) a.node ≡ true =
      list_any-append (λ (x : HeardShare). x.node == a.node) shares (a ∷ [])
      ∙ or_right (has_share_of shares a.node) (has_share_of (a ∷ []) a.node) (or_left (a.node == a.node) false (eq-eqb a.node a.node refl)) in
      let counts : (not (has_share_of shares a.node) && is_good root n a) ≡ true = rw (none, good) refl in
      ap (λ (b : Bool). has_share_of (if b then shares ++ a ∷ [] else shares) a.node) counts ∙ now
]

kept_all : (root : List ℕ) (n m : ℕ) (xs shares : List HeardShare) → has_share_of shares m ≡ true
    → has_share_of (fold (with_heard root n) shares xs) m ≡ true
kept_all root n m [] shares has = has
kept_all root n m (a ∷ xs) shares has = kept_all root n m xs (with_heard root n shares a) (kept_share root n m shares a has)

pub taken_all : (root : List ℕ) (n : ℕ) (xs shares : List HeardShare) (a : HeardShare) → Contains xs a → is_good root n a ≡ true
    → has_share_of (fold (with_heard root n) shares xs) a.node ≡ true
taken_all root n [] shares a stands good = absurd (omega (arith, stands.1))
taken_all root n (x ∷ xs) shares a stands good =
    Contains-cases x xs a stands (has_share_of (fold (with_heard root n) (with_heard root n shares x) xs) a.node ≡ true)
    (λ is.
    kept_all root n a.node xs (with_heard root n shares x)
    (subst (λ (y : HeardShare). has_share_of (with_heard root n shares y) a.node ≡ true) (sym is) (taken_share root n shares a good)))
    (λ rest. taken_all root n xs (with_heard root n shares x) a rest good)

-- ---- shares are of no more nodes than there are shares

one_node : (n k : ℕ) → count_nodes n (λ m. k == m) ≤ 1
one_node zero k = omega arith
one_node (suc n) k = elim (cases_lt k n) [
  | inl below ↦
      let other : (k == n) ≡ false = ne_eqb k n (λ same. omega (arith, same, below)) in
      rw other (omega (arith, one_node n k))
  | inr above ↦
      let none : count_nodes n (λ m. k == m) ≤ count_nodes n (λ m. false) =
      count_nodes-mono n (λ m. k == m) (λ m. false) (λ m inside h. absurd (omega (arith, inside, above, eqb-true k m h))) in
      let empty : count_nodes n (λ m. false) ≡ 0 = count_nodes-none n (λ m. false) (λ m. refl) in
      by (k == n) (omega (arith, none, empty))
]
  where
    by : (b : Bool) → count_nodes n (λ m. k == m) ≤ 0 → count_nodes n (λ m. k == m) + (if b then 1 else 0) ≤ 1
    by true none = omega arith
    by false none = omega arith

pub few_nodes : (n : ℕ) (shares : List HeardShare) → count_nodes n (λ m. has_share_of shares m) ≤ length shares
few_nodes n [] =
    let none : count_nodes n (λ m. has_share_of [] m) ≡ 0 = count_nodes-none n (λ m. has_share_of [] m) (λ m. refl) in
    omega (arith, none)
few_nodes n (a ∷ shares) =
    let others : count_nodes n (λ m. has_share_of (a ∷ shares) m && not (a.node == m)) ≤ count_nodes n (λ m. has_share_of shares m) =
    count_nodes-mono n (λ m. has_share_of (a ∷ shares) m && not (a.node == m)) (λ m. has_share_of shares m)
    (λ m below h. let parts = and_parts (has_share_of (a ∷ shares) m) (not (a.node == m)) h in by (a.node == m) (has_share_of shares m) parts.0 parts.1) in
    omega (arith, count_nodes-less n (λ m. has_share_of (a ∷ shares) m) (λ m. a.node == m), others, one_node n a.node, few_nodes n shares)
  where
    by : (here later : Bool) → (here || later) ≡ true → not here ≡ true → later ≡ true
    by true later has other = absurd (cc (other))
    by false later has other = has

-- ---- the shares of running nodes

-- the dealt share of a node is good
dealt_good : (c : Numbers) (e j r a : ℕ) → c.n ≤ 16 → a < c.n
    → IsGood (coin_root c e j r) c.n (heard_share a (share c e j r a) (salt c e j r a) (branch_of (leaf_digests (coin_leaves c e j r)) a))
dealt_good c e j r a few inside = record { node = inside; branch = leaf_proved c e j r a few inside }

-- the share that a running node has shown is among the first good ones that each running node has heard
share_taken : (q : QuietAgreement) (i r a : ℕ) → r < q.c.rounds → EachCast q (any_coin r) → q.runs i ≡ true → q.runs a ≡ true
    → has_share_of (shares_in q.c q.e q.j r (q.heard i)) a ≡ true
share_taken q i r a round shown runs speaks =
    taken_all root q.c.n (filter_map (λ (h : Hearing). share_in q.e r h.from h.vote) (q.heard i)) [] theirs
    (Contains-filter_map (λ (h : Hearing). share_in q.e r h.from h.vote) (q.heard i) (hearing a (Coin q.e r is.share is.salt is.branch)) theirs heard
    (let epoch : (q.e == q.e) ≡ true = eq-eqb q.e q.e refl in let same : (r == r) ≡ true = eq-eqb r r refl in rw (epoch, same) refl))
    (is_good-from root q.c.n theirs good)
  where
    root : List ℕ
    root = coin_root q.c q.e q.j r

    found : (vote : Vote) × Contains (own q a) vote × (bears q.e (any_coin r) vote ≡ true)
    found = any_stands (bears q.e (any_coin r)) (own q a) (shown a speaks)

    is : IsShare q.e r found.0
    is = any_coin-is q.e r found.0 found.2

    stands : Contains (own q a) (Coin q.e r is.share is.salt is.branch)
    stands = subst (λ (vote : Vote). Contains (own q a) vote) is.is found.1

    theirs : HeardShare
    theirs = heard_share a is.share is.salt is.branch

    heard : Contains (q.heard i) (hearing a (Coin q.e r is.share is.salt is.branch))
    heard = share_heard q i a r is.share is.salt is.branch round runs speaks stands

    good : IsGood (coin_root q.c q.e q.j r) q.c.n (heard_share a is.share is.salt is.branch)
    good =
        subst (IsGood (coin_root q.c q.e q.j r) q.c.n)
        (sym (share_dealt q.c q.j q.e r a is.share is.salt is.branch q.history q.lane.legal (q.lane.correct a speaks).honest stands))
        (dealt_good q.c q.e q.j r a q.lane.sound.nodes.1 (q.lane.correct a speaks).known)

-- ---- the coin

-- what a running node has heard has spellings
spelled_from : (q : QuietAgreement) (i : ℕ) → q.runs i ≡ true → (heard : List Hearing)
    → ((h : Hearing) → Contains heard h → Contains (q.heard i) h) → AreHeardSpelled q.c heard
spelled_from q i runs [] within = tt
spelled_from q i runs (h ∷ heard) within = (
  AllByRecursion-contains (λ (g : Hearing). HasSpelling q.c g.vote) (heard_in q.c i q.j q.history) h (heard_spelled q.c i q.j q.history)
      (q.lane.posted i h runs (within h (Contains-first h heard))),
  spelled_from q i runs heard (λ g stands. within g (Contains-later h heard g stands)),
)

-- the coin that it knows is the dealt one
pub coin_is : (q : QuietAgreement) (i r : ℕ) (b : Bool) → q.runs i ≡ true → (view q i).coin r ≡ Some b → b ≡ dealt_coin q.c q.e q.j r
coin_is q i r b runs known =
    let shown = coin_in-shown q.c q.lane.sound q.e q.j r (q.heard i) (spelled_from q i runs (q.heard i) (λ h stands. stands)) b known in
    (coins_dealt q.c q.history q.lane.sound q.lane.legal q.lane.apart).dealt q.j q.e r i b q.lane.lane (q.lane.correct i runs) (record {
      shares = shown.coin.shares;
      choice = shown.coin.choice;
      stand =
          All-weaker (λ (a : HeardShare). Contains (q.heard i) (hearing_of_share q.e r a))
          (λ (a : HeardShare). Contains (heard_in q.c i q.j q.history) (hearing_of_share q.e r a))
          (λ a stands. q.lane.posted i (hearing_of_share q.e r a) runs stands) shown.coin.shares shown.coin.stand;
      coin = shown.coin.coin;
    })

-- where all have shown their shares, it knows the coin
pub coin_known : (q : QuietAgreement) (i r : ℕ) → r < q.c.rounds → EachCast q (any_coin r) → q.runs i ≡ true
    → (view q i).coin r ≡ Some (dealt_coin q.c q.e q.j r)
coin_known q i r round shown runs =
    let shares : List HeardShare = shares_in q.c q.e q.j r (q.heard i) in
    let all : count_nodes q.c.n q.runs ≤ count_nodes q.c.n (λ m. has_share_of shares m) =
    count_nodes-mono q.c.n q.runs (λ m. has_share_of shares m) (λ a below speaks. share_taken q i r a round shown runs speaks) in
    let many : q.c.f < length shares = omega (arith, all, few_nodes q.c.n shares, q.lane.many, q.lane.sound.enough) in
    let known : coin_in q.c q.e q.j (q.heard i) r ≡ Some (coin_through (take (q.c.f + 1) shares)) =
    ap (λ (b : Bool). if b then Some (coin_through (take (q.c.f + 1) shares)) else None) (lt-ltb q.c.f (length shares) many) in
    known ∙ ap (λ (b : Bool). Some b) (coin_is q i r (coin_through (take (q.c.f + 1) shares)) runs known)
