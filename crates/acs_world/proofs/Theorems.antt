-- The theorems on the common subset and the ledger.
use Rattle.std.proofs.Common.{◌≡◌, ℕ, suc, ◌⊎◌, inl, inr, List, [], ◌∷◌, Contains, sym, subst, arith}
use Rattle.hb_base.specs.Numbers.{Numbers, AreSound}
use Rattle.hb_wire.specs.declared.items.Item.{Item}
use Rattle.hb_wire.specs.declared.vote.Vote.TheVariants.{Closed}
use Rattle.hb_wire.specs.declared.post.Post.{Post}
use Rattle.hb_rules.specs.Hearing.{own_in}
use Rattle.hb_rules.specs.History.{IsLegal}
use Rattle.hb_rules.specs.Ledger.{IsCorrect, AreComparable, BatchesAreEnough, AreUnaltered}
use Rattle.hb_rules.specs.Strings.{NoCollision}
use Rattle.hb_rules.proofs.Lists.{Contains-first}
use Rattle.acs_world.specs.Agreed.{ClosingsAgree, ClosingsFollow}
use Rattle.acs_world.specs.Backing.{ClosingsAreBacked}
use Rattle.hb_rules.proofs.DeskVotes.{closing_follows}
use Rattle.acs_world.proofs.Backed.{closing_backed}
use Rattle.acs_world.proofs.OneList.{one_list, list_enough, item_unaltered}
use Rattle.acs_world.proofs.Ledgers.{lists_at, list_from, list_has, one_list_at, ledger_from, IsChain, chains_comparable}

-- ---- closed lists

pub closings_backed : (c : Numbers) (history : List Post) → IsLegal c history → ClosingsAreBacked c history
closings_backed c history legal = record {
  backed = λ i e list correct stands. closing_backed c history i e list legal correct.honest stands;
}

pub closings_follow : (c : Numbers) (history : List Post) → IsLegal c history → ClosingsFollow c history
closings_follow c history legal = record {
  before = λ e i list correct stands. closing_follows c history i e list legal correct.honest stands;
}

pub closings_agree : (c : Numbers) (history : List Post) → AreSound c → IsLegal c history → NoCollision c history → ClosingsAgree c history
closings_agree c history sound legal premise = record {
  one = λ e i m list other correct also first second.
      one_list c history e i m list other sound legal premise correct also (closing_backed c history i e list legal correct.honest first)
      (closing_backed c history m e other legal also.honest second);
}

-- ---- ledgers

-- the lists of a correct node, epoch by epoch
pub closed_chain : (c : Numbers) (history : List Post) (i : ℕ) → ClosingsAgree c history → ClosingsFollow c history → IsCorrect c i
    → IsChain (λ (e : ℕ). lists_at e (own_in c i c.n history))
closed_chain c history i agree follow correct = record { at = at; ends = ends }
  where
    at : (e : ℕ) → (lists_at e (own_in c i c.n history) ≡ []) ⊎ ((x : List Item) × (lists_at e (own_in c i c.n history) ≡ x ∷ []))
    at e = elim (one_list_at e (own_in c i c.n history) (λ list other first second. agree.one e i i list other correct correct first second)) [
      | inl none ↦ inl none
      | inr one ↦ inr (one.0, one.2)
    ]

    ends : (e : ℕ) → lists_at e (own_in c i c.n history) ≡ [] → lists_at (suc e) (own_in c i c.n history) ≡ []
    ends e none = elim (at (suc e)) [
      | inl also ↦ also
      | inr one ↦
          let among : Contains (lists_at (suc e) (own_in c i c.n history)) one.0 =
          subst (λ (lists : List (List Item)). Contains lists one.0) (sym one.1) (Contains-first one.0 []) in
          let before = follow.before e i one.0 correct (list_from (suc e) (own_in c i c.n history) one.0 among) in
          let some : Contains (lists_at e (own_in c i c.n history)) before.0 = list_has e (own_in c i c.n history) before.0 before.1 in
          let nothing : Contains [] before.0 = subst (λ (lists : List (List Item)). Contains lists before.0) none some in
          absurd (omega (arith, nothing.1))
    ]

-- where correct desks close an epoch with one list, and one epoch after the other
pub comparable_by : (c : Numbers) (history : List Post) → ClosingsAgree c history → ClosingsFollow c history → AreComparable c history
comparable_by c history agree follow i k correct also =
    chains_comparable (λ (e : ℕ). lists_at e (own_in c i c.n history)) (λ (e : ℕ). lists_at e (own_in c k c.n history)) 0 32
    (closed_chain c history i agree follow correct) (closed_chain c history k agree follow also) alike
  where
    first : (e m : ℕ) (x : List Item) → lists_at e (own_in c m c.n history) ≡ x ∷ [] → Contains (own_in c m c.n history) (Closed e x)
    first e m x is =
        list_from e (own_in c m c.n history) x (subst (λ (lists : List (List Item)). Contains lists x) (sym is) (Contains-first x []))

    alike : (e : ℕ) (x y : List Item) → lists_at e (own_in c i c.n history) ≡ x ∷ [] → lists_at e (own_in c k c.n history) ≡ y ∷ [] → x ≡ y
    alike e x y one other = agree.one e i k x y correct also (first e i x one) (first e k y other)

pub ledgers_comparable : (c : Numbers) (history : List Post) → AreSound c → IsLegal c history → NoCollision c history → AreComparable c history
ledgers_comparable c history sound legal premise =
    comparable_by c history (closings_agree c history sound legal premise) (closings_follow c history legal)

pub batches_enough : (c : Numbers) (history : List Post) → AreSound c → IsLegal c history → NoCollision c history → BatchesAreEnough c history
batches_enough c history sound legal premise i list correct stands =
    let closed = ledger_from c history i list stands in
    list_enough c history closed.0 i list sound legal premise correct (closing_backed c history i closed.0 list legal correct.honest closed.1)

pub items_unaltered : (c : Numbers) (history : List Post) → AreSound c → IsLegal c history → NoCollision c history → AreUnaltered c history
items_unaltered c history sound legal premise i e list item correct sender closed stands =
    item_unaltered c history e i list item sound legal premise correct sender (closing_backed c history i e list legal correct.honest closed) stands
