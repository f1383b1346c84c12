-- Ledgers: what stands in them, and that one of two begins with the other.
use Rattle.std.proofs.Common.{◌≡◌, ℕ, zero, suc, ◌+◌, ◌<◌, ◌≤◌, ◌⊎◌, Bool, true, false, inl, inr, List, [], ◌∷◌, ◌++◌, length, take, Contains, Option, None, Some, refl, sym, ap, ◌∙◌, subst, arith, append_assoc, append-nil}
use Rattle.std.specs.List.{list_any, filter_map, flat_map, range_with_len, cons_option, fold}
use Rattle.std.proofs.lemmas.List.{take-append-le}
use Rattle.std.proofs.lemmas.List.Elements.{Contains-append_left, Contains-append_right, Contains-append_cases, Contains-push, filter_map-append}
use Rattle.std.proofs.lemmas.Bool.{false_from_ne_true}
use Rattle.hb_base.specs.Numbers.{Numbers}
use Rattle.hb_wire.specs.declared.items.Item.{Item}
use Rattle.hb_wire.specs.declared.vote.Vote.{Vote}
use Rattle.hb_wire.specs.declared.vote.Vote.TheVariants.{Closed}
use Rattle.hb_wire.specs.declared.post.Post.{Post}
use Rattle.hb_wire.proofs.Equality.{one_vote}
use Rattle.hb_rules.specs.Claims.{closed_with}
use Rattle.hb_rules.specs.Hearing.{own_in}
use Rattle.hb_rules.specs.Ledger.{ledger, IsPrefix}
use Rattle.hb_rules.specs.Same.{same_vote, with_vote, firsts}
use Rattle.hb_rules.proofs.Among.{any_stands}
use Rattle.hb_rules.proofs.Firsts.{with_keeps, with_has, firsts_have, firsts_from}
use Rattle.hb_rules.proofs.LaneVotes.{cast_low}
use Rattle.hb_rules.proofs.Lists.{source_of, Contains-filter_map, Contains-later, list_any-from}
use Rattle.hb_rules.proofs.DeskVotes.{closing-is, closing-gives}

-- ---- the lists of one epoch

-- the lists with which votes close an epoch, each at its first place
abbrev pub lists_at : ℕ → List Vote → List (List Item)
lists_at e own = filter_map (closed_with e) (firsts own)

pub list_from : (e : ℕ) (own : List Vote) (list : List Item) → Contains (lists_at e own) list → Contains own (Closed e list)
list_from e own list stands =
    let source = source_of (closed_with e) (firsts own) list stands in
    let is : source.element ≡ Closed e list = closing-is e source.element list source.gives in
    elim (firsts_from own [] (Closed e list) (subst (λ (v : Vote). Contains (firsts own) v) is source.stands)) [
      | inl none ↦ absurd (omega (arith, none.1))
      | inr among ↦ among
    ]

pub list_has : (e : ℕ) (own : List Vote) (list : List Item) → Contains own (Closed e list) → Contains (lists_at e own) list
list_has e own list stands =
    Contains-filter_map (closed_with e) (firsts own) (Closed e list) list (firsts_have own [] (Closed e list) stands) (closing-gives e list)

pub closing_added : (e : ℕ) (before : List Vote) (v : Vote) → list_any (same_vote v) before ≡ false
    → filter_map (closed_with e) (with_vote before v) ≡ filter_map (closed_with e) before ++ cons_option (closed_with e v) []
closing_added e before v new = rw new (filter_map-append (closed_with e) before (v ∷ []))

pub closing_known : (e : ℕ) (before : List Vote) (v : Vote) → list_any (same_vote v) before ≡ true
    → filter_map (closed_with e) (with_vote before v) ≡ filter_map (closed_with e) before
closing_known e before v known = rw known refl

-- a vote that closes no epoch e adds no list
no_closing : (e : ℕ) (before : List Vote) (v : Vote) → closed_with e v ≡ None
    → filter_map (closed_with e) (with_vote before v) ≡ filter_map (closed_with e) before
no_closing e before v none = by (list_any (same_vote v) before) refl
  where
    by : (b : Bool) → list_any (same_vote v) before ≡ b → filter_map (closed_with e) (with_vote before v) ≡ filter_map (closed_with e) before
    by true known = closing_known e before v known
    by false new =
        closing_added e before v new ∙ ap (λ (o : Option (List Item)). filter_map (closed_with e) before ++ cons_option o []) none
        ∙ append-nil (filter_map (closed_with e) before)

-- where all votes that close the epoch are one
record AreOneClosing (e : ℕ) (votes : List Vote) : Type 0 where
  one : (list other : List Item) → Contains votes (Closed e list) → Contains votes (Closed e other) → list ≡ other

record IsOnlyClosing (e : ℕ) (list : List Item) (votes : List Vote) : Type 0 where
  only : (other : List Item) → Contains votes (Closed e other) → Closed e other ≡ Closed e list

AreOneClosing-rest : (e : ℕ) (v : Vote) (votes : List Vote) → AreOneClosing e (v ∷ votes) → AreOneClosing e votes
AreOneClosing-rest e v votes one = record {
  one = λ list other first second.
      one.one list other (Contains-later v votes (Closed e list) first) (Contains-later v votes (Closed e other) second);
}

IsOnlyClosing-rest : (e : ℕ) (list : List Item) (v : Vote) (votes : List Vote) → IsOnlyClosing e list (v ∷ votes) → IsOnlyClosing e list votes
IsOnlyClosing-rest e list v votes only = record { only = λ other stands. only.only other (Contains-later v votes (Closed e other) stands) }

here : (v : Vote) (votes : List Vote) → Contains (v ∷ votes) v
here v votes = Contains-append_left (v ∷ []) votes v (Contains-push [] v)

-- once the one list is there, no other comes
list_stays : (e : ℕ) (list : List Item) (votes before : List Vote) → Contains before (Closed e list)
    → filter_map (closed_with e) before ≡ list ∷ [] → IsOnlyClosing e list votes
    → filter_map (closed_with e) (fold with_vote before votes) ≡ list ∷ []
list_stays e list [] before stands is only = is
list_stays e list (v ∷ votes) before stands is only =
    list_stays e list votes (with_vote before v) (with_keeps before v (Closed e list) stands) (by (closed_with e v) refl ∙ is)
    (IsOnlyClosing-rest e list v votes only)
  where
    by : (o : Option (List Item)) → closed_with e v ≡ o → filter_map (closed_with e) (with_vote before v) ≡ filter_map (closed_with e) before
    by None none = no_closing e before v none
    by (Some other) gives =
        let other_is : v ≡ Closed e other = closing-is e v other gives in
        let same : v ≡ Closed e list =
        other_is ∙ only.only other (subst (λ (x : Vote). Contains (v ∷ votes) x) other_is (here v votes)) in
        closing_known e before v (list_any-from (same_vote v) before (Closed e list) stands ((one_vote v (Closed e list)).1 same))

-- no list, or one
abbrev pub HasOneList : ℕ → List Vote → List (List Item) → Type 0
HasOneList e votes lists = (lists ≡ []) ⊎ ((list : List Item) × Contains votes (Closed e list) × (lists ≡ list ∷ []))

one_more : (e : ℕ) (v : Vote) (votes : List Vote) (lists : List (List Item)) → HasOneList e votes lists → HasOneList e (v ∷ votes) lists
one_more e v votes lists (inl none) = inl none
one_more e v votes lists (inr one) = inr (one.0, Contains-later v votes (Closed e one.0) one.1, one.2)

none_or_one : (e : ℕ) (votes before : List Vote) → filter_map (closed_with e) before ≡ [] → AreOneClosing e votes
    → HasOneList e votes (filter_map (closed_with e) (fold with_vote before votes))
none_or_one e [] before none one = inl none
none_or_one e (v ∷ votes) before none one =
    by (closed_with e v) refl (none_or_one e votes (with_vote before v))
  where
    by : (o : Option (List Item)) → closed_with e v ≡ o
        → (filter_map (closed_with e) (with_vote before v) ≡ [] → AreOneClosing e votes
        → HasOneList e votes (filter_map (closed_with e) (fold with_vote (with_vote before v) votes)))
        → HasOneList e (v ∷ votes) (filter_map (closed_with e) (fold with_vote (with_vote before v) votes))
    by None misses later =
        one_more e v votes (filter_map (closed_with e) (fold with_vote (with_vote before v) votes))
        (later (no_closing e before v misses ∙ none) (AreOneClosing-rest e v votes one))
    by (Some list) gives later =
        let is : v ≡ Closed e list = closing-is e v list gives in
        let first : Contains (v ∷ votes) (Closed e list) = subst (λ (x : Vote). Contains (v ∷ votes) x) is (here v votes) in
        let new : list_any (same_vote v) before ≡ false =
        false_from_ne_true (list_any (same_vote v) before) (λ among.
        let found = any_stands (same_vote v) before among in
        let same : v ≡ found.0 = (one_vote v found.0).0 found.2 in
        let some : Contains (filter_map (closed_with e) before) list =
        Contains-filter_map (closed_with e) before found.0 list found.1 (ap (closed_with e) (sym same) ∙ gives) in
        let nothing : Contains [] list = subst (λ (lists : List (List Item)). Contains lists list) none some in
        absurd (omega (arith, nothing.1))) in
        let added : filter_map (closed_with e) (with_vote before v) ≡ list ∷ [] =
        closing_added e before v new ∙ ap (λ (lists : List (List Item)). lists ++ cons_option (closed_with e v) []) none
        ∙ ap (λ (o : Option (List Item)). cons_option o []) gives in
        let there : Contains (with_vote before v) (Closed e list) =
        subst (λ (x : Vote). Contains (with_vote before v) x) is (with_has before v) in
        inr (
          list,
          first,
          list_stays e list votes (with_vote before v) there added
              (record { only = λ other stands. ap (λ (l : List Item). Closed e l) (one.one other list (Contains-later v votes (Closed e other) stands) first) }),
        )

pub one_list_at : (e : ℕ) (own : List Vote)
    → ((list other : List Item) → Contains own (Closed e list) → Contains own (Closed e other) → list ≡ other) → HasOneList e own (lists_at e own)
one_list_at e own one = none_or_one e own [] refl (record { one = one })

-- ---- the lists of all epochs

flat_from : {X : Type 0} (A : ℕ → List X) (s k : ℕ) (x : X) → Contains (flat_map A (range_with_len s k)) x → (e : ℕ) × Contains (A e) x
flat_from A s zero x stands = absurd (omega (arith, stands.1))
flat_from A s (suc k) x stands = elim (Contains-append_cases (A s) (flat_map A (range_with_len (s + 1) k)) x stands) [
  | inl now ↦ (s, now)
  | inr later ↦ flat_from A (s + 1) k x later
]

flat_has : {X : Type 0} (A : ℕ → List X) (s k m : ℕ) (x : X) → m < k → Contains (A (s + m)) x → Contains (flat_map A (range_with_len s k)) x
flat_has A s zero m x below stands = absurd (omega arith)
flat_has {X} A s (suc k) zero x below stands =
    let e : s + 0 ≡ s = omega arith in
    Contains-append_left (A s) (flat_map A (range_with_len (s + 1) k)) x (subst (λ (d : ℕ). Contains (A d) x) e stands)
flat_has {X} A s (suc k) (suc m) x below stands =
    let e : s + suc m ≡ s + 1 + m = omega arith in
    Contains-append_right (A s) (flat_map A (range_with_len (s + 1) k)) x
    (flat_has A (s + 1) k m x (omega arith) (subst (λ (d : ℕ). Contains (A d) x) e stands))

-- a list of a ledger is one with which the desk closed an epoch
pub ledger_from : (c : Numbers) (history : List Post) (i : ℕ) (list : List Item) → Contains (ledger c history i) list
    → (e : ℕ) × Contains (own_in c i c.n history) (Closed e list)
ledger_from c history i list stands =
    let found = flat_from (λ (e : ℕ). lists_at e (own_in c i c.n history)) 0 32 list stands in
    (found.0, list_from found.0 (own_in c i c.n history) list found.1)

-- and the converse
pub ledger_has : (c : Numbers) (history : List Post) (i e : ℕ) (list : List Item) → Contains (own_in c i c.n history) (Closed e list)
    → Contains (ledger c history i) list
ledger_has c history i e list stands =
    let low : e < 32 = cast_low c history i c.n (Closed e list) stands in
    let same : e ≡ 0 + e = omega arith in
    flat_has (λ (d : ℕ). lists_at d (own_in c i c.n history)) 0 32 e list low
    (subst (λ (d : ℕ). Contains (lists_at d (own_in c i c.n history)) list) same (list_has e (own_in c i c.n history) list stands))

-- ---- chains: at each place one element or none, and none behind an empty place

pub record IsChain {X : Type 0} (A : ℕ → List X) : Type 0 where
  pub at : (e : ℕ) → (A e ≡ []) ⊎ ((x : X) × (A e ≡ x ∷ []))
  pub ends : (e : ℕ) → A e ≡ [] → A (suc e) ≡ []

pub none_behind : {X : Type 0} (A : ℕ → List X) (s k : ℕ) → IsChain A → A s ≡ [] → flat_map A (range_with_len s k) ≡ []
none_behind A s zero chain none = refl
none_behind {X} A s (suc k) chain none =
    let next : suc s ≡ s + 1 = omega arith in
    let also : A (s + 1) ≡ [] = subst (λ (d : ℕ). A d ≡ []) next (chain.ends s none) in
    rw none (none_behind A (s + 1) k chain also)

prefix_of_none : {X : Type 0} (xs ys : List X) → xs ≡ [] → IsPrefix xs ys
prefix_of_none xs ys none = record { rest = ys; is = ap (λ (zs : List _). zs ++ ys) (sym none) }

prefix_behind : {X : Type 0} (here there xs ys : List X) → here ≡ there → IsPrefix xs ys → IsPrefix (here ++ xs) (there ++ ys)
prefix_behind here there xs ys same prefix = record {
  rest = prefix.rest;
  is = rw same (ap (λ (zs : List _). there ++ zs) prefix.is ∙ sym (append_assoc there xs prefix.rest));
}

-- where two chains are alike as far as both go, one begins with the other
pub chains_comparable : {X : Type 0} (A B : ℕ → List X) (s k : ℕ) → IsChain A → IsChain B
    → ((e : ℕ) (x y : X) → A e ≡ x ∷ [] → B e ≡ y ∷ [] → x ≡ y)
    → IsPrefix (flat_map A (range_with_len s k)) (flat_map B (range_with_len s k))
    ⊎ IsPrefix (flat_map B (range_with_len s k)) (flat_map A (range_with_len s k))
chains_comparable A B s zero one other alike = inl (prefix_of_none [] [] refl)
chains_comparable {X} A B s (suc k) one other alike = elim (one.at s) [
  | inl none ↦
      inl (prefix_of_none (flat_map A (range_with_len s (suc k))) (flat_map B (range_with_len s (suc k))) (none_behind A s (suc k) one none))
  | inr first ↦ elim (other.at s) [
    | inl none ↦
        inr (prefix_of_none (flat_map B (range_with_len s (suc k))) (flat_map A (range_with_len s (suc k))) (none_behind B s (suc k) other none))
    | inr second ↦
        let same : A s ≡ B s = first.1 ∙ ap (λ (x : X). x ∷ []) (alike s first.0 second.0 first.1 second.1) ∙ sym second.1 in
        elim (chains_comparable A B (s + 1) k one other alike) [
          | inl before ↦
              inl (prefix_behind (A s) (B s) (flat_map A (range_with_len (s + 1) k)) (flat_map B (range_with_len (s + 1) k)) same before)
          | inr behind ↦
              inr (prefix_behind (B s) (A s) (flat_map B (range_with_len (s + 1) k)) (flat_map A (range_with_len (s + 1) k)) (sym same) behind)
        ]
  ]
]

-- up to a number of elements that both have
pub prefix_take : {X : Type 0} (xs ys : List X) (m : ℕ) → m ≤ length xs → IsPrefix xs ys → take m xs ≡ take m ys
prefix_take {X} xs ys m few prefix = sym (ap (λ (zs : List X). take m zs) prefix.is ∙ take-append-le m xs prefix.rest few)
