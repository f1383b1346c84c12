-- The theorems on observers.
use Rattle.std.proofs.Common.{◌≡◌, ℕ, ◌+◌, ◌-◌, ◌<◌, ◌≤◌, ◌&&◌, Bool, true, is_some, List, [], ◌∷◌, ◌++◌, length, Contains, Option, None, Some, refl, sym, ap, ◌∙◌, subst, arith, append_assoc}
use Rattle.std.specs.Option.{option_or}
use Rattle.std.proofs.lemmas.Bool.{and_parts}
use Rattle.std.proofs.lemmas.List.Elements.{Contains-append_left}
use Rattle.hb_base.specs.Counting.{count_nodes}
use Rattle.hb_base.specs.Numbers.{Numbers, AreSound}
use Rattle.hb_wire.specs.declared.items.Item.{Item}
use Rattle.hb_wire.specs.declared.vote.Vote.{Vote}
use Rattle.hb_wire.specs.declared.vote.Vote.TheVariants.{Closed}
use Rattle.hb_wire.specs.declared.post.Post.{Post}
use Rattle.hb_rules.specs.Claims.{is_any_closing}
use Rattle.hb_rules.specs.Hearing.{own_in, said_in}
use Rattle.hb_rules.specs.History.{IsLegal}
use Rattle.hb_rules.specs.Lanes.{is_correct}
use Rattle.hb_rules.specs.Ledger.{IsCorrect, ledger}
use Rattle.hb_rules.specs.Same.{same_vote}
use Rattle.hb_rules.specs.Strings.{NoCollision}
use Rattle.hb_rules.proofs.Among.{any_stands}
use Rattle.hb_rules.proofs.Cast.{cast_from, cast_stands}
use Rattle.hb_rules.proofs.Counts.{count_nodes-mono, member_from_count}
use Rattle.hb_rules.proofs.DeskVotes.{any_closing-is}
use Rattle.hb_rules.proofs.LaneVotes.{correct_is}
use Rattle.hb_rules.proofs.Said.{correct_said}
use Rattle.hb_rules.proofs.Lists.{Contains-first}
use Rattle.acs_world.specs.Agreed.{ClosingsAgree}
use Rattle.acs_world.proofs.Ledgers.{lists_at, list_from, ledger_has}
use Rattle.acs_world.proofs.Theorems.{closings_agree, closings_follow, closed_chain, batches_enough}
use Rattle.observer.specs.Agreeing.{AreTwoOfOne, AreOf, AgreesWithNodes, HasClosers, is_closer}
use Rattle.observer.specs.Observed.{has_claimed, claim_count, reached, first_reached, observed_list, observed}
use Rattle.observer.specs.Standing.{ObserverView, HasHeard, ledger_of}
use Rattle.observer.proofs.Chained.{two_observed, observed_chain, list_of_epoch, long_enough}
use Rattle.observer.proofs.Taken.{heard_ledger}
use Rattle.observer.proofs.Within.{closing_inside}
use Rattle.observer.proofs.Claimed.{claimed_cast, cast_claimed, reached_many, never_many}

-- ---- a correct node stands behind each list

-- what was cast by posts that were heard, was cast in the history
heard_cast : (c : Numbers) (history heard : List Post) (a : ℕ) (vote : Vote) → AreOf history heard → Contains (own_in c a c.n heard) vote
    → Contains (own_in c a c.n history) vote
heard_cast c history heard a vote of stands =
    let source = cast_from c a c.n heard vote stands in
    cast_stands c a c.n history source.0 vote (of source.0 source.1) source.2

-- a correct node's desk has closed the epoch with the list
pub record IsClosedBy (c : Numbers) (history : List Post) (e : ℕ) (list : List Item) : Type 0 where
  pub node : ℕ
  pub correct : IsCorrect c node
  pub cast : Contains (own_in c node c.n history) (Closed e list)

closed_by : (c : Numbers) (history heard : List Post) (e : ℕ) (list : List Item) → AreSound c → AreOf history heard
    → c.f + 1 ≤ claim_count c heard (e, list) → IsClosedBy c history e list
closed_by c history heard e list sound of many =
    let found = correct_said c c.n heard (λ (a : ℕ). same_vote (Closed e list)) sound many in
    record {
      node = found.0;
      correct = record { known = found.1.known; honest = found.1.correct };
      cast = heard_cast c history heard found.0 (Closed e list) of (claimed_cast c heard (e, list) found.0 found.1.said);
    }

first_closed : (c : Numbers) (history : List Post) (e : ℕ) (before posts : List Post) (list : List Item) → AreSound c
    → AreOf history (before ++ posts) → first_reached c e before posts ≡ Some list → IsClosedBy c history e list
first_closed c history e before [] list sound of some = absurd (cc (some))
first_closed c history e before (post ∷ posts) list sound of some =
    let of_all : AreOf history ((before ++ post ∷ []) ++ posts) =
    subst (λ (heard : List Post). AreOf history heard) (sym (append_assoc before (post ∷ []) posts)) of in
    by of_all (reached c (before ++ post ∷ []) e post) refl some (first_closed c history e (before ++ post ∷ []) posts list sound of_all)
  where
    by : AreOf history ((before ++ post ∷ []) ++ posts) → (o : Option (List Item)) → reached c (before ++ post ∷ []) e post ≡ o
        → option_or o (first_reached c e (before ++ post ∷ []) posts) ≡ Some list
        → (first_reached c e (before ++ post ∷ []) posts ≡ Some list → IsClosedBy c history e list) → IsClosedBy c history e list
    by of_all None none some later = later some
    by of_all (Some first) is some later =
        let same : first ≡ list = cc (some) in
        closed_by c history (before ++ post ∷ []) e list sound
        (λ p stands. of_all p (Contains-append_left (before ++ post ∷ []) posts p stands))
        (reached_many c (before ++ post ∷ []) e post list (is ∙ ap Some same))

pub observed_closed : (c : Numbers) (history heard : List Post) (e : ℕ) (list : List Item) → AreSound c → AreOf history heard
    → observed_list c heard e ≡ Some list → IsClosedBy c history e list
observed_closed c history heard e list sound of some = first_closed c history e [] heard list sound of some

-- ---- ledgers

pub agrees_with_nodes : (c : Numbers) (history heard : List Post) → AreSound c → IsLegal c history → NoCollision c history → AreOf history heard
    → AgreesWithNodes c history (observed c heard)
agrees_with_nodes c history heard sound legal premise of = record { nodes = nodes; enough = enough }
  where
    agree : ClosingsAgree c history
    agree = closings_agree c history sound legal premise

    alike : (i : ℕ) → IsCorrect c i → (e : ℕ) (x y : List Item) → observed_list c heard e ≡ Some x
        → lists_at e (own_in c i c.n history) ≡ y ∷ [] → x ≡ y
    alike i correct e x y one other =
        let closed = observed_closed c history heard e x sound of one in
        agree.one e closed.node i x y closed.correct correct closed.cast
        (list_from e (own_in c i c.n history) y (subst (λ (lists : List (List Item)). Contains lists y) (sym other) (Contains-first y [])))

    nodes : (i : ℕ) → IsCorrect c i → AreTwoOfOne (observed c heard) (ledger c history i)
    nodes i correct =
        observed_chain (observed_list c heard) (λ (e : ℕ). lists_at e (own_in c i c.n history)) 0 c.epochs 32
        (closed_chain c history i agree (closings_follow c history legal) correct) (alike i correct)

    enough : (list : List Item) → Contains (observed c heard) list → c.n - c.f ≤ length list
    enough list stands =
        let epoch = list_of_epoch (observed_list c heard) 0 c.epochs list stands in
        let closed = observed_closed c history heard epoch.0 list sound of epoch.2 in
        batches_enough c history sound legal premise closed.node list closed.correct (ledger_has c history closed.node epoch.0 list closed.cast)

-- an observer that has heard all this, as one with the same numbers before it knows
pub state_agrees : (old new : ObserverView) (heard history : List Post) → AreSound old.config → new.config ≡ old.config → HasHeard new heard
    → AreOf history heard → IsLegal old.config history → NoCollision old.config history → AgreesWithNodes old.config history (ledger_of new)
state_agrees old new heard history sound same has of legal premise =
    subst (AgreesWithNodes old.config history)
    (sym (heard_ledger new heard has ∙ ap (λ (c : Numbers). observed c heard) same))
    (agrees_with_nodes old.config history heard sound legal premise of)

pub observers_alike : (c : Numbers) (history heard others : List Post) → AreSound c → IsLegal c history → NoCollision c history
    → AreOf history heard → AreOf history others → AreTwoOfOne (observed c heard) (observed c others)
observers_alike c history heard others sound legal premise of also =
    two_observed (observed_list c heard) (observed_list c others) 0 c.epochs (λ e x y one other.
    let first = observed_closed c history heard e x sound of one in
    let second = observed_closed c history others e y sound also other in
    (closings_agree c history sound legal premise).one e first.node second.node x y first.correct second.correct first.cast second.cast)

-- ---- enough was heard

closed_some : (c : Numbers) (history heard : List Post) (d : ℕ) → AreSound c → IsLegal c history → NoCollision c history → AreOf history heard
    → d < c.epochs → c.f + 1 ≤ count_nodes c.n (λ (i : ℕ). is_correct c i && said_in c c.n heard i (is_any_closing d))
    → is_some (observed_list c heard d) ≡ true
closed_some c history heard d sound legal premise of inside many = by (observed_list c heard d) refl
  where
    closes : ℕ → Bool
    closes i = is_correct c i && said_in c c.n heard i (is_any_closing d)

    -- with which list
    listed : (i : ℕ) → closes i ≡ true → (list : List Item) × IsCorrect c i × Contains (own_in c i c.n heard) (Closed d list)
    listed i h =
        let parts = and_parts (is_correct c i) (said_in c c.n heard i (is_any_closing d)) h in
        let found = any_stands (is_any_closing d) (own_in c i c.n heard) parts.1 in
        let is = any_closing-is d found.0 found.2 in
        (is.0, correct_is c i parts.0, subst (λ (v : Vote). Contains (own_in c i c.n heard) v) is.1 found.1)

    some_node : (i : ℕ) × (i < c.n) × (closes i ≡ true)
    some_node = member_from_count c.n closes (omega (arith, many))

    list : List Item
    list = (listed some_node.0 some_node.2).0

    claims : (i : ℕ) → i < c.n → closes i ≡ true → has_claimed c heard (d, list) i ≡ true
    claims i known h =
        let first = listed some_node.0 some_node.2 in
        let other = listed i h in
        let same : other.0 ≡ list =
        (closings_agree c history sound legal premise).one d i some_node.0 other.0 list other.1 first.1
        (heard_cast c history heard i (Closed d other.0) of other.2) (heard_cast c history heard some_node.0 (Closed d list) of first.2) in
        cast_claimed c heard (d, list) i (subst (λ (l : List Item). Contains (own_in c i c.n heard) (Closed d l)) same other.2)

    by : (o : Option (List Item)) → observed_list c heard d ≡ o → is_some (observed_list c heard d) ≡ true
    by (Some x) is = ap is_some is
    by None none =
        absurd (never_many c d heard list inside none
        (omega (arith, many, count_nodes-mono c.n closes (has_claimed c heard (d, list)) claims)))

-- an epoch that correct nodes have closed by posts that were heard is one of the run
closed_inside : (c : Numbers) (history heard : List Post) (e : ℕ) → AreSound c → IsLegal c history → AreOf history heard
    → HasClosers c heard e → e < c.epochs
closed_inside c history heard e sound legal of closers =
    let some = member_from_count c.n (is_closer c heard e) (omega (arith, closers e (omega arith))) in
    let parts = and_parts (is_correct c some.0) (said_in c c.n heard some.0 (is_any_closing e)) some.2 in
    let found = any_stands (is_any_closing e) (own_in c some.0 c.n heard) parts.1 in
    let is = any_closing-is e found.0 found.2 in
    let cast : Contains (own_in c some.0 c.n heard) (Closed e is.0) =
    subst (λ (v : Vote). Contains (own_in c some.0 c.n heard) v) is.1 found.1 in
    closing_inside c history some.0 e is.0 sound legal (correct_is c some.0 parts.0).honest
    (heard_cast c history heard some.0 (Closed e is.0) of cast)

pub observed_complete : (c : Numbers) (history heard : List Post) (e : ℕ) → AreSound c → IsLegal c history → NoCollision c history
    → AreOf history heard → HasClosers c heard e → e < length (observed c heard)
observed_complete c history heard e sound legal premise of closers =
    let inside = closed_inside c history heard e sound legal of closers in
    long_enough (observed_list c heard) 0 c.epochs e inside (λ d below.
    let here : 0 + d ≡ d = omega arith in
    ap (λ (m : ℕ). is_some (observed_list c heard m)) here
    ∙ closed_some c history heard d sound legal premise of (omega (arith, below, inside)) (closers d below))
