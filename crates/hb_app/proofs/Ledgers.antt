-- Printed ledgers: where they stand in the text of a run, and what they have in common.
use Rattle.std.proofs.Common.{codes, ◌≡◌, ℕ, zero, suc, ◌+◌, ◌<◌, ◌⊎◌, true, inl, inr, map, List, [], ◌∷◌, ◌++◌, length, get_or, take, drop, Contains, refl, sym, ap, subst, ◌∙◌, arith, append_assoc}
use Rattle.std.specs.List.{list_any, flat_map, range_with_len}
use Rattle.std.proofs.lemmas.List.Elements.{Contains-append_left, Contains-append_right, Contains-append_cases}
use Rattle.std.proofs.lemmas.List.FromFn.{length-range_with_len}
use Rattle.hb_base.specs.Numbers.{Numbers, AreSound}
use Rattle.hb_wire.specs.declared.items.Item.{Item}
use Rattle.hb_wire.specs.declared.vote.Vote.{Vote}
use Rattle.hb_wire.specs.declared.vote.Vote.TheVariants.{Closed}
use Rattle.hb_wire.specs.declared.post.Post.{Post}
use Rattle.hb_rules.specs.declared.report.Report.{Report}
use Rattle.hb_rules.specs.Hearing.{own_in}
use Rattle.hb_rules.specs.History.{IsLegal}
use Rattle.hb_rules.specs.Ledger.{IsCorrect, IsPrefix}
use Rattle.hb_rules.specs.Claims.{is_any_closing}
use Rattle.hb_rules.specs.Report.{IsQuiet, submitted_at, cast_by}
use Rattle.hb_rules.specs.Strings.{NoCollision}
use Rattle.hb_rules.proofs.Among.{any_stands}
use Rattle.hb_rules.proofs.DeskVotes.{any_closing-is}
use Rattle.hb_rules.proofs.LaneVotes.{cast_low}
use Rattle.hb_rules.proofs.Lists.{Contains-first, Contains-later, Contains-cases}
use Rattle.hb_rules.proofs.Reports.{running_correct}
use Rattle.acs_world.specs.Agreed.{ClosingsAgree}
use Rattle.acs_world.specs.Closed.{Closure}
use Rattle.acs_world.specs.Closures.{closure_of, closures_of, closures}
use Rattle.acs_world.proofs.Ledgers.{lists_at, list_from, list_has, ledger_has, IsChain, none_behind, chains_comparable}
use Rattle.acs_world.proofs.Theorems.{closings_backed, closings_agree, closings_follow, closed_chain, batches_enough, items_unaltered}
use Rattle.ledger_text.specs.Lines.{numbers_line, epoch_line, end_line}
use Rattle.ledger_text.specs.Places.{in_lists}
use Rattle.ledger_text.specs.Text.{in_order, item_text, transactions_of, list_text, closed_transactions, lists_text, ledger_text, state_text, node_text, run_text}
use Rattle.ledger_text.proofs.Order.{order_split, each_split, range_at}
use Rattle.quiet_world.proofs.Closings.{each_closed}
use Rattle.quiet_world.proofs.Knowing.{knows}
use Rattle.quiet_world.proofs.Rests.{desk_of, heard_at_desk, desk_idle}
use Rattle.quiet_world.proofs.Within.{decided_within}
use Rattle.hb_app.specs.Ledgers.{nodes_of, HasLedgers, HasBatch, transactions_before, HasBatches, AgreeAsPrinted, HasEachPrinted}

-- ---- where the ledger of a node stands

node_is : (report : Report) (i : ℕ) → IsCorrect report.config i
    → node_text report i ≡ state_text report i ++ ledger_text report.config report.history.items i
unfolding node_text
node_is report i correct = rw correct.honest refl

-- five texts, of which the middle one has three parts
five_parts : (first before state ledger behind last : List ℕ)
    → first ++ ((before ++ ((state ++ ledger) ++ behind)) ++ last) ≡ (first ++ before) ++ (state ++ (ledger ++ (behind ++ last)))
five_parts first before state ledger behind last = simp append_assoc

pub has_ledgers : (report : Report) → HasLedgers report
unfolding run_text
has_ledgers report i correct =
    let f : ℕ → List ℕ = node_text report in
    let first : List ℕ = numbers_line (codes "run") report.config in
    let last : List ℕ = end_line report.status in
    let before : List ℕ = flat_map f (take i (nodes_of report)) in
    let behind : List ℕ = flat_map f (drop (i + 1) (nodes_of report)) in
    ap (λ (middle : List ℕ). first ++ (middle ++ last))
    (each_split f (nodes_of report) i i i (range_below report.config.n i correct.known) (range_at report.config.n i correct.known)
    ∙ ap (λ (node : List ℕ). before ++ (node ++ behind)) (node_is report i correct))
    ∙ five_parts first before (state_text report i) (ledger_text report.config report.history.items i) behind last
  where
    range_below : (n k : ℕ) → k < n → k < length (range_with_len 0 n)
    range_below n k below = omega (arith, below, length-range_with_len 0 n)

-- ---- where a batch stands

list_is : (before : List (List ℕ)) (closure : Closure)
    → list_text before closure ≡ epoch_line closure.0 (length closure.1) ++ in_order item_text transactions_of before closure.1
unfolding list_text
list_is before closure = refl

-- six texts, in two steps
six_parts : (front line inner batch rest back : List ℕ)
    → front ++ ((line ++ (inner ++ (batch ++ rest))) ++ back) ≡ (front ++ (line ++ inner)) ++ (batch ++ (rest ++ back))
six_parts front line inner batch rest back = simp append_assoc

batch_there : (lists : List Closure) (place index : ℕ) (closure : Closure) (item : Item) → place < length lists → closure ≡ get_or lists place closure
    → index < length closure.1 → item ≡ get_or closure.1 index item → HasBatch lists place closure index item
batch_there lists place index closure item inside is below one =
    let before : List (List ℕ) = in_lists lists place in
    let front : List ℕ = in_order list_text closed_transactions [] (take place lists) in
    let back : List ℕ = in_order list_text closed_transactions (before ++ closed_transactions closure) (drop (place + 1) lists) in
    let line : List ℕ = epoch_line closure.0 (length closure.1) in
    let inner : List ℕ = in_order item_text transactions_of before (take index closure.1) in
    let known : List (List ℕ) = transactions_before lists place closure index in
    let rest : List ℕ = in_order item_text transactions_of (known ++ transactions_of item) (drop (index + 1) closure.1) in
    record {
      behind = rest ++ back;
      is =
          order_split list_text closed_transactions [] lists place closure closure inside is
          ∙ ap (λ (text : List ℕ). front ++ (text ++ back))
          (list_is before closure ∙ ap (λ (text : List ℕ). line ++ text) (order_split item_text transactions_of before closure.1 index item item below one))
          ∙ six_parts front line inner (item_text known item) rest back;
    }

pub has_batches : (report : Report) → HasBatches report
has_batches report i place index closure item inside is below one =
    batch_there (closures report.config report.history.items i) place index closure item inside is below one

-- ---- texts of ledgers of which one begins with the other

order_begins : {X : Type 0} (text : List (List ℕ) → X → List ℕ) (transactions : X → List (List ℕ)) (before : List (List ℕ)) (xs ys : List X)
    → IsPrefix (in_order text transactions before xs) (in_order text transactions before (xs ++ ys))
order_begins text transactions before [] ys = record { rest = in_order text transactions before ys; is = refl }
order_begins text transactions before (x ∷ xs) ys =
    let later = order_begins text transactions (before ++ transactions x) xs ys in
    record {
      rest = later.rest;
      is =
          ap (λ (bytes : List ℕ). text before x ++ bytes) later.is
          ∙ sym (append_assoc (text before x) (in_order text transactions (before ++ transactions x) xs) later.rest);
    }

text_begins : (lists others : List Closure) → IsPrefix lists others → IsPrefix (lists_text lists) (lists_text others)
text_begins lists others prefix =
    let begins = order_begins list_text closed_transactions [] lists prefix.rest in
    record { rest = begins.rest; is = ap lists_text prefix.is ∙ begins.is }

-- ---- the lists of a correct node, with their epochs

closure_chain : (c : Numbers) (history : List Post) (i : ℕ) → IsChain (λ (e : ℕ). lists_at e (own_in c i c.n history)) → IsChain (closures_of c i history)
closure_chain c history i chain = record { at = at; ends = ends }
  where
    at : (e : ℕ) → (closures_of c i history e ≡ []) ⊎ ((x : Closure) × (closures_of c i history e ≡ x ∷ []))
    at e = elim (chain.at e) [
      | inl none ↦ inl (ap (map (closure_of e)) none)
      | inr one ↦ inr (closure_of e one.0, ap (map (closure_of e)) one.1)
    ]

    ends : (e : ℕ) → closures_of c i history e ≡ [] → closures_of c i history (suc e) ≡ []
    ends e none = elim (chain.at e) [
      | inl empty ↦ ap (map (closure_of (suc e))) (chain.ends e empty)
      | inr one ↦ absurd (cc (sym none ∙ ap (map (closure_of e)) one.1))
    ]

-- what a list with its epoch is of
from_map : {A B : Type 0} (f : A → B) (xs : List A) (y : B) → Contains (map f xs) y → (x : A) × Contains xs x × (f x ≡ y)
from_map f [] y stands = absurd (omega (arith, stands.1))
from_map {A} {B} f (x ∷ xs) y stands =
    Contains-cases (f x) (map f xs) y stands ((z : A) × Contains (x ∷ xs) z × (f z ≡ y))
    (λ is. (x, Contains-first x xs, is))
    (λ rest. let found = from_map f xs y rest in (found.0, Contains-later x xs found.0 found.1, found.2))

from_flat : {X : Type 0} (A : ℕ → List X) (s k : ℕ) (x : X) → Contains (flat_map A (range_with_len s k)) x → (e : ℕ) × Contains (A e) x
from_flat A s zero x stands = absurd (omega (arith, stands.1))
from_flat A s (suc k) x stands = elim (Contains-append_cases (A s) (flat_map A (range_with_len (s + 1) k)) x stands) [
  | inl now ↦ (s, now)
  | inr later ↦ from_flat A (s + 1) k x later
]

-- a printed list is one with which the desk closed the epoch
closed_with_it : (c : Numbers) (history : List Post) (i : ℕ) (closure : Closure) → Contains (closures c history i) closure
    → Contains (own_in c i c.n history) (Closed closure.0 closure.1)
closed_with_it c history i closure stands =
    let found = from_flat (closures_of c i history) 0 32 closure stands in
    let source = from_map (closure_of found.0) (lists_at found.0 (own_in c i c.n history)) closure found.1 in
    subst (λ (x : Closure). Contains (own_in c i c.n history) (Closed x.0 x.1)) source.2 (list_from found.0 (own_in c i c.n history) source.0 source.1)

closed_first : (c : Numbers) (history : List Post) (i e : ℕ) (x : Closure) → closures_of c i history e ≡ x ∷ []
    → (list : List Item) × Contains (own_in c i c.n history) (Closed e list) × (closure_of e list ≡ x)
closed_first c history i e x is =
    let source = from_map (closure_of e) (lists_at e (own_in c i c.n history)) x
    (subst (λ (xs : List Closure). Contains xs x) (sym is) (Contains-first x [])) in
    (source.0, list_from e (own_in c i c.n history) source.0 source.1, source.2)

-- ---- what printed ledgers have in common

-- a chain of lists, each at the place of its epoch, has the epochs one after the other
chain_epochs : (A : ℕ → List Closure) (s k : ℕ) → IsChain A → ((e : ℕ) (x : Closure) → A e ≡ x ∷ [] → x.0 ≡ e)
    → map (λ (x : Closure). x.0) (flat_map A (range_with_len s k)) ≡ range_with_len s (length (flat_map A (range_with_len s k)))
chain_epochs A s zero chain own = refl
chain_epochs A s (suc k) chain own = elim (chain.at s) [
  | inl none ↦
      let nothing : flat_map A (range_with_len s (suc k)) ≡ [] = none_behind A s (suc k) chain none in
      ap (map (λ (x : Closure). x.0)) nothing ∙ sym (ap (λ (xs : List Closure). range_with_len s (length xs)) nothing)
  | inr one ↦
      let rest : List Closure = flat_map A (range_with_len (s + 1) k) in
      let all : flat_map A (range_with_len s (suc k)) ≡ one.0 ∷ rest = ap (λ (here : List Closure). here ++ rest) one.1 in
      let epochs : map (λ (x : Closure). x.0) (one.0 ∷ rest) ≡ s ∷ range_with_len (s + 1) (length rest) =
      ap (λ (e : ℕ). e ∷ map (λ (x : Closure). x.0) rest) (own s one.0 one.1) ∙ ap (λ (es : List ℕ). s ∷ es) (chain_epochs A (s + 1) k chain own) in
      ap (map (λ (x : Closure). x.0)) all ∙ epochs ∙ sym (ap (λ (xs : List Closure). range_with_len s (length xs)) all)
]

node_chain : (c : Numbers) (history : List Post) (i : ℕ) → AreSound c → IsLegal c history → NoCollision c history → IsCorrect c i
    → IsChain (closures_of c i history)
node_chain c history i sound legal premise correct =
    closure_chain c history i (closed_chain c history i (closings_agree c history sound legal premise) (closings_follow c history legal) correct)

closures_comparable : (c : Numbers) (history : List Post) (i k : ℕ) → AreSound c → IsLegal c history → NoCollision c history → IsCorrect c i → IsCorrect c k
    → IsPrefix (closures c history i) (closures c history k) ⊎ IsPrefix (closures c history k) (closures c history i)
closures_comparable c history i k sound legal premise correct also =
    chains_comparable (closures_of c i history) (closures_of c k history) 0 32
    (node_chain c history i sound legal premise correct) (node_chain c history k sound legal premise also) alike
  where
    agree : ClosingsAgree c history
    agree = closings_agree c history sound legal premise

    alike : (e : ℕ) (x y : Closure) → closures_of c i history e ≡ x ∷ [] → closures_of c k history e ≡ y ∷ [] → x ≡ y
    alike e x y one other =
        let first = closed_first c history i e x one in
        let second = closed_first c history k e y other in
        sym first.2 ∙ ap (closure_of e) (agree.one e i k first.0 second.0 correct also first.1 second.1) ∙ second.2

pub agree_as_printed : (c : Numbers) (history : List Post) → AreSound c → IsLegal c history → NoCollision c history → AgreeAsPrinted c history
agree_as_printed c history sound legal premise = record {
  one = λ i k correct also. elim (closures_comparable c history i k sound legal premise correct also) [
    | inl front ↦ inl (text_begins (closures c history i) (closures c history k) front)
    | inr behind ↦ inr (text_begins (closures c history k) (closures c history i) behind)
  ];
  epochs = λ i correct.
      chain_epochs (closures_of c i history) 0 32 (node_chain c history i sound legal premise correct)
      (λ e x is. let first = closed_first c history i e x is in ap (λ (y : Closure). y.0) (sym first.2));
  enough = λ i closure correct stands.
      batches_enough c history sound legal premise i closure.1 correct
      (ledger_has c history i closure.0 closure.1 (closed_with_it c history i closure stands));
  nodes = λ i closure correct stands.
      let backed = (closings_backed c history legal).backed i closure.0 closure.1 correct (closed_with_it c history i closure stands) in
      (backed.bits, backed.lanes);
  unaltered = λ i closure item correct sender stands among.
      items_unaltered c history sound legal premise i closure.0 closure.1 item correct sender (closed_with_it c history i closure stands) among;
}

-- ---- the epochs that a running node has completed

into_map : {A B : Type 0} (f : A → B) (xs : List A) (x : A) → Contains xs x → Contains (map f xs) (f x)
into_map f [] x stands = absurd (omega (arith, stands.1))
into_map {A} {B} f (y ∷ ys) x stands =
    Contains-cases y ys x stands (Contains (f y ∷ map f ys) (f x))
    (λ is. subst (λ (z : A). Contains (f y ∷ map f ys) (f z)) is (Contains-first (f y) (map f ys)))
    (λ rest. Contains-later (f y) (map f ys) (f x) (into_map f ys x rest))

into_flat : {X : Type 0} (A : ℕ → List X) (s k m : ℕ) (x : X) → m < k → Contains (A (s + m)) x → Contains (flat_map A (range_with_len s k)) x
into_flat A s zero m x below stands = absurd (omega arith)
into_flat {X} A s (suc k) zero x below stands =
    let e : s + 0 ≡ s = omega arith in
    Contains-append_left (A s) (flat_map A (range_with_len (s + 1) k)) x (subst (λ (d : ℕ). Contains (A d) x) e stands)
into_flat {X} A s (suc k) (suc m) x below stands =
    let e : s + suc m ≡ s + 1 + m = omega arith in
    Contains-append_right (A s) (flat_map A (range_with_len (s + 1) k)) x
    (into_flat A (s + 1) k m x (omega arith) (subst (λ (d : ℕ). Contains (A d) x) e stands))

-- a list with which the desk closed an epoch is printed
closure_there : (c : Numbers) (history : List Post) (i e : ℕ) (list : List Item) → Contains (own_in c i c.n history) (Closed e list)
    → Contains (closures c history i) (closure_of e list)
closure_there c history i e list stands =
    let low : e < 32 = cast_low c history i c.n (Closed e list) stands in
    let same : e ≡ 0 + e = omega arith in
    into_flat (closures_of c i history) 0 32 e (closure_of e list) low
    (subst (λ (d : ℕ). Contains (closures_of c i history d) (closure_of e list)) same
    (into_map (closure_of e) (lists_at e (own_in c i c.n history)) list (list_has e (own_in c i c.n history) list stands)))

closed_list : (own : List Vote) (e : ℕ) → list_any (is_any_closing e) own ≡ true → (list : List Item) × Contains own (Closed e list)
closed_list own e closed =
    let found = any_stands (is_any_closing e) own closed in
    let is = any_closing-is e found.0 found.2 in
    (is.0, subst (λ (v : Vote). Contains own v) is.1 found.1)

pub each_printed : (report : Report) → IsLegal report.config report.history.items → IsQuiet report → HasEachPrinted report
each_printed report legal quiet i e d runs complete few =
    let own : List Vote = cast_by report i report.config.n in
    let correct = running_correct report i runs in
    let desk = desk_of report i runs in
    let below : e < report.config.epochs =
    decided_within report.config i 0 e report.history.items legal correct.honest (omega (arith, correct.known))
    (complete e 0 (omega arith) (omega (arith, correct.known))).decided in
    let closed : list_any (is_any_closing d) own ≡ true =
    each_closed report.config (submitted_at report.script i) own (heard_at_desk report i desk) (desk_idle report i quiet desk) d (omega (arith, few, below))
    (λ k j low lane. knows report i k j legal quiet runs desk (omega (arith, low, few, below)) lane (complete k j (omega (arith, low, few)) lane)) in
    let list = closed_list own d closed in
    (list.0, closure_there report.config report.history.items i d list.0 list.1)
