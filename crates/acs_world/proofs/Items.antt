-- Items of closed lists, and the proposals of their nodes' desks.
use Rattle.std.proofs.Common.{◌≡◌, ℕ, ◌==◌, ◌||◌, not, Bool, true, false, inl, inr, List, Contains, Option, None, Some, if◌then◌else◌, refl, sym, ap, ◌∙◌}
use Rattle.std.specs.List.{list_any, list_all}
use Rattle.std.specs.Option.{option_and_then}
use Rattle.std.specs.Cmp.Lexicographic.{bytes_decides}
use Rattle.std.proofs.lemmas.Bool.{both_ways, cases_Bool, eq-eqb, or_cases, or_left, or_right, not-true, not_from_false, eqb-true}
use Rattle.std.proofs.lemmas.Option.{option_and_then_some}
use Rattle.hb_base.specs.Numbers.{Numbers}
use Rattle.hb_wire.specs.declared.items.Item.{Item}
use Rattle.hb_wire.specs.Lists.{item as item_of}
use Rattle.hb_wire.specs.declared.vote.Vote.{Vote}
use Rattle.hb_wire.specs.declared.vote.Vote.TheVariants.{Propose}
use Rattle.hb_wire.specs.declared.post.Post.{Post}
use Rattle.hb_rules.specs.Claims.{are_these, proposed}
use Rattle.hb_rules.specs.Hearing.{vote_by, own_in}
use Rattle.hb_rules.specs.Lanes.{is_correct}
use Rattle.hb_rules.specs.Ledger.{IsCorrect, AreUnaltered}
use Rattle.hb_rules.proofs.Among.{any_stands}
use Rattle.hb_rules.proofs.LaneVotes.{correct_is, correct_from}
use Rattle.hb_rules.proofs.Lists.{list_any-from, source_of, Contains-filter_map}
use Rattle.acs_world.specs.Closed.{Closure, closing_by, proposes, is_own, is_unaltered}
use Rattle.acs_world.proofs.Exact.{each_passes, all_pass}
use Rattle.acs_world.proofs.Reading.{closing_cast, cast_closing}

proposal_is : (e : ℕ) (vote : Vote) (value : List ℕ) → proposed e vote ≡ Some value → vote ≡ Propose e value
proposal_is e (Propose d bytes) value h = by (d == e) refl h
  where
    by : (t : Bool) → (d == e) ≡ t → (if t then Some bytes else None) ≡ Some value → Propose d bytes ≡ Propose e value
    by true same h =
        let epoch : d ≡ e = eqb-true d e same in
        let values : bytes ≡ value = cc (h) in
        cc (epoch, values)
    by false other h = absurd (cc (h))
proposal_is e vote value h = absurd (cc (h))

these_are : (value : List ℕ) (o : Option (List ℕ)) → are_these value o ≡ true → o ≡ Some value
these_are value None h = absurd (cc (h))
these_are value (Some other) h = ap (λ (v : List ℕ). Some v) (sym ((bytes_decides value other).0 h))

-- what a post of a desk proposes, the desk has cast
proposed_cast : (c : Numbers) (posts : List Post) (node e : ℕ) (value : List ℕ) → list_any (proposes c node e value) posts ≡ true
    → Contains (own_in c node c.n posts) (Propose e value)
proposed_cast c posts node e value h =
    let found = any_stands (proposes c node e value) posts h in
    let is : option_and_then (proposed e) (vote_by c node c.n found.0) ≡ Some value =
    these_are value (option_and_then (proposed e) (vote_by c node c.n found.0)) found.2 in
    option_and_then_some (proposed e) (vote_by c node c.n found.0) value is (λ vote by_desk gives.
    Contains-filter_map (vote_by c node c.n) posts found.0 (Propose e value) found.1
    (by_desk ∙ ap (λ (v : Vote). Some v) (proposal_is e vote value gives)))

-- and the converse
cast_proposed : (c : Numbers) (posts : List Post) (node e : ℕ) (value : List ℕ) → Contains (own_in c node c.n posts) (Propose e value)
    → list_any (proposes c node e value) posts ≡ true
cast_proposed c posts node e value stands =
    let source = source_of (vote_by c node c.n) posts (Propose e value) stands in
    let here : (e == e) ≡ true = eq-eqb e e refl in
    let gives : proposed e (Propose e value) ≡ Some value = rw here refl in
    let is : option_and_then (proposed e) (vote_by c node c.n source.element) ≡ Some value =
    ap (λ (o : Option Vote). option_and_then (proposed e) o) source.gives ∙ gives in
    list_any-from (proposes c node e value) posts source.element source.stands (ap (are_these value) is ∙ (bytes_decides value value).1 refl)

-- an item of a node that lies
pub own_liar : (c : Numbers) (posts : List Post) (e node : ℕ) (value : List ℕ) (x : Item) → x ≡ item_of node value → is_correct c node ≡ false
    → true ≡ is_own c posts e x
own_liar c posts e node value x is lies =
    sym (ap (is_own c posts e) is ∙ or_left (not (is_correct c node)) (list_any (proposes c node e value) posts) (not_from_false (is_correct c node) lies))

-- of another
pub own_correct : (c : Numbers) (posts : List Post) (e node : ℕ) (value : List ℕ) (x : Item) (b : Bool) → x ≡ item_of node value
    → is_correct c node ≡ true → b ≡ list_any (proposes c node e value) posts → b ≡ is_own c posts e x
own_correct c posts e node value x b is right cast =
    sym (ap (is_own c posts e) is ∙ ap (λ (a : Bool). not a || list_any (proposes c node e value) posts) right ∙ sym cast)

own_from : (c : Numbers) (posts : List Post) (e : ℕ) (item : Item) → is_own c posts e item ≡ true → IsCorrect c item.node
    → Contains (own_in c item.node c.n posts) (Propose e item.value)
own_from c posts e item h correct =
    let any = list_any (proposes c item.node e item.value) posts in
    elim (or_cases (not (is_correct c item.node)) any h) [
      | inl lies ↦ absurd (both_ways (is_correct c item.node) (not-true (is_correct c item.node) lies) (correct_from c item.node correct))
      | inr cast ↦ proposed_cast c posts item.node e item.value cast
    ]

own_by : (c : Numbers) (posts : List Post) (e : ℕ) (item : Item)
    → (IsCorrect c item.node → Contains (own_in c item.node c.n posts) (Propose e item.value)) → is_own c posts e item ≡ true
own_by c posts e item cast =
    let any = list_any (proposes c item.node e item.value) posts in
    elim (cases_Bool (is_correct c item.node)) [
      | inl right ↦
          or_right (not (is_correct c item.node)) any (cast_proposed c posts item.node e item.value (cast (correct_is c item.node right)))
      | inr lies ↦ or_left (not (is_correct c item.node)) any (not_from_false (is_correct c item.node) lies)
    ]

abbrev unaltered_at : Numbers → List Post → Post → Bool
unaltered_at c posts post = is_unaltered c posts (closing_by c post)

pub unaltered_from : (c : Numbers) (posts : List Post)
    → list_all (λ (post : Post). is_unaltered c posts (closing_by c post)) posts ≡ true → AreUnaltered c posts
unaltered_from c posts all i e list item correct sender closed stands =
    let posted = cast_closing c posts i e list correct closed in
    let passes : unaltered_at c posts posted.post ≡ true = each_passes (unaltered_at c posts) posts posted.post all posted.stands in
    let each : list_all (is_own c posts e) list ≡ true =
    ap (λ (o : Option Closure). is_unaltered c posts o) (sym posted.closes) ∙ passes in
    own_from c posts e item (each_passes (is_own c posts e) list item each stands) sender

unaltered_by : (c : Numbers) (posts : List Post) (o : Option Closure)
    → ((closure : Closure) → o ≡ Some closure → list_all (is_own c posts closure.0) closure.1 ≡ true) → is_unaltered c posts o ≡ true
unaltered_by c posts None each = refl
unaltered_by c posts (Some closure) each = each closure refl

pub unaltered_all : (c : Numbers) (posts : List Post) → AreUnaltered c posts
    → list_all (λ (post : Post). is_unaltered c posts (closing_by c post)) posts ≡ true
unaltered_all c posts unaltered =
    all_pass (unaltered_at c posts) posts (λ post stands. unaltered_by c posts (closing_by c post) (λ closure closes.
    let cast = closing_cast c posts post closure stands closes in
    all_pass (is_own c posts closure.0) closure.1 (λ item among. own_by c posts closure.0 item (λ sender.
    unaltered post.from closure.0 closure.1 item cast.correct sender cast.cast among))))
