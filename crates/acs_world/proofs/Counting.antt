-- How many lists a ledger has: the votes of its desk that close an epoch, each at its first place.
use Rattle.std.proofs.Common.{◌≡◌, ℕ, zero, suc, ◌+◌, ◌<◌, ◌≤◌, ◌==◌, ◌&&◌, not, bytes_eq, Bool, true, false, inl, inr, List, [], ◌∷◌, ◌++◌, length, take, slice_index_or, Contains, Option, None, Some, if◌then◌else◌, refl, sym, ap, ◌∙◌, arith, append-nil}
use Rattle.std.specs.Option.{option_and_then, is_some}
use Rattle.std.specs.List.{list_any, filter_map, flat_map, range_with_len, cons_option}
use Rattle.std.specs.Cmp.Lexicographic.{bytes_decides}
use Rattle.std.proofs.lemmas.Bool.{cases_lt, both_ways, false_from_ne_true, and_parts, and_from, eqb-true, eq-eqb}
use Rattle.std.proofs.lemmas.List.{length-append, take_more}
use Rattle.std.proofs.lemmas.List.Sums.{fold-append}
use Rattle.std.proofs.lemmas.List.Elements.{filter_map-append}
use Rattle.hb_base.specs.Numbers.{Numbers}
use Rattle.hb_wire.specs.declared.items.Item.{Item}
use Rattle.hb_wire.specs.declared.vote.Vote.{Vote}
use Rattle.hb_wire.specs.declared.vote.Vote.TheVariants.{Closed}
use Rattle.hb_wire.specs.declared.post.Post.{Post}
use Rattle.hb_wire.specs.Votes.{epoch_of, spelling, Spells}
use Rattle.hb_wire.specs.Reading.{vote_at}
use Rattle.hb_wire.proofs.Equality.{one_vote}
use Rattle.hb_wire.proofs.VoteLemmas.{vote_takes}
use Rattle.hb_rules.specs.Claims.{closed_with}
use Rattle.hb_rules.specs.Hearing.{spelled, is_by, vote_by, own_in}
use Rattle.hb_rules.specs.Ledger.{ledger}
use Rattle.hb_rules.specs.Same.{same_vote, with_vote, firsts}
use Rattle.hb_rules.proofs.Among.{any_stands}
use Rattle.hb_rules.proofs.Cast.{cast_from, cast_stands}
use Rattle.hb_rules.proofs.Lists.{list_any-from}
use Rattle.acs_world.specs.Closed.{closing}
use Rattle.acs_world.specs.Common.{is_like, is_new}
use Rattle.hb_rules.proofs.Firsts.{firsts_have, firsts_from}

-- ---- lists of epochs from s on

abbrev lists_in : ℕ → ℕ → List Vote → List (List Item)
lists_in s k votes = flat_map (λ (e : ℕ). filter_map (closed_with e) votes) (range_with_len s k)

abbrev hits : ℕ → ℕ → Vote → ℕ
hits s k vote = length (lists_in s k (vote ∷ []))

lists_add : (s k : ℕ) (votes : List Vote) (vote : Vote) → length (lists_in s k (votes ++ vote ∷ [])) ≡ length (lists_in s k votes) + hits s k vote
lists_add s zero votes vote = refl
lists_add s (suc k) votes vote =
    let one : List (List Item) = filter_map (closed_with s) votes in
    let more : List (List Item) = filter_map (closed_with s) (vote ∷ []) in
    let front : length (filter_map (closed_with s) (votes ++ vote ∷ [])) ≡ length one + length more =
    ap (λ (xs : List (List Item)). length xs) (filter_map-append (closed_with s) votes (vote ∷ [])) ∙ length-append one more in
    let later = lists_add (s + 1) k votes vote in
    let whole = length-append (filter_map (closed_with s) (votes ++ vote ∷ [])) (lists_in (s + 1) k (votes ++ vote ∷ [])) in
    let old = length-append one (lists_in (s + 1) k votes) in
    let new = length-append more (lists_in (s + 1) k (vote ∷ [])) in
    omega (arith, front, later, whole, old, new)

-- a vote that closes no epoch has no list, and one that closes an epoch has one
none_hit : (s k : ℕ) (vote : Vote) → ((e : ℕ) → closed_with e vote ≡ None) → hits s k vote ≡ 0
none_hit s zero vote none = refl
none_hit s (suc k) vote none =
    let here : closed_with s vote ≡ None = none s in
    rw here (none_hit (s + 1) k vote none)

behind_hit : (s k d : ℕ) (list : List Item) → d < s → hits s k (Closed d list) ≡ 0
behind_hit s zero d list below = refl
behind_hit s (suc k) d list below =
    let apart : (d == s) ≡ false = false_from_ne_true (d == s) (λ same. omega (arith, eqb-true d s same, below)) in
    rw apart (behind_hit (s + 1) k d list (omega arith))

apart_above : (d s : ℕ) → s ≤ d → (d == s) ≡ false → s < d
apart_above d s low other = elim (cases_lt s d) [
  | inl above ↦ above
  | inr not_above ↦ absurd (both_ways (d == s) other (eq-eqb d s (omega arith)))
]

one_hit : (s k d : ℕ) (list : List Item) → s ≤ d → d < s + k → hits s k (Closed d list) ≡ 1
one_hit s zero d list low high = absurd (omega arith)
one_hit s (suc k) d list low high = by (d == s) refl (λ above. one_hit (s + 1) k d list (omega (arith, above)) (omega (arith, high)))
  where
    by : (b : Bool) → (d == s) ≡ b → (s < d → hits (s + 1) k (Closed d list) ≡ 1) → hits s (suc k) (Closed d list) ≡ 1
    by true same later =
        let is : d ≡ s = eqb-true d s same in
        let behind : hits (s + 1) k (Closed d list) ≡ 0 = behind_hit (s + 1) k d list (omega (arith, is)) in
        rw same (ap suc behind)
    by false other later = rw other (later (apart_above d s low other))

-- ---- one vote more

closing_none : (vote : Vote) → closing vote ≡ None → (e : ℕ) → closed_with e vote ≡ None
closing_none (Closed d list) h e = absurd (cc (h))
closing_none vote h e = refl

-- the ledger of votes, and with one vote more
abbrev listed_of : List Vote → ℕ
listed_of own = length (lists_in 0 32 (firsts own))

firsts_more : (own : List Vote) (vote : Vote) → firsts (own ++ vote ∷ []) ≡ with_vote (firsts own) vote
firsts_more own vote = fold-append with_vote [] own (vote ∷ [])

pub known_first : (own : List Vote) (vote : Vote) → list_any (same_vote vote) own ≡ list_any (same_vote vote) (firsts own)
known_first own vote = by (list_any (same_vote vote) (firsts own)) refl
  where
    by : (b : Bool) → list_any (same_vote vote) (firsts own) ≡ b → list_any (same_vote vote) own ≡ b
    by true among =
        let found = any_stands (same_vote vote) (firsts own) among in
        elim (firsts_from own [] found.0 found.1) [
          | inl none ↦ absurd (omega (arith, none.1))
          | inr stands ↦ list_any-from (same_vote vote) own found.0 stands found.2
        ]
    by false none =
        false_from_ne_true (list_any (same_vote vote) own) (λ among.
        let found = any_stands (same_vote vote) own among in
        both_ways (list_any (same_vote vote) (firsts own)) none
        (list_any-from (same_vote vote) (firsts own) found.0 (firsts_have own [] found.0 found.1) found.2))

known_adds : (own : List Vote) (vote : Vote) → list_any (same_vote vote) own ≡ true → listed_of (own ++ vote ∷ []) ≡ listed_of own
known_adds own vote known =
    let among : list_any (same_vote vote) (firsts own) ≡ true = sym (known_first own vote) ∙ known in
    let same : with_vote (firsts own) vote ≡ firsts own = rw among refl in
    ap (λ (votes : List Vote). length (lists_in 0 32 votes)) (firsts_more own vote ∙ same)

new_adds : (own : List Vote) (vote : Vote) → list_any (same_vote vote) own ≡ false
    → listed_of (own ++ vote ∷ []) ≡ listed_of own + hits 0 32 vote
new_adds own vote new =
    let none : list_any (same_vote vote) (firsts own) ≡ false = sym (known_first own vote) ∙ new in
    let more : with_vote (firsts own) vote ≡ firsts own ++ vote ∷ [] = rw none refl in
    ap (λ (votes : List Vote). length (lists_in 0 32 votes)) (firsts_more own vote ∙ more) ∙ lists_add 0 32 (firsts own) vote

-- ---- one post more

by_parts : (b : Bool) (o : Option Vote) (v : Vote) → (if b then o else None) ≡ Some v → (b ≡ true) × (o ≡ Some v)
by_parts true o v h = (refl, h)
by_parts false o v h = absurd (cc (h))

same_bytes : (c : Numbers) (p q : Post) (v w : Vote) → spelled c p ≡ Some v → spelled c q ≡ Some w → v ≡ w → p.bytes ≡ q.bytes
same_bytes c p q v w first second same =
    let one : Spells c.n c.version p.bytes v = vote_takes c.n c.version p.bytes v first in
    let other : Spells c.n c.version q.bytes w = vote_takes c.n c.version q.bytes w second in
    one.spelled ∙ ap spelling same ∙ sym other.spelled

-- a desk has cast the vote of a post before where a post before it has the same bytes
pub like_known : (c : Numbers) (node : ℕ) (before : List Post) (post : Post) (v : Vote) → vote_by c node c.n post ≡ Some v
    → list_any (is_like c node post.bytes) before ≡ list_any (same_vote v) (own_in c node c.n before)
like_known c node before post v casts = by (list_any (same_vote v) (own_in c node c.n before)) refl
  where
    spells : spelled c post ≡ Some v
    spells = (by_parts (is_by node c.n post) (spelled c post) v casts).1

    by : (b : Bool) → list_any (same_vote v) (own_in c node c.n before) ≡ b → list_any (is_like c node post.bytes) before ≡ b
    by true among =
        let found = any_stands (same_vote v) (own_in c node c.n before) among in
        let same : v ≡ found.0 = (one_vote v found.0).0 found.2 in
        let source = cast_from c node c.n before found.0 found.1 in
        let bytes : post.bytes ≡ source.0.bytes = same_bytes c post source.0 v found.0 spells source.2.is same in
        let mine : is_by node c.n source.0 ≡ true =
        and_from (source.0.from == node) (source.0.actor == c.n) (eq-eqb source.0.from node source.2.from)
        (eq-eqb source.0.actor c.n source.2.actor) in
        list_any-from (is_like c node post.bytes) before source.0 source.1
        (and_from (is_by node c.n source.0) (bytes_eq post.bytes source.0.bytes) mine ((bytes_decides post.bytes source.0.bytes).1 bytes))
    by false none =
        false_from_ne_true (list_any (is_like c node post.bytes) before) (λ among.
        let found = any_stands (is_like c node post.bytes) before among in
        let parts = and_parts (is_by node c.n found.0) (bytes_eq post.bytes found.0.bytes) found.2 in
        let mine = and_parts (found.0.from == node) (found.0.actor == c.n) parts.0 in
        let bytes : post.bytes ≡ found.0.bytes = (bytes_decides post.bytes found.0.bytes).0 parts.1 in
        let is : spelled c found.0 ≡ Some v = ap (λ (bs : List ℕ). vote_at c.n c.version bs) (sym bytes) ∙ spells in
        let stands : Contains (own_in c node c.n before) v =
        cast_stands c node c.n before found.0 v found.1
        (record { from = eqb-true found.0.from node mine.0; actor = eqb-true found.0.actor c.n mine.1; is = is }) in
        both_ways (list_any (same_vote v) (own_in c node c.n before)) none
        (list_any-from (same_vote v) (own_in c node c.n before) v stands ((one_vote v v).1 refl)))

-- a vote more, where the one is known or new
vote_adds : (own : List Vote) (vote : Vote) → epoch_of vote < 32 → (known : Bool) → list_any (same_vote vote) own ≡ known
    → listed_of (own ++ vote ∷ []) ≡ listed_of own + (if is_some (closing vote) && not known then 1 else 0)
vote_adds own (Closed e list) low true known = omega (arith, known_adds own (Closed e list) known)
vote_adds own (Closed e list) low false new =
    omega (arith, new_adds own (Closed e list) new, one_hit 0 32 e list (omega arith) (omega (arith, low)))
vote_adds own vote low true known = omega (arith, known_adds own vote known)
vote_adds own vote low false new =
    omega (arith, new_adds own vote new, none_hit 0 32 vote (closing_none vote refl))

post_adds : (c : Numbers) (node : ℕ) (before : List Post) (post : Post) (o : Option Vote) → vote_by c node c.n post ≡ o
    → listed_of (own_in c node c.n before ++ cons_option o [])
    ≡ listed_of (own_in c node c.n before)
    + (if is_some (option_and_then closing o) && not (list_any (is_like c node post.bytes) before) then 1 else 0)
post_adds c node before post None casts =
    let none : listed_of (own_in c node c.n before ++ []) ≡ listed_of (own_in c node c.n before) = ap listed_of (append-nil (own_in c node c.n before)) in
    omega (arith, none)
post_adds c node before post (Some v) casts =
    let spells : spelled c post ≡ Some v = (by_parts (is_by node c.n post) (spelled c post) v casts).1 in
    let low : epoch_of v < 32 = (vote_takes c.n c.version post.bytes v spells).fits.epoch in
    vote_adds (own_in c node c.n before) v low (list_any (is_like c node post.bytes) before) (sym (like_known c node before post v casts))

-- a post more
pub count_more : (c : Numbers) (node number : ℕ) (posts : List Post) (post : Post) → number < length posts → post ≡ slice_index_or posts number post
    → length (ledger c (take (number + 1) posts) node)
    ≡ length (ledger c (take number posts) node) + (if is_new c node (take number posts) post then 1 else 0)
count_more c node number posts post inside is =
    let before : List Post = take number posts in
    let more : take (number + 1) posts ≡ before ++ post ∷ [] =
    take_more posts number post inside ∙ ap (λ (p : Post). before ++ p ∷ []) (sym is) in
    let own : own_in c node c.n (take (number + 1) posts) ≡ own_in c node c.n before ++ cons_option (vote_by c node c.n post) [] =
    ap (own_in c node c.n) more ∙ filter_map-append (vote_by c node c.n) before (post ∷ []) in
    ap listed_of own ∙ post_adds c node before post (vote_by c node c.n post) refl
