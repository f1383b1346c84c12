-- The lists of a ledger, found one by one.
use Rattle.std.proofs.Common.{◌≡◌, ℕ, zero, suc, map, ◌+◌, ◌-◌, ◌<◌, ◌≤◌, Bool, true, false, List, [], ◌∷◌, ◌++◌, length, take, drop, slice_get, slice_index_or, Option, None, Some, if◌then◌else◌, refl, subst, sym, ap, ◌∙◌, arith, append_assoc, append-nil}
use Rattle.std.specs.List.{list_any, filter_map, flat_map, range_with_len, cons_option, fold}
use Rattle.std.specs.Option.{option_and_then, option_map, option_to_list}
use Rattle.std.proofs.lemmas.List.{take_more, take-append-drop, length-append, length-map, length_push, map-append}
use Rattle.std.proofs.lemmas.Option.{slice_get_past, slice_get-map}
use Rattle.std.proofs.lemmas.List.Sums.{fold-append}
use Rattle.std.proofs.lemmas.List.Elements.{filter_map-append}
use Rattle.hb_base.specs.Numbers.{Numbers}
use Rattle.hb_wire.specs.declared.items.Item.{Item}
use Rattle.hb_wire.specs.declared.vote.Vote.{Vote}
use Rattle.hb_wire.specs.declared.post.Post.{Post}
use Rattle.hb_wire.specs.Glances.{IsClosedRest}
use Rattle.hb_wire.specs.Lists.{listed}
use Rattle.hb_wire.proofs.GlanceLemmas.{closed_list}
use Rattle.hb_rules.specs.Claims.{closed_with}
use Rattle.hb_rules.specs.Hearing.{vote_by, own_in}
use Rattle.hb_rules.specs.Ledger.{ledger, IsPrefix}
use Rattle.hb_rules.specs.Same.{same_vote, with_vote, firsts}
use Rattle.acs_world.specs.Common.{is_like}
use Rattle.acs_world.specs.Closed.{Closure}
use Rattle.acs_world.specs.Closures.{closure_of, closures_of, closures, IsClosureAt}
use Rattle.acs_world.specs.Lists.{lists_of, new_list, IsListAt}
use Rattle.acs_world.proofs.Counting.{known_first, like_known}
use Rattle.acs_world.proofs.Ledgers.{closing_added, closing_known}

-- ---- places

place_before : {X : Type 0} (xs ys : List X) (k : ℕ) (x : X) → slice_get xs k ≡ Some x → slice_get (xs ++ ys) k ≡ Some x
place_before [] ys k x h = absurd (cc (h))
place_before (y ∷ xs) ys zero x h = h
place_before (y ∷ xs) ys (suc k) x h = place_before xs ys k x h

place_behind : {X : Type 0} (xs ys : List X) (k : ℕ) → slice_get (xs ++ ys) (length xs + k) ≡ slice_get ys k
place_behind [] ys k =
    let e : 0 + k ≡ k = omega arith in
    ap (λ (m : ℕ). slice_get ys m) e
place_behind {X} (x ∷ xs) ys k =
    let e : suc (length xs) + k ≡ suc (length xs + k) = omega arith in
    ap (λ (m : ℕ). slice_get (x ∷ xs ++ ys) m) e ∙ place_behind xs ys k

-- ---- one post more

-- the lists of an epoch with one vote more
vote_lists : (e : ℕ) (own : List Vote) (vote : Vote) → filter_map (closed_with e) (firsts (own ++ vote ∷ []))
    ≡ filter_map (closed_with e) (firsts own) ++ option_to_list (if list_any (same_vote vote) own then None else closed_with e vote)
vote_lists e own vote = by (list_any (same_vote vote) own) refl
  where
    more : firsts (own ++ vote ∷ []) ≡ with_vote (firsts own) vote
    more = fold-append with_vote [] own (vote ∷ [])

    lists : List (List Item)
    lists = filter_map (closed_with e) (firsts own)

    as_list : (o : Option (List Item)) → cons_option o [] ≡ option_to_list o
    as_list None = refl
    as_list (Some list) = refl

    by : (b : Bool) → list_any (same_vote vote) own ≡ b → filter_map (closed_with e) (firsts (own ++ vote ∷ []))
        ≡ lists ++ option_to_list (if b then None else closed_with e vote)
    by true known =
        ap (filter_map (closed_with e)) more ∙ closing_known e (firsts own) vote (sym (known_first own vote) ∙ known) ∙ sym (append-nil lists)
    by false new =
        ap (filter_map (closed_with e)) more ∙ closing_added e (firsts own) vote (sym (known_first own vote) ∙ new)
        ∙ ap (λ (xs : List (List Item)). lists ++ xs) (as_list (closed_with e vote))

post_lists : (c : Numbers) (i e : ℕ) (before : List Post) (post : Post) (o : Option Vote) → vote_by c i c.n post ≡ o
    → filter_map (closed_with e) (firsts (own_in c i c.n before ++ cons_option o []))
    ≡ lists_of c i e before ++ option_to_list (if list_any (is_like c i post.bytes) before then None else option_and_then (closed_with e) o)
post_lists c i e before post None casts = by (list_any (is_like c i post.bytes) before)
  where
    by : (b : Bool) → filter_map (closed_with e) (firsts (own_in c i c.n before ++ []))
        ≡ lists_of c i e before ++ option_to_list (if b then None else None)
    by true =
        ap (λ (own : List Vote). filter_map (closed_with e) (firsts own)) (append-nil (own_in c i c.n before)) ∙ sym (append-nil (lists_of c i e before))
    by false =
        ap (λ (own : List Vote). filter_map (closed_with e) (firsts own)) (append-nil (own_in c i c.n before)) ∙ sym (append-nil (lists_of c i e before))
post_lists c i e before post (Some v) casts =
    vote_lists e (own_in c i c.n before) v
    ∙ ap (λ (b : Bool). lists_of c i e before ++ option_to_list (if b then None else closed_with e v)) (sym (like_known c i before post v casts))

pub lists_more : (c : Numbers) (i e number : ℕ) (posts : List Post) (post : Post) → number < length posts → post ≡ slice_index_or posts number post
    → lists_of c i e (take (number + 1) posts) ≡ lists_of c i e (take number posts) ++ option_to_list (new_list c i e (take number posts) post)
lists_more c i e number posts post inside is =
    let before : List Post = take number posts in
    let more : take (number + 1) posts ≡ before ++ post ∷ [] =
    take_more posts number post inside ∙ ap (λ (p : Post). before ++ p ∷ []) (sym is) in
    let own : own_in c i c.n (take (number + 1) posts) ≡ own_in c i c.n before ++ cons_option (vote_by c i c.n post) [] =
    ap (own_in c i c.n) more ∙ filter_map-append (vote_by c i c.n) before (post ∷ []) in
    ap (λ (votes : List Vote). filter_map (closed_with e) (firsts votes)) own ∙ post_lists c i e before post (vote_by c i c.n post) refl

-- ---- posts more

votes_more : (e : ℕ) (votes before : List Vote)
    → IsPrefix (filter_map (closed_with e) before) (filter_map (closed_with e) (fold with_vote before votes))
votes_more e [] before = record { rest = []; is = sym (append-nil (filter_map (closed_with e) before)) }
votes_more e (v ∷ votes) before =
    let later = votes_more e votes (with_vote before v) in
    let front = by (list_any (same_vote v) before) refl in
    record {
      rest = front.rest ++ later.rest;
      is = later.is ∙ ap (λ (xs : List (List Item)). xs ++ later.rest) front.is ∙ append_assoc (filter_map (closed_with e) before) front.rest later.rest;
    }
  where
    by : (b : Bool) → list_any (same_vote v) before ≡ b
        → IsPrefix (filter_map (closed_with e) before) (filter_map (closed_with e) (with_vote before v))
    by true known = record { rest = []; is = closing_known e before v known ∙ sym (append-nil (filter_map (closed_with e) before)) }
    by false new = record { rest = cons_option (closed_with e v) []; is = closing_added e before v new }

lists_begin : (c : Numbers) (i e number : ℕ) (posts : List Post) → IsPrefix (lists_of c i e (take number posts)) (lists_of c i e posts)
lists_begin c i e number posts =
    let own : own_in c i c.n posts ≡ own_in c i c.n (take number posts) ++ own_in c i c.n (drop number posts) =
    ap (own_in c i c.n) (sym (take-append-drop number posts)) ∙ filter_map-append (vote_by c i c.n) (take number posts) (drop number posts) in
    let all : firsts (own_in c i c.n posts) ≡ fold with_vote (firsts (own_in c i c.n (take number posts))) (own_in c i c.n (drop number posts)) =
    ap firsts own ∙ fold-append with_vote [] (own_in c i c.n (take number posts)) (own_in c i c.n (drop number posts)) in
    let more = votes_more e (own_in c i c.n (drop number posts)) (firsts (own_in c i c.n (take number posts))) in
    record { rest = more.rest; is = ap (filter_map (closed_with e)) all ∙ more.is }

-- a list that a post adds stands where so many stood before it
pub list_found : (c : Numbers) (i e number : ℕ) (posts : List Post) (post : Post) (list : List Item) → number < length posts
    → post ≡ slice_index_or posts number post → new_list c i e (take number posts) post ≡ Some list
    → slice_get (lists_of c i e posts) (length (lists_of c i e (take number posts))) ≡ Some list
list_found c i e number posts post list inside is new =
    let before : List (List Item) = lists_of c i e (take number posts) in
    let more : lists_of c i e (take (number + 1) posts) ≡ before ++ list ∷ [] =
    lists_more c i e number posts post inside is ∙ ap (λ (o : Option (List Item)). before ++ option_to_list o) new in
    let begins = lists_begin c i e (number + 1) posts in
    let place : length before + 0 ≡ length before = omega arith in
    let here : slice_get (before ++ list ∷ []) (length before) ≡ Some list =
    ap (λ (k : ℕ). slice_get (before ++ list ∷ []) k) (sym place) ∙ place_behind before (list ∷ []) 0 in
    let there : slice_get (lists_of c i e (take (number + 1) posts)) (length before) ≡ Some list =
    ap (λ (xs : List (List Item)). slice_get xs (length before)) more ∙ here in
    ap (λ (xs : List (List Item)). slice_get xs (length before)) begins.is
    ∙ place_before (lists_of c i e (take (number + 1) posts)) begins.rest (length before) list there

pub count_kept : (c : Numbers) (i e number : ℕ) (posts : List Post) (post : Post) → number < length posts → post ≡ slice_index_or posts number post
    → new_list c i e (take number posts) post ≡ None
    → length (lists_of c i e (take (number + 1) posts)) ≡ length (lists_of c i e (take number posts))
count_kept c i e number posts post inside is none =
    let before : List (List Item) = lists_of c i e (take number posts) in
    ap (λ (xs : List (List Item)). length xs)
    (lists_more c i e number posts post inside is ∙ ap (λ (o : Option (List Item)). before ++ option_to_list o) none ∙ append-nil before)

pub count_added : (c : Numbers) (i e number : ℕ) (posts : List Post) (post : Post) (list : List Item) → number < length posts
    → post ≡ slice_index_or posts number post → new_list c i e (take number posts) post ≡ Some list
    → length (lists_of c i e (take (number + 1) posts)) ≡ length (lists_of c i e (take number posts)) + 1
count_added c i e number posts post list inside is new =
    let before : List (List Item) = lists_of c i e (take number posts) in
    ap (λ (xs : List (List Item)). length xs)
    (lists_more c i e number posts post inside is ∙ ap (λ (o : Option (List Item)). before ++ option_to_list o) new)
    ∙ length_push before list

-- ---- epochs

flat_split : {X : Type 0} (A : ℕ → List X) (s m k : ℕ)
    → flat_map A (range_with_len s (m + suc k)) ≡ flat_map A (range_with_len s m) ++ (A (s + m) ++ flat_map A (range_with_len (s + m + 1) k))
flat_split {X} A s zero k =
    let all : 0 + suc k ≡ suc k = omega arith in
    let here : s + 0 ≡ s = omega arith in
    ap (λ (m : ℕ). flat_map A (range_with_len s m)) all ∙ ap (λ (d : ℕ). A d ++ flat_map A (range_with_len (d + 1) k)) (sym here)
flat_split {X} A s (suc m) k =
    let all : suc m + suc k ≡ suc (m + suc k) = omega arith in
    let here : s + 1 + m ≡ s + suc m = omega arith in
    ap (λ (j : ℕ). flat_map A (range_with_len s j)) all ∙ ap (λ (xs : List X). A s ++ xs) (flat_split A (s + 1) m k)
    ∙ sym (append_assoc (A s) (flat_map A (range_with_len (s + 1) m)) (A (s + 1 + m) ++ flat_map A (range_with_len (s + 1 + m + 1) k)))
    ∙ ap (λ (d : ℕ). flat_map A (range_with_len s (suc m)) ++ (A d ++ flat_map A (range_with_len (d + 1) k))) here

-- one epoch on
pub below_more : {X : Type 0} (A : ℕ → List X) (e : ℕ) → flat_map A (range_with_len 0 (e + 1)) ≡ flat_map A (range_with_len 0 e) ++ A e
below_more {X} A e =
    let here : 0 + e ≡ e = omega arith in
    flat_split A 0 e 0
    ∙ ap (λ (xs : List X). flat_map A (range_with_len 0 e) ++ xs) (append-nil (A (0 + e)))
    ∙ ap (λ (d : ℕ). flat_map A (range_with_len 0 e) ++ A d) here

-- what an epoch has stands behind what the epochs before have
place_below : {X : Type 0} (A : ℕ → List X) (e k n : ℕ) (x : X) → e < n → slice_get (A e) k ≡ Some x
    → slice_get (flat_map A (range_with_len 0 n)) (length (flat_map A (range_with_len 0 e)) + k) ≡ Some x
place_below {X} A e k n x low there =
    let left : e + suc (n - (e + 1)) ≡ n = omega (arith, low) in
    let here : 0 + e ≡ e = omega arith in
    let before : List X = flat_map A (range_with_len 0 e) in
    let rest : List X = flat_map A (range_with_len (0 + e + 1) (n - (e + 1))) in
    let whole : flat_map A (range_with_len 0 n) ≡ before ++ (A e ++ rest) =
    ap (λ (m : ℕ). flat_map A (range_with_len 0 m)) (sym left) ∙ flat_split A 0 e (n - (e + 1)) ∙ ap (λ (d : ℕ). before ++ (A d ++ rest)) here in
    ap (λ (xs : List X). slice_get xs (length before + k)) whole ∙ place_behind before (A e ++ rest) k ∙ place_before (A e) rest k x there

-- the lists of the epochs below e, each with its epoch
abbrev pub closures_below : Numbers → ℕ → List Post → ℕ → List Closure
closures_below c i posts e = flat_map (closures_of c i posts) (range_with_len 0 e)

pub closure_found : (c : Numbers) (i e left place : ℕ) (posts : List Post) (list : List Item) → e < 32
    → length (closures_below c i posts e) + left ≡ place → slice_get (lists_of c i e posts) left ≡ Some list
    → slice_get (closures c posts i) place ≡ Some (closure_of e list)
closure_found c i e left place posts list low is there =
    let here : slice_get (closures_of c i posts e) left ≡ Some (closure_of e list) =
    slice_get-map (closure_of e) (lists_of c i e posts) left ∙ ap (option_map (closure_of e)) there in
    ap (λ (k : ℕ). slice_get (closures c posts i) k) (sym is) ∙ place_below (closures_of c i posts) e left 32 (closure_of e list) low here

-- so is the one that a search for it among the lists of its epoch comes to
pub closure_shown : (c : Numbers) (posts : List Post) (i e left place : ℕ) (rest : List ℕ) → e < 32
    → length (closures_below c i posts e) + left ≡ place → IsListAt (lists_of c i e posts) left rest → IsClosureAt (closures c posts i) place e rest
closure_shown c posts i e left place rest low is at =
    let same : listed rest ≡ at.list = (closed_list rest at.list at.shown).same in
    record {
      there = closure_found c i e left place posts at.list low is at.there ∙ ap (λ (list : List Item). Some (closure_of e list)) (sym same);
      shown = subst (λ (list : List Item). IsClosedRest rest list) (sym same) at.shown;
    }

pub closure_next : (c : Numbers) (i e left count place : ℕ) (posts : List Post) → length (closures_below c i posts e) + left ≡ place
    → count ≡ length (lists_of c i e posts) → count ≤ left → length (closures_below c i posts (e + 1)) + (left - count) ≡ place
closure_next c i e left count place posts is all few =
    let more : length (closures_below c i posts (e + 1)) ≡ length (closures_below c i posts e) + length (closures_of c i posts e) =
    ap (λ (xs : List Closure). length xs) (below_more (closures_of c i posts) e)
    ∙ length-append (closures_below c i posts e) (closures_of c i posts e) in
    let same : length (closures_of c i posts e) ≡ length (lists_of c i e posts) = length-map (lists_of c i e posts) (closure_of e) in
    omega (arith, more, same, is, all, few)

pub closure_past : (c : Numbers) (i e left place : ℕ) (posts : List Post) → e ≡ 32 → length (closures_below c i posts e) + left ≡ place
    → slice_get (closures c posts i) place ≡ None
closure_past c i e left place posts all is =
    let whole : length (closures_below c i posts e) ≡ length (closures c posts i) = ap (λ (m : ℕ). length (closures_below c i posts m)) all in
    slice_get_past (closures c posts i) place (omega (arith, whole, is))

-- ---- the ledger has the lists without their epochs

lists_back : (e : ℕ) (lists : List (List Item)) → map (λ (x : Closure). x.1) (map (closure_of e) lists) ≡ lists
lists_back e [] = refl
lists_back e (list ∷ lists) = ap (λ (xs : List (List Item)). list ∷ xs) (lists_back e lists)

epochs_back : (c : Numbers) (i : ℕ) (posts : List Post) (epochs : List ℕ)
    → map (λ (x : Closure). x.1) (flat_map (closures_of c i posts) epochs) ≡ flat_map (λ (e : ℕ). lists_of c i e posts) epochs
epochs_back c i posts [] = refl
epochs_back c i posts (e ∷ epochs) =
    map-append (λ (x : Closure). x.1) (closures_of c i posts e) (flat_map (closures_of c i posts) epochs)
    ∙ ap (λ (xs : List (List Item)). xs ++ map (λ (x : Closure). x.1) (flat_map (closures_of c i posts) epochs)) (lists_back e (lists_of c i e posts))
    ∙ ap (λ (xs : List (List Item)). lists_of c i e posts ++ xs) (epochs_back c i posts epochs)

pub ledger_lists : (c : Numbers) (posts : List Post) (i : ℕ) → map (λ (x : Closure). x.1) (closures c posts i) ≡ ledger c posts i
ledger_lists c posts i = epochs_back c i posts (range_with_len 0 32)

pub closure_listed : (c : Numbers) (posts : List Post) (i place epoch : ℕ) (rest : List ℕ) → IsClosureAt (closures c posts i) place epoch rest
    → IsListAt (ledger c posts i) place rest
closure_listed c posts i place epoch rest at = record {
  list = listed rest;
  there =
      ap (λ (xs : List (List Item)). slice_get xs place) (sym (ledger_lists c posts i))
      ∙ slice_get-map (λ (x : Closure). x.1) (closures c posts i) place ∙ ap (option_map (λ (x : Closure). x.1)) at.there;
  shown = at.shown;
}

pub closure_missing : (c : Numbers) (posts : List Post) (i place : ℕ) → slice_get (closures c posts i) place ≡ None
    → slice_get (ledger c posts i) place ≡ None
closure_missing c posts i place none =
    ap (λ (xs : List (List Item)). slice_get xs place) (sym (ledger_lists c posts i))
    ∙ slice_get-map (λ (x : Closure). x.1) (closures c posts i) place ∙ ap (option_map (λ (x : Closure). x.1)) none
