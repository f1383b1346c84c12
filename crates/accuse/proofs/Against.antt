-- The first post that another contradicts is found by the places of the other's vote.
use Rattle.std.proofs.Common.{◌≡◌, ℕ, ◌+◌, ◌<◌, ◌≤◌, ◌⊎◌, inl, inr, Bool, true, false, ◌==◌, ◌&&◌, ◌||◌, not, bytes_eq, List, [], length, get_or, Option, None, Some, refl, sym, ap, ◌∙◌, arith}
use Rattle.std.specs.Option.{is_some, option_map, option_or, option_and_then, IfSome}
use Rattle.std.specs.Cmp.Lexicographic.{bytes_decides}
use Rattle.std.proofs.lemmas.Option.{slice_get_read}
use Rattle.std.proofs.lemmas.Bool.{and_parts, both_ways, false_from_ne_true, eqb-true, eq-eqb}
use Rattle.hb_base.specs.Numbers.{Numbers}
use Rattle.hb_wire.specs.declared.vote.Vote.{Vote}
use Rattle.hb_wire.specs.declared.post.Post.{Post}
use Rattle.hb_wire.proofs.Equality.{one_vote}
use Rattle.hb_rules.specs.Same.{same_vote}
use Rattle.hb_rules.specs.Slots.{when}
use Rattle.hb_rules.proofs.Lists.{none_if_not_some}
use Rattle.accuse.specs.declared.place.Place.{Place}
use Rattle.accuse.specs.Conflicts.{excludes, show_two_roots}
use Rattle.accuse.specs.Accused.{least_below, said, said_at, contradict, first_against, first_contradiction, accusation}
use Rattle.accuse.specs.Places.{place_of, root_place, is_place, fills, first_at, told, AreFirsts}
use Rattle.accuse.proofs.Least.{least_all, least_none, least_some, least_is, least_more, firsts_tell}
use Rattle.accuse.proofs.Same.{place_is, place_self}
use Rattle.accuse.proofs.Places.{share_place, share_root, exclude_root, are_rivals, of_one_root, not_root, root_of}

-- ---- what has a place

pub either_true : (a b : Bool) → (a || b) ≡ true → (a ≡ true) ⊎ (b ≡ true)
either_true true b e = inl refl
either_true false b e = inr e

or_true : (a b : Bool) → b ≡ true → (a || b) ≡ true
or_true true b e = refl
or_true false b e = e

place_some : (wanted : Place) (o : Option Place) → is_place wanted o ≡ true → o ≡ Some wanted
place_some wanted None e = absurd (cc (e))
place_some wanted (Some other) e = ap Some (place_is other wanted e)

some_place : (wanted : Place) (o : Option Place) → o ≡ Some wanted → is_place wanted o ≡ true
some_place wanted o e = ap (is_place wanted) e ∙ place_self wanted

has_root : (wanted : Place) (s : ℕ × Vote) → root_place s.0 s.1 ≡ Some wanted → fills wanted (Some s) ≡ true
unfolding fills
has_root wanted s e = ap (λ (b : Bool). b || is_place wanted (place_of s.0 s.1)) (some_place wanted (root_place s.0 s.1) e)

has_place : (wanted : Place) (s : ℕ × Vote) → place_of s.0 s.1 ≡ Some wanted → fills wanted (Some s) ≡ true
unfolding fills
has_place wanted s e = or_true (is_place wanted (root_place s.0 s.1)) (is_place wanted (place_of s.0 s.1)) (some_place wanted (place_of s.0 s.1) e)

-- what has the root place of a vote has it as its own root place, and so with the other place
root_filled : (wanted : Place) (s b : ℕ × Vote) → root_place b.0 b.1 ≡ Some wanted → fills wanted (Some s) ≡ true → root_place s.0 s.1 ≡ Some wanted
unfolding fills
root_filled wanted s b root filled = elim (either_true (is_place wanted (root_place s.0 s.1)) (is_place wanted (place_of s.0 s.1)) filled) [
  | inl one ↦ place_some wanted (root_place s.0 s.1) one
  | inr other ↦ absurd (not_root b.0 s.0 b.1 s.1 wanted root (place_some wanted (place_of s.0 s.1) other))
]

place_filled : (wanted : Place) (s b : ℕ × Vote) → place_of b.0 b.1 ≡ Some wanted → fills wanted (Some s) ≡ true → place_of s.0 s.1 ≡ Some wanted
unfolding fills
place_filled wanted s b at filled = elim (either_true (is_place wanted (root_place s.0 s.1)) (is_place wanted (place_of s.0 s.1)) filled) [
  | inl one ↦ absurd (not_root s.0 b.0 s.1 b.1 wanted (place_some wanted (root_place s.0 s.1) one) at)
  | inr other ↦ place_some wanted (place_of s.0 s.1) other
]

-- ---- the two ways in which posts contradict each other

-- by their roots
by_root : Option (ℕ × Vote) → ℕ × Vote → Bool
by_root None b = false
by_root (Some a) b = (a.0 == b.0) && show_two_roots a.1 b.1

-- by a vote that excludes the other
by_vote : Option (ℕ × Vote) → ℕ × Vote → Bool
by_vote None b = false
by_vote (Some a) b = (a.0 == b.0) && (excludes a.1 b.1 && not (same_vote a.1 b.1))

and_or : (e r v : Bool) → (e && (r || v)) ≡ ((e && r) || (e && v))
and_or true r v = refl
and_or false r v = refl

two_ways : (o : Option (ℕ × Vote)) (b : ℕ × Vote) → contradict o (Some b) ≡ (by_root o b || by_vote o b)
unfolding by_root by_vote
two_ways None b = refl
two_ways (Some a) b = and_or (a.0 == b.0) (show_two_roots a.1 b.1) (excludes a.1 b.1 && not (same_vote a.1 b.1))

-- whether what a post says has a place, if there is one
fills_any : Option Place → Option (ℕ × Vote) → Bool
fills_any None o = false
fills_any (Some wanted) o = fills wanted o

-- there is a place that what was said fills
record IsFilled (place : Option Place) (o : Option (ℕ × Vote)) : Type 0 where
  wanted : Place
  place_is : place ≡ Some wanted

is_filled : (place : Option Place) (o : Option (ℕ × Vote)) → fills_any place o ≡ true → IsFilled place o
unfolding fills_any
is_filled None o e = absurd (cc (e))
is_filled (Some wanted) o e = record { wanted = wanted; place_is = refl }

nothing_fills : (place : Option Place) → fills_any place None ≡ true → ⊥
unfolding fills_any fills
nothing_fills None e = cc (e)
nothing_fills (Some wanted) e = cc (e)

any_filled : (wanted : Place) (place : Option Place) (s : ℕ × Vote) → place ≡ Some wanted → fills wanted (Some s) ≡ true
    → fills_any place (Some s) ≡ true
unfolding fills_any
any_filled wanted place s is filled = ap (λ (o : Option Place). fills_any o (Some s)) is ∙ filled

root_marks : (o : Option (ℕ × Vote)) (b : ℕ × Vote) → by_root o b ≡ true → fills_any (root_place b.0 b.1) o ≡ true
unfolding by_root
root_marks None b e = absurd (cc (e))
root_marks (Some a) b e =
    let parts = and_parts (a.0 == b.0) (show_two_roots a.1 b.1) e in
    let one = share_root b.0 a.1 b.1 parts.1 in
    let own : root_place a.0 a.1 ≡ Some one.place = ap (λ (x : ℕ). root_place x a.1) (eqb-true a.0 b.0 parts.0) ∙ one.first in
    any_filled one.place (root_place b.0 b.1) a one.second (has_root one.place a own)

vote_signs : (o : Option (ℕ × Vote)) (b : ℕ × Vote) → by_vote o b ≡ true → fills_any (place_of b.0 b.1) o ≡ true
unfolding by_vote
vote_signs None b e = absurd (cc (e))
vote_signs (Some a) b e =
    let parts = and_parts (a.0 == b.0) (excludes a.1 b.1 && not (same_vote a.1 b.1)) e in
    let one = share_place b.0 a.1 b.1 (and_parts (excludes a.1 b.1) (not (same_vote a.1 b.1)) parts.1).0 in
    let own : place_of a.0 a.1 ≡ Some one.place = ap (λ (x : ℕ). place_of x a.1) (eqb-true a.0 b.0 parts.0) ∙ one.first in
    any_filled one.place (place_of b.0 b.1) a one.second (has_place one.place a own)

-- where there is a root place, what excludes the vote has it
vote_marks : (o other : Option (ℕ × Vote)) (b : ℕ × Vote) → fills_any (root_place b.0 b.1) other ≡ true → by_vote o b ≡ true
    → fills_any (root_place b.0 b.1) o ≡ true
unfolding by_vote
vote_marks None other b e d = absurd (cc (d))
vote_marks (Some a) other b e d =
    let some = is_filled (root_place b.0 b.1) other e in
    let parts = and_parts (a.0 == b.0) (excludes a.1 b.1 && not (same_vote a.1 b.1)) d in
    let excluded : excludes a.1 b.1 ≡ true = (and_parts (excludes a.1 b.1) (not (same_vote a.1 b.1)) parts.1).0 in
    let own : root_place a.0 a.1 ≡ Some some.wanted =
    ap (λ (x : ℕ). root_place x a.1) (eqb-true a.0 b.0 parts.0) ∙ exclude_root b.0 b.1 a.1 some.wanted excluded some.place_is in
    any_filled some.wanted (root_place b.0 b.1) a some.place_is (has_root some.wanted a own)

pub not_true : (b : Bool) → not b ≡ true → b ≡ false
not_true true e = absurd (cc (e))
not_true false e = refl

not_false : (b : Bool) → not b ≡ false → b ≡ true
not_false true e = refl
not_false false e = absurd (cc (e))

and_true : (a b : Bool) → a ≡ true → (a && b) ≡ b
and_true a b e = ap (λ (c : Bool). c && b) e

-- of two Vals with one root place as the third, the one shows its root and the other another: these two show two roots
roots_tell : (o p : Option (ℕ × Vote)) (b : ℕ × Vote) → fills_any (root_place b.0 b.1) o ≡ true → fills_any (root_place b.0 b.1) p ≡ true
    → by_root o b ≡ false → by_root p b ≡ true → contradict o p ≡ true
unfolding by_root fills_any
roots_tell None p b e d away at = absurd (nothing_fills (root_place b.0 b.1) e)
roots_tell (Some a) None b e d away at = absurd (cc (at))
roots_tell (Some a) (Some k) b e d away at =
    let one = is_filled (root_place b.0 b.1) (Some a) e in
    let w = one.wanted in
    let here : fills w (Some a) ≡ true = ap (λ (o : Option Place). fills_any o (Some a)) (sym one.place_is) ∙ e in
    let there : fills w (Some k) ≡ true = ap (λ (o : Option Place). fills_any o (Some k)) (sym one.place_is) ∙ d in
    let first : root_place a.0 a.1 ≡ Some w = root_filled w a b one.place_is here in
    let second : root_place k.0 k.1 ≡ Some w = root_filled w k b one.place_is there in
    let ab = of_one_root a.0 b.0 a.1 b.1 w first one.place_is in
    let kb = of_one_root k.0 b.0 k.1 b.1 w second one.place_is in
    let ak = of_one_root a.0 k.0 a.1 k.1 w first second in
    let shown : bytes_eq (root_of a.1) (root_of b.1) ≡ true =
    not_false (bytes_eq (root_of a.1) (root_of b.1))
    (sym (and_true (a.0 == b.0) (not (bytes_eq (root_of a.1) (root_of b.1))) (eq-eqb a.0 b.0 ab.actors))
    ∙ ap (λ (t : Bool). (a.0 == b.0) && t) (sym ab.roots) ∙ away) in
    let other : bytes_eq (root_of k.1) (root_of b.1) ≡ false =
    not_true (bytes_eq (root_of k.1) (root_of b.1)) (sym kb.roots ∙ (and_parts (k.0 == b.0) (show_two_roots k.1 b.1) at).1) in
    let apart : bytes_eq (root_of a.1) (root_of k.1) ≡ false =
    false_from_ne_true (bytes_eq (root_of a.1) (root_of k.1)) (λ alike. both_ways (bytes_eq (root_of k.1) (root_of b.1)) other
    ((bytes_decides (root_of k.1) (root_of b.1)).1
    (sym ((bytes_decides (root_of a.1) (root_of k.1)).0 alike) ∙ (bytes_decides (root_of a.1) (root_of b.1)).0 shown))) in
    let roots : show_two_roots a.1 k.1 ≡ true = ak.roots ∙ ap not apart in
    and_true (a.0 == k.0) (show_two_roots a.1 k.1 || (excludes a.1 k.1 && not (same_vote a.1 k.1))) (eq-eqb a.0 k.0 ak.actors)
    ∙ ap (λ (t : Bool). t || (excludes a.1 k.1 && not (same_vote a.1 k.1))) roots

-- of two votes with the place of the third, the one is the same and the other is not: the one excludes the other, which differs
votes_tell : (o p : Option (ℕ × Vote)) (b : ℕ × Vote) → fills_any (place_of b.0 b.1) o ≡ true → fills_any (place_of b.0 b.1) p ≡ true
    → by_vote o b ≡ false → by_vote p b ≡ true → contradict o p ≡ true
unfolding by_vote fills_any
votes_tell None p b e d away at = absurd (nothing_fills (place_of b.0 b.1) e)
votes_tell (Some a) None b e d away at = absurd (cc (at))
votes_tell (Some a) (Some k) b e d away at =
    let one = is_filled (place_of b.0 b.1) (Some a) e in
    let w = one.wanted in
    let here : fills w (Some a) ≡ true = ap (λ (o : Option Place). fills_any o (Some a)) (sym one.place_is) ∙ e in
    let there : fills w (Some k) ≡ true = ap (λ (o : Option Place). fills_any o (Some k)) (sym one.place_is) ∙ d in
    let first : place_of a.0 a.1 ≡ Some w = place_filled w a b one.place_is here in
    let second : place_of k.0 k.1 ≡ Some w = place_filled w k b one.place_is there in
    let ab = are_rivals a.0 b.0 a.1 b.1 w first one.place_is in
    let ak = are_rivals a.0 k.0 a.1 k.1 w first second in
    let alike : a.1 ≡ b.1 =
    (one_vote a.1 b.1).0 (not_false (same_vote a.1 b.1)
    (sym (and_true (excludes a.1 b.1) (not (same_vote a.1 b.1)) ab.excluded)
    ∙ sym (and_true (a.0 == b.0) (excludes a.1 b.1 && not (same_vote a.1 b.1)) (eq-eqb a.0 b.0 ab.actors)) ∙ away)) in
    let differs : same_vote k.1 b.1 ≡ false =
    not_true (same_vote k.1 b.1) (and_parts (excludes k.1 b.1) (not (same_vote k.1 b.1))
    (and_parts (k.0 == b.0) (excludes k.1 b.1 && not (same_vote k.1 b.1)) at).1).1 in
    let apart : same_vote a.1 k.1 ≡ false =
    false_from_ne_true (same_vote a.1 k.1) (λ yes. both_ways (same_vote k.1 b.1) differs
    ((one_vote k.1 b.1).1 (sym ((one_vote a.1 k.1).0 yes) ∙ alike))) in
    and_true (a.0 == k.0) (show_two_roots a.1 k.1 || (excludes a.1 k.1 && not (same_vote a.1 k.1))) (eq-eqb a.0 k.0 ak.actors)
    ∙ or_true (show_two_roots a.1 k.1) (excludes a.1 k.1 && not (same_vote a.1 k.1))
    (and_true (excludes a.1 k.1) (not (same_vote a.1 k.1)) ak.excluded ∙ ap not apart)

-- ---- the table

-- what a table has at a place, if there is one
at_place : (c : Numbers) (i : ℕ) (history : List Post) (n : ℕ) (entries : List (Place × ℕ)) → AreFirsts c i history n entries → (place : Option Place)
    → least_below n (λ p. fills_any place (said_at c i history p)) ≡ option_and_then (first_at entries) place
unfolding fills_any
at_place c i history n entries firsts None = least_all n (λ p. false) (λ p below. refl)
at_place c i history n entries firsts (Some wanted) = sym (firsts.first wanted)

-- none of the first n posts contradicts an earlier one
quiet : (c : Numbers) (i : ℕ) (history : List Post) (n : ℕ) → first_contradiction c i history n ≡ None
    → (p r : ℕ) → p < r → r < n → contradict (said_at c i history p) (said_at c i history r) ≡ false
unfolding first_against first_contradiction
quiet c i history n none p r early below =
    least_none r (λ p. contradict (said_at c i history p) (said_at c i history r))
    (none_if_not_some (first_against c i history r) (least_none n (λ q. is_some (first_against c i history q)) none r below)) p early

pub against : (c : Numbers) (i : ℕ) (history : List Post) (n : ℕ) (entries : List (Place × ℕ)) (b : ℕ × Vote) → AreFirsts c i history n entries
    → first_contradiction c i history n ≡ None → said_at c i history n ≡ Some b
    → first_against c i history n
    ≡ option_or (option_and_then (told c i history (Some b)) (option_and_then (first_at entries) (root_place b.0 b.1)))
    (option_and_then (told c i history (Some b)) (option_and_then (first_at entries) (place_of b.0 b.1)))
unfolding first_against
against c i history n entries b firsts none says =
    let s : ℕ → Option (ℕ × Vote) = said_at c i history in
    ap (λ (o : Option (ℕ × Vote)). least_below n (λ p. contradict (s p) o)) says
    ∙ firsts_tell n (λ p. contradict (s p) (Some b)) (λ p. by_root (s p) b) (λ p. by_vote (s p) b)
    (λ p. fills_any (root_place b.0 b.1) (s p)) (λ p. fills_any (place_of b.0 b.1) (s p)) (λ p r. contradict (s p) (s r))
    (option_and_then (first_at entries) (root_place b.0 b.1)) (option_and_then (first_at entries) (place_of b.0 b.1))
    (record {
      split = λ p. two_ways (s p) b;
      has_mark = λ p at. root_marks (s p) b at;
      has_sign = λ p at. vote_signs (s p) b at;
      has_both = λ p r marked at. vote_marks (s p) (s r) b marked at;
      tells_one = λ p r marked also away at. roots_tell (s p) (s r) b marked also away at;
      tells_other = λ p r marked also away at. votes_tell (s p) (s r) b marked also away at;
      quiet = quiet c i history n none;
    })
    (at_place c i history n entries firsts (root_place b.0 b.1)) (at_place c i history n entries firsts (place_of b.0 b.1))

-- ---- one post more

or_twice : (o : Option ℕ) (a b : Bool) (n : ℕ) → option_or (option_or o (when a n)) (when b n) ≡ option_or o (when (a || b) n)
or_twice (Some p) a b n = refl
or_twice None true b n = refl
or_twice None false b n = refl

or_nothing : (o : Option ℕ) → option_or o None ≡ o
or_nothing None = refl
or_nothing (Some p) = refl

-- a post that says nothing
pub firsts_same : (c : Numbers) (i : ℕ) (history : List Post) (n : ℕ) (entries : List (Place × ℕ)) → AreFirsts c i history n entries
    → said_at c i history n ≡ None → AreFirsts c i history (n + 1) entries
unfolding fills
firsts_same c i history n entries firsts nothing = record {
  first = λ wanted.
      firsts.first wanted ∙ sym (least_more n (λ p. fills wanted (said_at c i history p))
      ∙ ap (λ (o : Option (ℕ × Vote)). option_or (least_below n (λ p. fills wanted (said_at c i history p))) (when (fills wanted o) n)) nothing
      ∙ or_nothing (least_below n (λ p. fills wanted (said_at c i history p))));
}

-- a post whose places are noted
pub firsts_noted : (c : Numbers) (i : ℕ) (history : List Post) (n : ℕ) (entries between new : List (Place × ℕ)) (b : ℕ × Vote)
    → AreFirsts c i history n entries → said_at c i history n ≡ Some b
    → ((wanted : Place) → first_at between wanted ≡ option_or (first_at entries wanted) (when (is_place wanted (root_place b.0 b.1)) n))
    → ((wanted : Place) → first_at new wanted ≡ option_or (first_at between wanted) (when (is_place wanted (place_of b.0 b.1)) n))
    → AreFirsts c i history (n + 1) new
unfolding fills
firsts_noted c i history n entries between new b firsts says root place = record {
  first = λ wanted.
      place wanted
      ∙ ap (λ (o : Option ℕ). option_or o (when (is_place wanted (place_of b.0 b.1)) n)) (root wanted)
      ∙ or_twice (first_at entries wanted) (is_place wanted (root_place b.0 b.1)) (is_place wanted (place_of b.0 b.1)) n
      ∙ ap (λ (o : Option ℕ). option_or o (when (fills wanted (Some b)) n)) (firsts.first wanted)
      ∙ sym (least_more n (λ p. fills wanted (said_at c i history p))
      ∙ ap (λ (o : Option (ℕ × Vote)). option_or (least_below n (λ p. fills wanted (said_at c i history p))) (when (fills wanted o) n)) says);
}

-- an empty table has the first of no posts
pub firsts_none : (c : Numbers) (i : ℕ) (history : List Post) → AreFirsts c i history 0 []
firsts_none c i history = record { first = λ wanted. refl }

-- what a table has is below
pub table_below : (c : Numbers) (i : ℕ) (history : List Post) (n : ℕ) (entries : List (Place × ℕ)) → AreFirsts c i history n entries → n ≤ length history
    → (place : Option Place) → IfSome (option_and_then (first_at entries) place) (λ p. p < length history)
table_below c i history n entries firsts inside place = by (option_and_then (first_at entries) place) (at_place c i history n entries firsts place)
  where
    by : (o : Option ℕ) → least_below n (λ p. fills_any place (said_at c i history p)) ≡ o → IfSome o (λ p. p < length history)
    by None is = tt
    by (Some p) is =
        let first = least_some n (λ p. fills_any place (said_at c i history p)) p is in
        omega (arith, first.below, inside)

-- ---- accusations

pub none_begun : (c : Numbers) (i : ℕ) (history : List Post) → first_contradiction c i history 0 ≡ None
unfolding first_contradiction
none_begun c i history = refl

-- a post that contradicts none before it
pub none_more : (c : Numbers) (i : ℕ) (history : List Post) (n : ℕ) → first_contradiction c i history n ≡ None → first_against c i history n ≡ None
    → first_contradiction c i history (n + 1) ≡ None
unfolding first_contradiction
none_more c i history n none nothing =
    least_more n (λ q. is_some (first_against c i history q))
    ∙ (λ k. option_or (none k) (when (is_some (nothing k)) n))

-- a post that contradicts one before it, the first that does
pub accused_by : (c : Numbers) (i : ℕ) (history : List Post) (n p : ℕ) → n < length history → first_contradiction c i history n ≡ None
    → first_against c i history n ≡ Some p → accusation c history i ≡ Some (record { node = i; first = p; second = n })
unfolding first_contradiction accusation
accused_by c i history n p inside none found =
    let test : ℕ → Bool = λ q. is_some (first_against c i history q) in
    let here : least_below (length history) test ≡ Some n =
    least_is (length history) test n (record { below = inside; passes = ap is_some found; least = λ q early. least_none n test none q early }) in
    ap (option_and_then (λ q. option_map (λ r. record { node = i; first = r; second = q }) (first_against c i history q))) here
    ∙ ap (option_map (λ r. record { node = i; first = r; second = n })) found

pub not_accused : (c : Numbers) (i : ℕ) (history : List Post) → first_contradiction c i history (length history) ≡ None → accusation c history i ≡ None
unfolding accusation
not_accused c i history none = ap (option_and_then (λ q. option_map (λ r. record { node = i; first = r; second = q }) (first_against c i history q))) none

-- ---- one post

pub said_here : (c : Numbers) (i : ℕ) (history : List Post) (n : ℕ) (post : Post) → n < length history → post ≡ get_or history n post
    → said_at c i history n ≡ said c i post
said_here c i history n post inside is = ap (option_and_then (said c i)) (slice_get_read history (length history) n post refl inside is)

with_nothing : (o : Option (ℕ × Vote)) → contradict o None ≡ false
with_nothing None = refl
with_nothing (Some s) = refl

-- a post that says nothing contradicts none
pub none_against : (c : Numbers) (i : ℕ) (history : List Post) (n : ℕ) → said_at c i history n ≡ None → first_against c i history n ≡ None
unfolding first_against
none_against c i history n nothing =
    ap (λ (o : Option (ℕ × Vote)). least_below n (λ p. contradict (said_at c i history p) o)) nothing
    ∙ least_all n (λ p. contradict (said_at c i history p) None) (λ p below. with_nothing (said_at c i history p))

-- what is found at the two places of a post's vote
pub against_here : (c : Numbers) (i : ℕ) (history : List Post) (n : ℕ) (entries : List (Place × ℕ)) (post : Post) (v : Vote) (root other : Option Place)
    (r : Option ℕ) → AreFirsts c i history n entries → first_contradiction c i history n ≡ None → said_at c i history n ≡ said c i post
    → said c i post ≡ Some (post.actor, v) → root ≡ root_place post.actor v → other ≡ place_of post.actor v
    → r ≡ option_or (option_and_then (told c i history (said c i post)) (option_and_then (first_at entries) root))
    (option_and_then (told c i history (said c i post)) (option_and_then (first_at entries) other))
    → r ≡ first_against c i history n
against_here c i history n entries post v root other r firsts none here says root_is other_is found =
    found
    ∙ (λ k. option_or (option_and_then (told c i history (says k)) (option_and_then (first_at entries) (root_is k)))
    (option_and_then (told c i history (says k)) (option_and_then (first_at entries) (other_is k))))
    ∙ sym (against c i history n entries (post.actor, v) firsts none (here ∙ says))
