-- A post names the number of a seat exactly where it is of that seat.
use Rattle.std.proofs.Common.{◌≡◌, ℕ, ◌<◌, ◌⊎◌, inl, inr, Bool, true, false, ◌||◌, ◌==◌, nat_lt, List, [], ◌∷◌, if◌then◌else◌, refl, sym, ap, ◌∙◌, arith}
use Rattle.std.specs.Prelude.{All, Contains}
use Rattle.std.proofs.lemmas.Bool.{and_parts, and_from, or_left, eqb-true, eq-eqb, ltb-true, lt-ltb}
use Rattle.std.proofs.lemmas.List.Elements.{filter_agree, All-nil, All-cons, All-head, All-tail}
use Rattle.hb_base.specs.Numbers.{Numbers}
use Rattle.hb_base.specs.NodeSet.{is_in}
use Rattle.hb_wire.specs.declared.vote.To.{To}
use Rattle.hb_wire.specs.declared.vote.Vote.{Vote}
use Rattle.hb_wire.specs.declared.post.Post.{Post}
use Rattle.hb_rules.specs.Book.{is_mine, mine_in, post_of, lie_of}
use Rattle.turn_book.specs.Entries.{entries_of}
use Rattle.post_book.specs.Numbering.{IsPlace, seat_number, post_number}

-- the number that an actor of this node names, where it is told whether the node lies
abbrev number_by : Bool → ℕ → ℕ → ℕ
number_by lies j a = if lies then seat_number j 255 else (if nat_lt a 256 then seat_number j a else 0)

by_its_seat : (lies : Bool) (i x a : ℕ) → x < 256 → (lies ≡ true → x ≡ 255) → (lies || (a == x)) ≡ true → number_by lies i a ≡ seat_number i x
by_its_seat true i x a small liar mine = ap (seat_number i) (sym (liar refl))
by_its_seat false i x a small liar mine = rw (eqb-true a x mine, lt-ltb x 256 small) refl

record IsBy (lies : Bool) (i x j a : ℕ) : Type 0 where
  node : j ≡ i
  actor : (lies || (a == x)) ≡ true

by_actor : (fits : Bool) (i x j a : ℕ) → x < 256 → (fits ≡ true → a < 256) → (if fits then seat_number j a else 0) ≡ seat_number i x → IsBy false i x j a
by_actor true i x j a small fits is =
    let within : a < 256 = fits refl in
    let actor : a ≡ x = omega (arith, is, small, within) in
    record { node = omega (arith, is, small, within); actor = eq-eqb a x actor }
by_actor false i x j a small fits is = absurd (omega (arith, is))

by_number : (lies : Bool) (i x j a : ℕ) → x < 256 → number_by lies j a ≡ seat_number i x → IsBy lies i x j a
by_number true i x j a small is = record { node = omega (arith, is, small); actor = refl }
by_number false i x j a small is = by_actor (nat_lt a 256) i x j a small (ltb-true a 256) is

same_tests : (p q : Bool) → (p ≡ true → q ≡ true) → (q ≡ true → p ≡ true) → p ≡ q
same_tests true true there back = refl
same_tests true false there back = sym (there refl)
same_tests false true there back = back refl
same_tests false false there back = refl

module _ (c : Numbers) (i x : ℕ) (place : IsPlace c i x) where
  pub names_mine : (post : Post) → is_mine c i x post ≡ true → post_number c post ≡ seat_number i x
  names_mine post mine =
      let parts = and_parts (post.from == i) (is_in c.liars i || (post.actor == x)) mine in
      rw (eqb-true post.from i parts.0) (by_its_seat (is_in c.liars i) i x post.actor place.small place.liar parts.1)

  pub mine_names : (post : Post) → post_number c post ≡ seat_number i x → is_mine c i x post ≡ true
  mine_names post is =
      let by = by_number (is_in c.liars post.from) i x post.from post.actor place.small is in
      and_from (post.from == i) (is_in c.liars i || (post.actor == x)) (eq-eqb post.from i by.node)
      (ap (λ (m : ℕ). is_in c.liars m || (post.actor == x)) (sym by.node) ∙ by.actor)

  names_or_not : (post : Post) → (post_number c post == seat_number i x) ≡ is_mine c i x post
  names_or_not post =
      same_tests (post_number c post == seat_number i x) (is_mine c i x post)
      (λ named. mine_names post (eqb-true (post_number c post) (seat_number i x) named))
      (λ mine. eq-eqb (post_number c post) (seat_number i x) (names_mine post mine))

  -- the entries of a seat's number are the seat's posts
  pub entries_are_mine : (posts : List Post) → entries_of (post_number c) (seat_number i x) posts ≡ mine_in c i x posts
  entries_are_mine posts = filter_agree (λ post. post_number c post == seat_number i x) (is_mine c i x) names_or_not posts

  -- the post of a vote, and a lie of a liar's node, name the number of the seat
  pub vote_names : (vote : Vote) → post_number c (post_of i x vote) ≡ seat_number i x
  vote_names vote = names_mine (post_of i x vote) (and_from (i == i) (is_in c.liars i || (x == x)) (eq-eqb i i refl) (either (is_in c.liars i)))
    where
      either : (lies : Bool) → (lies || (x == x)) ≡ true
      either true = refl
      either false = eq-eqb x x refl

  pub lie_names : (as_actor : ℕ) (to : To) (bytes : List ℕ) → is_in c.liars i ≡ true → post_number c (lie_of i as_actor to bytes) ≡ seat_number i x
  lie_names as_actor to bytes liar =
      names_mine (lie_of i as_actor to bytes)
      (and_from (i == i) (is_in c.liars i || (as_actor == x)) (eq-eqb i i refl) (or_left (is_in c.liars i) (as_actor == x) liar))

-- a post whose actor is below 256 is of some seat
pub names_some : (c : Numbers) (post : Post) → post.actor < 256 → post_number c post ≡ 0 → ⊥
names_some c post small none = some (is_in c.liars post.from) post.from post.actor small none
  where
    some : (lies : Bool) (j a : ℕ) → a < 256 → number_by lies j a ≡ 0 → ⊥
    some true j a small none = omega (arith, none)
    some false j a small none = omega (arith, rw (lt-ltb a 256 small) at none)

-- posts with actors below 256, each of which names 0 or a number given, name numbers given
pub given_alone : (c : Numbers) (given : List ℕ) (posts : List Post) → All (λ post. post.actor < 256) posts
    → All (λ post. (post_number c post ≡ 0) ⊎ Contains given (post_number c post)) posts → All (λ post. Contains given (post_number c post)) posts
given_alone c given [] small named = All-nil (λ (post : Post). Contains given (post_number c post))
given_alone c given (first ∷ posts) small named =
    let Small : Post → Type 0 = λ post. post.actor < 256 in
    let Named : Post → Type 0 = λ post. (post_number c post ≡ 0) ⊎ Contains given (post_number c post) in
    All-cons (λ (post : Post). Contains given (post_number c post)) first posts
    (one (All-head Small first posts small) (All-head Named first posts named))
    (given_alone c given posts (All-tail Small first posts small) (All-tail Named first posts named))
  where
    one : first.actor < 256 → (post_number c first ≡ 0) ⊎ Contains given (post_number c first) → Contains given (post_number c first)
    one below (inl none) = absurd (names_some c first below none)
    one below (inr stands) = stands
