-- Seats that are taken in, and what a closed history has of them.
use Rattle.std.proofs.Common.{◌≡◌, ◌∙◌, ℕ, inl, inr, ⊎_elim, List, [], ◌∷◌, ◌++◌, sym, subst, ap, append_assoc, arith}
use Rattle.std.specs.Prelude.{Contains}
use Rattle.std.proofs.lemmas.List.Elements.{Contains-push, Contains-push_cases, Contains-append_left, Contains-append_cases}
use Rattle.hb_wire.specs.declared.post.Post.{Post}
use Rattle.hb_rules.specs.Ledger.{IsPrefix}
use Rattle.post_book.specs.SharedSeats.{FirstView}
use Rattle.book_cases.specs.Seating.{AreOut}

none_in : {A : Type 0} (x : A) → Contains [] x → ⊥
none_in x stands = omega (arith, stands.1)

pub only_one : {A : Type 0} (a x : A) → Contains (a ∷ []) x → a ≡ x
only_one {A} a x stands =
    ⊎_elim (λ (none : Contains {X = A} [] x). absurd (none_in x none)) (λ (is : a ≡ x). is) (Contains-push_cases [] a x stands)

abbrev Joined : List (ℕ × List Post) → ℕ → Type 0
Joined joined number = (posts : List Post) × Contains joined (number, posts)

still_joined : (joined : List (ℕ × List Post)) (m number : ℕ) (posts : List Post) → Joined joined m → Joined (joined ++ (number, posts) ∷ []) m
still_joined joined m number posts stands = (stands.0, Contains-append_left joined ((number, posts) ∷ []) (m, stands.0) stands.1)

-- a seat that is joined is out no more
pub AreOut-joined : (old new : FirstView) (number : ℕ) (posts : List Post) → new.given ≡ old.given
    → new.joined ≡ old.joined ++ (number, posts) ∷ [] → (out : List ℕ) → AreOut old (number ∷ out) → AreOut new out
AreOut-joined old new number posts given joined out were m stands =
    ⊎_elim
    (λ (is_out : Contains (number ∷ out) m). ⊎_elim
    (λ (one : Contains (number ∷ []) m). inr (subst (λ (xs : List (ℕ × List Post)). Joined xs m) (sym joined)
    (subst (λ (k : ℕ). Joined (old.joined ++ (number, posts) ∷ []) k) (only_one number m one)
    (posts, Contains-push old.joined (number, posts)))))
    (λ (more : Contains out m). inl more)
    (Contains-append_cases (number ∷ []) out m is_out))
    (λ (was : Joined old.joined m). inr (subst (λ (xs : List (ℕ × List Post)). Joined xs m) (sym joined) (still_joined old.joined m number posts was)))
    (were m (subst (λ (xs : List ℕ). Contains xs m) given stands))

-- where no seat is out, each was joined
pub all_joined : (first : FirstView) → AreOut first [] → (m : ℕ) → Contains first.given m → Joined first.joined m
all_joined first none m stands =
    ⊎_elim (λ (is_out : Contains [] m). absurd (none_in m is_out)) (λ (was : Joined first.joined m). was) (none m stands)

-- at first all seats are out
pub AreOut-given : (first : FirstView) (out : List ℕ) → first.given ≡ out → AreOut first out
AreOut-given first out given m stands = inl (subst (λ (xs : List ℕ). Contains xs m) given stands)

pub IsPrefix-trans : {A : Type 0} (one two three : List A) → IsPrefix one two → IsPrefix two three → IsPrefix one three
IsPrefix-trans one two three front whole = record {
  rest = front.rest ++ whole.rest;
  is = whole.is ∙ ap (λ (xs : List _). xs ++ whole.rest) front.is ∙ append_assoc one front.rest whole.rest;
}

-- two seats that are joined one after the other: of both the posts are known
pub joined_first : (old last : List (ℕ × List Post)) (a b : ℕ) (mine_a mine_b : List Post) → last ≡ (old ++ (a, mine_a) ∷ []) ++ (b, mine_b) ∷ []
    → Contains last (a, mine_a)
joined_first old last a b mine_a mine_b is =
    subst (λ (xs : List (ℕ × List Post)). Contains xs (a, mine_a)) (sym is)
    (Contains-append_left (old ++ (a, mine_a) ∷ []) ((b, mine_b) ∷ []) (a, mine_a) (Contains-push old (a, mine_a)))

pub joined_last : (old last : List (ℕ × List Post)) (b : ℕ) (mine_b : List Post) → last ≡ old ++ (b, mine_b) ∷ [] → Contains last (b, mine_b)
joined_last old last b mine_b is =
    subst (λ (xs : List (ℕ × List Post)). Contains xs (b, mine_b)) (sym is) (Contains-push old (b, mine_b))
