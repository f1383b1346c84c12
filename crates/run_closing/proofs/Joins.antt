-- Seats that are taken in one after another.
use Rattle.std.proofs.Common.{◌≡◌, ◌≢◌, ℕ, ◌<◌, ◌⊎◌, inl, inr, List, [], ◌∷◌, ◌++◌, length, map, get_or, refl, sym, ap, ◌∙◌, subst, append_assoc, append-nil}
use Rattle.std.specs.Prelude.{Contains}
use Rattle.std.proofs.lemmas.List.{length-map, map_push}
use Rattle.std.proofs.lemmas.List.Elements.{All-nil, All-push, All-weaker, All-map, Contains-get_or, Contains-push, Contains-append_left, Contains-append_right}
use Rattle.std.proofs.lemmas.List.Quantifiers.{all_pairs_push}
use Rattle.hb_base.specs.Numbers.{Numbers}
use Rattle.hb_wire.specs.declared.post.Post.{Post}
use Rattle.hb_rules.specs.Book.{SeatView}
use Rattle.hb_rules.specs.Ledger.{IsPrefix}
use Rattle.post_book.specs.SharedSeats.{FirstView, AllJoined}
use Rattle.step_driver.proofs.Endings.{Contains-map}
use Rattle.run_closing.specs.Joining.{number_at, entry_of, HaveTwoNumbers, HasJoined}
use Rattle.run_closing.proofs.Among.{image_of, pairs_none, pairs_map, all_there}

pub IsPrefix-refl : {A : Type 0} (xs : List A) → IsPrefix xs xs
IsPrefix-refl xs = record { rest = []; is = sym (append-nil xs) }

pub IsPrefix-trans : {A : Type 0} (one two three : List A) → IsPrefix one two → IsPrefix two three → IsPrefix one three
IsPrefix-trans {A} one two three front whole = record {
  rest = front.rest ++ whole.rest;
  is = whole.is ∙ ap (λ (xs : List A). xs ++ whole.rest) front.is ∙ append_assoc one front.rest whole.rest;
}

-- what a call of `join` tells of a seat that was taken in
pub record IsTakenIn (c : Numbers) (old new : FirstView) (seat : SeatView) : Type 0 where
  pub joined : new ≡ record old { seen = new.seen; joined = old.joined ++ entry_of c seat ∷ [] }
  pub longer : (new.seen ≡ old.seen) ⊎ (new.seen ≡ seat.seen)
  pub before : IsPrefix old.seen new.seen
  pub begun : IsPrefix seat.seen new.seen
  pub made : Contains old.given (number_at seat)
  pub once : (posts : List Post) → ¬ Contains old.joined (number_at seat, posts)

pub HasJoined-none : (c : Numbers) (first : FirstView) → HasJoined c [] first first
HasJoined-none c first = record {
  book = refl;
  given = refl;
  joined = sym (append-nil first.joined);
  before = IsPrefix-refl first.seen;
  begun = All-nil (λ (seat : SeatView). IsPrefix seat.seen first.seen);
  longest = inl refl;
  made = All-nil (λ (seat : SeatView). Contains first.given (number_at seat));
  fresh = All-nil (λ (seat : SeatView). (posts : List Post) → ¬ Contains first.joined (number_at seat, posts));
  apart = pairs_none HaveTwoNumbers;
}

-- one more
pub HasJoined-more : (c : Numbers) (seats : List SeatView) (old mid new : FirstView) (seat : SeatView) → HasJoined c seats old mid → IsTakenIn c mid new seat
    → HasJoined c (seats ++ seat ∷ []) old new
HasJoined-more c seats old mid new seat were now = record {
  book = ap (λ (f : FirstView). f.book) now.joined ∙ were.book;
  given = ap (λ (f : FirstView). f.given) now.joined ∙ were.given;
  joined =
      ap (λ (f : FirstView). f.joined) now.joined
      ∙ ap (λ (xs : List (ℕ × List Post)). xs ++ entry_of c seat ∷ []) were.joined
      ∙ append_assoc old.joined (map (entry_of c) seats) (entry_of c seat ∷ [])
      ∙ ap (λ (xs : List (ℕ × List Post)). old.joined ++ xs) (sym (map_push (entry_of c) seats seat));
  before = IsPrefix-trans old.seen mid.seen new.seen were.before now.before;
  begun =
      All-push (λ (one : SeatView). IsPrefix one.seen new.seen) seats seat
      (All-weaker (λ (one : SeatView). IsPrefix one.seen mid.seen) (λ one. IsPrefix one.seen new.seen)
      (λ one begins. IsPrefix-trans one.seen mid.seen new.seen begins now.before) seats were.begun)
      now.begun;
  longest = longest were.longest now.longer;
  made = All-push (λ (one : SeatView). Contains old.given (number_at one)) seats seat were.made
      (subst (λ (given : List ℕ). Contains given (number_at seat)) were.given now.made);
  fresh = All-push (λ (one : SeatView). (posts : List Post) → ¬ Contains old.joined (number_at one, posts)) seats seat were.fresh
      (λ posts stands. now.once posts (in_mid posts (Contains-append_left old.joined (map (entry_of c) seats) (number_at seat, posts) stands)));
  apart = all_pairs_push HaveTwoNumbers seats seat were.apart other;
}
  where
    in_mid : {number : ℕ} (posts : List Post) → Contains (old.joined ++ map (entry_of c) seats) (number, posts) → Contains mid.joined (number, posts)
    in_mid {number} posts stands = subst (λ (xs : List (ℕ × List Post)). Contains xs (number, posts)) (sym were.joined) stands

    longest : (mid.seen ≡ old.seen) ⊎ Contains (map (λ (one : SeatView). one.seen) seats) mid.seen → (new.seen ≡ mid.seen) ⊎ (new.seen ≡ seat.seen)
        → (new.seen ≡ old.seen) ⊎ Contains (map (λ (one : SeatView). one.seen) (seats ++ seat ∷ [])) new.seen
    longest (inl was) (inl same) = inl (same ∙ was)
    longest (inr was) (inl same) =
        inr (rw (map_push (λ (one : SeatView). one.seen) seats seat, same)
        (Contains-append_left (map (λ (one : SeatView). one.seen) seats) (seat.seen ∷ []) mid.seen was))
    longest was (inr is) =
        inr (rw (map_push (λ (one : SeatView). one.seen) seats seat, is) (Contains-push (map (λ (one : SeatView). one.seen) seats) seat.seen))

    -- a seat that was taken in earlier has another number
    other : (k : ℕ) (d : SeatView) → k < length seats → HaveTwoNumbers (get_or seats k d) seat
    other k d within same =
        let one = get_or seats k d in
        let entry : Contains (map (entry_of c) seats) (entry_of c one) = Contains-map (entry_of c) seats one (Contains-get_or seats k d within) in
        let stands : Contains mid.joined (entry_of c one) = in_mid (entry_of c one).1 (Contains-append_right old.joined (map (entry_of c) seats) (entry_of c one) entry) in
        now.once (entry_of c one).1 (subst (λ (number : ℕ). Contains mid.joined (number, (entry_of c one).1)) same stands)

-- what was taken in
pub entry_stands : (c : Numbers) (seats : List SeatView) (old new : FirstView) (seat : SeatView) → HasJoined c seats old new → Contains seats seat
    → Contains new.joined (entry_of c seat)
entry_stands c seats old new seat joined stands =
    subst (λ (xs : List (ℕ × List Post)). Contains xs (entry_of c seat)) (sym joined.joined)
    (Contains-append_right old.joined (map (entry_of c) seats) (entry_of c seat) (Contains-map (entry_of c) seats seat stands))

-- Where as many were taken in as were made, and none before, these are all.
pub all_joined : (c : Numbers) (seats : List SeatView) (old new : FirstView) → HasJoined c seats old new → length seats ≡ length old.given → AllJoined new
all_joined c seats old new joined same number stands =
    let there : Contains (map number_at seats) number =
    all_there (map number_at seats) old.given (pairs_map (λ a b. a ≢ b) number_at seats joined.apart)
    (All-map (Contains old.given) number_at seats joined.made)
    (length-map seats number_at ∙ same) number (subst (λ (given : List ℕ). Contains given number) joined.given stands) in
    let of = image_of number_at seats number there in (
      (entry_of c of.element).1,
      subst (λ (n : ℕ). Contains new.joined (n, (entry_of c of.element).1)) of.is (entry_stands c seats old new of.element joined of.stands),
    )
