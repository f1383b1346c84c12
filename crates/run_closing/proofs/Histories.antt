-- A closed history has what the seats have seen, and no more.
use Rattle.std.proofs.Common.{◌≡◌, ℕ, ◌≤◌, inl, inr, Bool, true, false, if◌then◌else◌, List, [], ◌∷◌, ◌++◌, length, map, refl, sym, ap, ◌∙◌, subst, append_assoc, append-nil, arith, length-append}
use Rattle.std.specs.Prelude.{All, Contains}
use Rattle.std.proofs.lemmas.List.{append_cancel_left}
use Rattle.std.proofs.lemmas.List.Elements.{All-contains, Contains-append_right}
use Rattle.hb_base.specs.Numbers.{Numbers}
use Rattle.hb_wire.specs.declared.post.Post.{Post}
use Rattle.hb_rules.specs.Book.{SeatView, is_mine, mine_in, Watched}
use Rattle.hb_rules.specs.BookLaws.{mine_in-append}
use Rattle.hb_rules.specs.Ledger.{IsPrefix}
use Rattle.hb_rules.proofs.Lists.{Contains-first}
use Rattle.post_book.specs.Numbering.{IsPlace, post_number}
use Rattle.post_book.specs.SharedSeats.{FirstView, AllJoined}
use Rattle.post_book.proofs.Numbers.{mine_names}
use Rattle.run_closing.specs.Joining.{entry_of, HasJoined, HasClosed}
use Rattle.run_closing.proofs.Among.{image_of}
use Rattle.run_closing.proofs.Joins.{IsPrefix-trans, entry_stands}

-- posts of no seat but others', where a post of the seat comes first
not_mine : (c : Numbers) (i x : ℕ) (post : Post) (posts : List Post) → is_mine c i x post ≡ true → mine_in c i x (post ∷ posts) ≡ [] → ⊥
not_mine c i x post posts mine none = by (is_mine c i x post) mine none
  where
    by : (b : Bool) → b ≡ true → (if b then post ∷ mine_in c i x posts else mine_in c i x posts) ≡ [] → ⊥
    by true is none = cc
    by false is none = cc

append_nil_right : {A : Type 0} (xs ys : List A) → xs ++ ys ≡ [] → ys ≡ []
append_nil_right [] ys none = none
append_nil_right (x ∷ xs) ys none = absurd (cc (none))

-- All seats that were made were taken in, of places of the config, by a first seat that had taken in none; then the book was closed.
pub record IsClosedOver (c : Numbers) (seats : List SeatView) (old new : FirstView) (history : List Post) : Type 0 where
  pub none : old.joined ≡ []
  pub joined : HasJoined c seats old new
  pub places : All (λ seat. IsPlace c seat.node seat.actor) seats
  pub all : AllJoined new
  pub closed : HasClosed c new history

module _ (c : Numbers) (seats : List SeatView) (old new : FirstView) (history : List Post) (over : IsClosedOver c seats old new history) where
  -- a seat's posts in the history are those that it has seen
  mine_seen : (seat : SeatView) → Contains seats seat → mine_in c seat.node seat.actor history ≡ mine_in c seat.node seat.actor seat.seen
  mine_seen seat stands =
      over.closed.mine seat.node seat.actor (mine_in c seat.node seat.actor seat.seen)
      (All-contains (λ (one : SeatView). IsPlace c one.node one.actor) seats seat over.places stands)
      (entry_stands c seats old new seat over.joined stands)

  none_after : (seat : SeatView) (between : List Post) → Contains seats seat → history ≡ seat.seen ++ between → mine_in c seat.node seat.actor between ≡ []
  none_after seat between stands is =
      let mine = λ (posts : List Post). mine_in c seat.node seat.actor posts in
      append_cancel_left (mine seat.seen) (mine between) []
      (sym (mine_in-append c seat.node seat.actor seat.seen between) ∙ ap mine (sym is) ∙ mine_seen seat stands ∙ sym (append-nil (mine seat.seen)))

  begins : (seat : SeatView) → Contains seats seat → IsPrefix seat.seen new.seen
  begins seat stands = All-contains (λ (one : SeatView). IsPrefix one.seen new.seen) seats seat over.joined.begun stands

  -- what a seat has not seen is of others
  pub seat_watched : (seat : SeatView) → Contains seats seat → Watched c seat.node seat.actor seat.seen history
  seat_watched seat stands =
      let front = IsPrefix-trans seat.seen new.seen history (begins seat stands) over.closed.begins in
      record { between = front.rest; others = none_after seat front.rest stands front.is; is = front.is }

  -- whose a post is
  record IsOfSeat (post : Post) : Type 0 where
    seat : SeatView
    stands : Contains seats seat
    mine : is_mine c seat.node seat.actor post ≡ true

  owner : (post : Post) → Contains history post → IsOfSeat post
  owner post stands =
      let given = All-contains (λ (one : Post). Contains new.given (post_number c one)) history post over.closed.others stands in
      let entry = over.all (post_number c post) given in
      let joined : new.joined ≡ map (entry_of c) seats = over.joined.joined ∙ ap (λ (xs : List (ℕ × List Post)). xs ++ map (entry_of c) seats) over.none in
      let of = image_of (entry_of c) seats (post_number c post, entry.0) (subst (λ (xs : List (ℕ × List Post)). Contains xs (post_number c post, entry.0)) joined entry.1) in
      let seat = of.element in
      record {
        seat = seat;
        stands = of.stands;
        mine =
            mine_names c seat.node seat.actor (All-contains (λ (one : SeatView). IsPlace c one.node one.actor) seats seat over.places of.stands) post
            (sym (ap (λ (one : ℕ × List Post). one.0) of.is));
      }

  -- the first seat has seen all: a post beyond would be of a seat that was taken in, and that has seen its own
  nothing_beyond : (rest : List Post) → history ≡ new.seen ++ rest → rest ≡ []
  nothing_beyond [] is = refl
  nothing_beyond (post ∷ rest) is =
      let of = owner post (subst (λ (posts : List Post). Contains posts post) (sym is) (Contains-append_right new.seen (post ∷ rest) post (Contains-first post rest))) in
      let seat = of.seat in
      let begun = begins seat of.stands in
      let between : history ≡ seat.seen ++ (begun.rest ++ post ∷ rest) =
      is ∙ ap (λ (posts : List Post). posts ++ post ∷ rest) begun.is ∙ append_assoc seat.seen begun.rest (post ∷ rest) in
      let none : mine_in c seat.node seat.actor (post ∷ rest) ≡ [] =
      append_nil_right (mine_in c seat.node seat.actor begun.rest) (mine_in c seat.node seat.actor (post ∷ rest))
      (sym (mine_in-append c seat.node seat.actor begun.rest (post ∷ rest)) ∙ none_after seat (begun.rest ++ post ∷ rest) of.stands between) in
      absurd (not_mine c seat.node seat.actor post rest of.mine none)

  pub is_seen : history ≡ new.seen
  is_seen =
      over.closed.begins.is
      ∙ ap (λ (posts : List Post). new.seen ++ posts) (nothing_beyond over.closed.begins.rest over.closed.begins.is)
      ∙ append-nil new.seen

  -- the history is no longer than what some seat has seen
  pub is_short : (m : ℕ) → old.seen ≡ [] → All (λ seat. length seat.seen ≤ m) seats → length history ≤ m
  is_short m nothing few = elim over.joined.longest [
    | inl same ↦ omega (arith, ap (λ (posts : List Post). length posts) (is_seen ∙ same ∙ nothing))
    | inr stands ↦
        let of = image_of (λ (seat : SeatView). seat.seen) seats new.seen stands in
        omega (
          arith,
          All-contains (λ (seat : SeatView). length seat.seen ≤ m) seats of.element few of.stands,
          ap (λ (posts : List Post). length posts) (is_seen ∙ sym of.is),
        )
  ]

  -- a seat that has seen so much has seen all
  pub sees_all : (m : ℕ) (seat : SeatView) → Contains seats seat → length history ≤ m → length seat.seen ≡ m → history ≡ seat.seen
  sees_all m seat stands short whole =
      let watched = seat_watched seat stands in
      watched.is ∙ ap (λ (posts : List Post). seat.seen ++ posts)
      (none_left watched.between (omega (arith, ap (λ (posts : List Post). length posts) watched.is, length-append seat.seen watched.between, short, whole)))
      ∙ append-nil seat.seen
    where
      none_left : (posts : List Post) → length posts ≤ 0 → posts ≡ []
      none_left [] few = refl
      none_left (post ∷ posts) few = absurd (omega (arith, few))
