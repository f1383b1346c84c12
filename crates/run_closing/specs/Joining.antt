-- The seats of a run, as the first seat of their book takes them in. The letters: a run of config c.
use Rattle.std.specs.Prelude.{◌≡◌, ◌≢◌, ◌⊎◌, ℕ, List, ◌++◌, map, All, Contains}
use Rattle.std.specs.List.{AllPairs}
use Rattle.hb_base.specs.Numbers.{Numbers}
use Rattle.hb_wire.specs.declared.post.Post.{Post}
use Rattle.hb_rules.specs.Book.{SeatView, mine_in}
use Rattle.hb_rules.specs.Ledger.{IsPrefix}
use Rattle.hb_rules.specs.History.{IsLegal}
use Rattle.post_book.specs.Numbering.{IsPlace, seat_number, post_number}
use Rattle.post_book.specs.SharedSeats.{SharedView, FirstView}

-- the number of a seat in its book
abbrev pub number_at : SeatView → ℕ
number_at seat = seat_number seat.node seat.actor

-- what the first seat keeps of a seat that it takes in: its number, and its posts
abbrev pub entry_of : Numbers → SeatView → ℕ × List Post
entry_of c seat = (number_at seat, mine_in c seat.node seat.actor seat.seen)

-- what seats know, whichever book they are of
abbrev pub seats_in : List SharedView → List SeatView
seats_in shared = map (λ one. one.seat) shared

-- two seats have two numbers
abbrev pub HaveTwoNumbers : SeatView → SeatView → Type 0
HaveTwoNumbers one other = number_at one ≢ number_at other

-- The first seat took in these seats, in this order, each of which was made by it and was not in yet. What it has then seen is
-- the longest of what it had seen and what they have.
pub record HasJoined (c : Numbers) (seats : List SeatView) (old new : FirstView) : Type 0 where
  pub book : new.book ≡ old.book
  pub given : new.given ≡ old.given
  pub joined : new.joined ≡ old.joined ++ map (entry_of c) seats
  pub before : IsPrefix old.seen new.seen
  pub begun : All (λ seat. IsPrefix seat.seen new.seen) seats
  pub longest : (new.seen ≡ old.seen) ⊎ Contains (map (λ seat. seat.seen) seats) new.seen
  pub made : All (λ seat. Contains old.given (number_at seat)) seats
  pub fresh : All (λ seat. (posts : List Post) → ¬ Contains old.joined (number_at seat, posts)) seats
  pub apart : AllPairs HaveTwoNumbers seats

-- The history of a book that was closed with this first seat: it is legal and begins with what that had seen, the posts of each
-- seat in it are those that the first seat kept, and there are no others.
pub record HasClosed (c : Numbers) (first : FirstView) (history : List Post) : Type 0 where
  pub legal : IsLegal c history
  pub begins : IsPrefix first.seen history
  pub mine : (i x : ℕ) (posts : List Post) → IsPlace c i x → Contains first.joined (seat_number i x, posts) → mine_in c i x history ≡ posts
  pub others : All (λ post. Contains first.given (post_number c post)) history

-- a book was closed with this first seat, once that had taken in these seats
pub record HasClosedWith (c : Numbers) (seats : List SeatView) (first : FirstView) (history : List Post) : Type 0 where
  pub last : FirstView
  pub joined : HasJoined c seats first last
  pub closed : HasClosed c last history
