-- The seats of a shared book as their callers see them.
use Rattle.std.specs.Prelude.{◌≡◌, ℕ, ◌<◌, List, Option, Some, IfSome, Contains, slice_get}
use Rattle.hb_base.specs.Numbers.{Numbers}
use Rattle.atomic_table.specs.Seated.{TableId}
use Rattle.hb_wire.specs.declared.post.Post.{Post}
use Rattle.hb_rules.specs.Book.{SeatView}
use Rattle.post_book.specs.declared.seat.Found.{Found}

-- a seat of an actor: which book it is of, how often it was shown the whole history, and what it knows
pub record SharedView : Type 0 where
  pub book : TableId
  pub looks : ℕ
  pub seat : SeatView

-- The first seat of a book, by which the others are made: which book it is of, what it has seen, the numbers of the seats
-- made, and the number and the posts of each seat that was joined into it.
pub record FirstView : Type 0 where
  pub book : TableId
  pub seen : List Post
  pub given : List ℕ
  pub joined : List (ℕ × List Post)

-- each seat that was made was joined
abbrev pub AllJoined : FirstView → Type 0
AllJoined first = (number : ℕ) → Contains first.given number → (posts : List Post) × Contains first.joined (number, posts)

-- what a seat keeps, if anything, is a post that it has seen, of one of the n nodes
abbrev pub IsFound : Numbers → List Post → Option Found → Type 0
IsFound c seen last = IfSome last (λ found. (slice_get seen found.k ≡ Some found.post) × (found.post.from < c.n))
