-- Which seats of a shared book are still out, and what a closed history has of a seat.
use Rattle.std.specs.Prelude.{◌≡◌, ℕ, ◌⊎◌, List, Contains}
use Rattle.hb_base.specs.Numbers.{Numbers}
use Rattle.hb_wire.specs.declared.post.Post.{Post}
use Rattle.hb_rules.specs.Book.{mine_in}
use Rattle.hb_rules.specs.Ledger.{IsPrefix}
use Rattle.post_book.specs.Numbering.{IsPlace}
use Rattle.post_book.specs.SharedSeats.{SharedView, FirstView}

-- each seat that was made was joined, or has one of these numbers
abbrev pub AreOut : FirstView → List ℕ → Type 0
AreOut first out = (number : ℕ) → Contains first.given number
    → Contains out number ⊎ ((posts : List Post) × Contains first.joined (number, posts))

-- a closed history begins with what the seat had seen, and the posts of the seat in it are those that it had made
pub record HasAllOf (c : Numbers) (s : SharedView) (history : List Post) : Type 0 where
  pub begins : IsPrefix s.seat.seen history
  pub mine : IsPlace c s.seat.node s.seat.actor → mine_in c s.seat.node s.seat.actor history ≡ mine_in c s.seat.node s.seat.actor s.seat.seen
