-- What a seat of a shared book may post, and what it knows when it has posted.
use Rattle.std.specs.Prelude.{◌≡◌, ℕ, ◌⊎◌, true, List, [], ◌∷◌, Result, Ok, Err, Some, All, IfOk, OnErr, slice_get}
use Rattle.atomic_table.specs.Seated.{TableId}
use Rattle.hb_base.specs.Numbers.{Numbers}
use Rattle.hb_wire.specs.declared.post.Post.{Post}
use Rattle.hb_wire.specs.declared.vote.Vote.{Vote}
use Rattle.hb_wire.specs.Votes.{Spells, spelling}
use Rattle.hb_rules.specs.declared.book.BookFault.{BookFault}
use Rattle.hb_rules.specs.Book.{is_mine, mine_in, post_of, Watched, Posted}
use Rattle.hb_rules.specs.History.{IsAllowed, IsLegal}
use Rattle.post_book.specs.SharedSeats.{SharedView}

-- a seat of this book that may post this vote, which has a spelling
pub record MayPost (name : TableId) (vote : Vote) (s : SharedView) : Type 0 where
  pub book : s.book ≡ name
  pub spelled : Spells s.seat.config.n s.seat.config.version (spelling vote) vote
  pub allowed : IsAllowed s.seat.config s.seat.node s.seat.actor s.seat.seen vote

-- the same seat, which may have seen more
pub record IsSame (old new : SharedView) : Type 0 where
  pub book : new.book ≡ old.book
  pub seat : new.seat ≡ record old.seat { seen = new.seat.seen }

-- a seat posted a vote: it stands behind what the seat then had seen, under the number that was told, or nothing was posted
pub record HasPosted (vote : Vote) (told : Result ℕ BookFault) (old new : SharedView) : Type 0 where
  pub same : IsSame old new
  pub stands : IfOk told (λ k. Posted old.seat.config old.seat.node old.seat.actor (post_of old.seat.node old.seat.actor vote) k old.seat.seen new.seat.seen)
  pub refused : OnErr told (Watched old.seat.config old.seat.node old.seat.actor old.seat.seen new.seat.seen)

-- the posts of an actor that posted a vote once, and was told so
abbrev pub posts_told : ℕ → ℕ → Vote → Result ℕ BookFault → List Post
posts_told i x vote (Ok k) = post_of i x vote ∷ []
posts_told i x vote (Err fault) = []

-- a closed history in which actor x of the nodes 0 and 1 posted a vote, each once
pub record IsOfTwo (c : Numbers) (x : ℕ) (vote : Vote) (one two : Result ℕ BookFault) (history : List Post) : Type 0 where
  pub legal : IsLegal c history
  pub mine_one : mine_in c 0 x history ≡ posts_told 0 x vote one
  pub mine_two : mine_in c 1 x history ≡ posts_told 1 x vote two
  pub others : All (λ post. (is_mine c 0 x post ≡ true) ⊎ (is_mine c 1 x post ≡ true)) history
  pub at_one : IfOk one (λ k. slice_get history k ≡ Some (post_of 0 x vote))
  pub at_two : IfOk two (λ k. slice_get history k ≡ Some (post_of 1 x vote))
