-- The post book and its seats. The letters: the seat of actor x of node i, in a book of config c.
use Rattle.std.specs.Prelude.{◌≡◌, ◌≢◌, ℕ, ◌<◌, Bool, true, false, ◌&&◌, ◌||◌, ◌==◌, List, [], ◌∷◌, ◌++◌, length, filter, All}
use Rattle.std.specs.List.{list_all}
use Rattle.hb_base.specs.Numbers.{Numbers}
use Rattle.hb_base.specs.NodeSet.{is_in}
use Rattle.hb_wire.specs.declared.vote.To.{To}
use Rattle.hb_wire.specs.declared.vote.Vote.{Vote}
use Rattle.hb_wire.specs.declared.post.Post.{Post}
use Rattle.hb_wire.specs.Votes.{address_of, spelling}
use Rattle.hb_rules.specs.History.{IsLegal}

-- what a seat knows: the config, whose seat it is, and the beginning of the history that it has seen
pub record SeatView : Type 0 where
  pub config : Numbers
  pub node : ℕ
  pub actor : ℕ
  pub seen : List Post

-- what a book keeps: the config of the run and the history so far
pub record BookView : Type 0 where
  pub config : Numbers
  pub posts : List Post

-- what holds of all posts that a book keeps: they are a legal history, and name actors below 256
pub record AreKept (book : BookView) : Type 0 where
  pub legal : IsLegal book.config book.posts
  pub actors : All (λ post. post.actor < 256) book.posts

-- the seat has seen the whole history of the book
abbrev pub HasSeenAll : BookView → SeatView → Type 0
HasSeenAll book seat = seat.seen ≡ book.posts

-- the post of a vote: it has the vote's bytes, and goes where the vote goes
abbrev pub post_of : ℕ → ℕ → Vote → Post
post_of i x vote = record { from = i; actor = x; to = address_of vote; bytes = spelling vote }

-- the post of a liar's node
abbrev pub lie_of : ℕ → ℕ → To → List ℕ → Post
lie_of i as_actor to bytes = record { from = i; actor = as_actor; to = to; bytes = bytes }

-- Whether a post is of the seat of actor x of node i. The seat of a liar is of its whole node, which posts as any actor.
abbrev pub is_mine : Numbers → ℕ → ℕ → Post → Bool
is_mine c i x post = (post.from == i) && (is_in c.liars i || (post.actor == x))

-- the posts of a seat in a history
abbrev pub mine_in : Numbers → ℕ → ℕ → List Post → List Post
mine_in c i x history = filter (is_mine c i x) history

-- two seats: of different nodes, or of two actors of a correct node
abbrev pub AreTwo : Numbers → ℕ → ℕ → ℕ → ℕ → Type 0
AreTwo c i x a y = a ≡ i → (is_in c.liars i ≡ false) × (y ≢ x)

-- a history went on by posts of others
pub record Watched (c : Numbers) (i x : ℕ) (old new : List Post) : Type 0 where
  pub between : List Post
  pub others : mine_in c i x between ≡ []
  pub is : new ≡ old ++ between

-- a history went on by posts of others, and then by this post, which is number k
pub record Posted (c : Numbers) (i x : ℕ) (post : Post) (k : ℕ) (old new : List Post) : Type 0 where
  pub before : List Post
  pub watched : Watched c i x old before
  pub number : k ≡ length before
  pub is : new ≡ before ++ post ∷ []

-- a history went on by posts of this seat alone
pub record Extended (c : Numbers) (i x : ℕ) (old new : List Post) : Type 0 where
  pub added : List Post
  pub mine : list_all (is_mine c i x) added ≡ true
  pub is : new ≡ old ++ added

-- the seat is of this book: what it has not seen is of others
pub record IsSeatOf (book : BookView) (seat : SeatView) : Type 0 where
  pub config : seat.config ≡ book.config
  pub known : seat.node < seat.config.n
  pub watched : Watched seat.config seat.node seat.actor seat.seen book.posts

-- the same book, after calls on the seat of actor x of node i alone
pub record Moved (i x : ℕ) (old new : BookView) : Type 0 where
  pub config : new.config ≡ old.config
  pub extended : Extended old.config i x old.posts new.posts
