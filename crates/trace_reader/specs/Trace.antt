-- Texts of histories: of which run and posts a text is, and which line of other bytes is the first that breaks the form.
use Rattle.std.specs.Prelude.{◌≡◌, ℕ, ◌+◌, ◌^◌, ◌<◌, ◌⊎◌, List, ◌∷◌, ◌++◌, length, All}
use Rattle.hb_base.specs.ByteLists.{AreBytes}
use Rattle.hb_base.specs.Limits.{most_nodes}
use Rattle.hb_base.specs.Numbers.{Numbers, AreSound}
use Rattle.hb_wire.specs.declared.vote.To.{To}
use Rattle.hb_wire.specs.declared.vote.To.TheVariants as addresses
use Rattle.hb_wire.specs.declared.post.Post.{Post}
use Rattle.ledger_text.specs.Lines.{end_line}
use Rattle.trace_text.specs.Text.{trace_line, post_line, posts_text}

-- bytes of a text at most, 2 ^ 26
abbrev pub longest_trace : ℕ
longest_trace = 67108864

-- the numbers of a run that can be built: a seed of 64 bits, and a mark for each of 16 nodes
pub record IsConfig (c : Numbers) : Type 0 where
  pub sound : AreSound c
  pub seed : c.seed < 2 ^ 64
  pub marks : length c.liars ≡ most_nodes

-- a target is a number of one byte
abbrev pub IsAddress : To → Type 0
IsAddress addresses.Book = Unit {0}
IsAddress addresses.Home = Unit {0}
IsAddress addresses.All = Unit {0}
IsAddress (addresses.Node m) = m < 256

-- a post of numbers of one byte, and of bytes
pub record IsPost (post : Post) : Type 0 where
  pub from : post.from < 256
  pub actor : post.actor < 256
  pub to : IsAddress post.to
  pub bytes : AreBytes post.bytes

-- bytes are the text of a run with config c and of these posts
pub record IsTrace (bytes : List ℕ) (c : Numbers) (posts : List Post) : Type 0 where
  pub config : IsConfig c
  pub each : All IsPost posts
  pub text : bytes ≡ trace_line c ++ (posts_text 0 posts ++ end_line (length posts))

-- bytes are no text of any run and posts
abbrev pub IsNoTrace : List ℕ → Type 0
IsNoTrace bytes = (c : Numbers) (posts : List Post) → IsTrace bytes c posts → ⊥

-- bytes begin with the first line of a run and the lines of posts, with these bytes behind them
pub record IsBegun (bytes : List ℕ) (c : Numbers) (posts : List Post) (rest : List ℕ) : Type 0 where
  pub config : IsConfig c
  pub each : All IsPost posts
  pub text : bytes ≡ trace_line c ++ (posts_text 0 posts ++ rest)

-- the first line is that of no run
pub record HasNoHead (bytes : List ℕ) : Type 0 where
  pub no_head : (c : Numbers) (rest : List ℕ) → IsConfig c → bytes ≡ trace_line c ++ rest → ⊥

-- behind the first line and those of so many posts comes neither the line of a next post nor the last line
pub record EndsAfter (bytes : List ℕ) (count : ℕ) : Type 0 where
  pub c : Numbers
  pub posts : List Post
  pub rest : List ℕ
  pub begun : IsBegun bytes c posts rest
  pub count_is : length posts ≡ count
  pub no_post : (post : Post) (later : List ℕ) → IsPost post → rest ≡ post_line count post ++ later → ⊥
  pub no_end : (later : List ℕ) → rest ≡ end_line count ++ later → ⊥

-- something stands behind the last line, that of so many posts
pub record GoesOnAfter (bytes : List ℕ) (count : ℕ) : Type 0 where
  pub c : Numbers
  pub posts : List Post
  pub byte : ℕ
  pub later : List ℕ
  pub begun : IsBegun bytes c posts (end_line count ++ byte ∷ later)
  pub count_is : length posts ≡ count

-- The first line, counted from 1, that breaks the form. It is the first, or one behind so many right posts that is none of
-- those that may come there, or the one behind the last. Where a line is missing, it is that line.
abbrev pub BreaksAt : List ℕ → ℕ → Type 0
BreaksAt bytes line =
    ((line ≡ 1) × HasNoHead bytes) ⊎ ((count : ℕ) × (((line ≡ count + 2) × EndsAfter bytes count) ⊎ ((line ≡ count + 3) × GoesOnAfter bytes count)))
