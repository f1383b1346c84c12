-- A liar's posts.
use Rattle.std.specs.Prelude.{◌≡◌, ◌⊎◌, ℕ, ◌≤◌, List, [], ◌∷◌, ◌++◌, count_by}
use Rattle.std.specs.List.{filter}
use Rattle.hb_base.specs.Numbers.{Numbers}
use Rattle.hb_base.specs.Limits.{most_lies}
use Rattle.hb_wire.specs.declared.post.Lie.{Lie}
use Rattle.hb_wire.specs.declared.post.Post.{Post}
use Rattle.hb_rules.specs.Book.{lie_of}
use Rattle.step_driver.specs.Delivering.{is_from}

-- Posts under node i of some of these lies, in the order of the lies: of each lie at most one post. Of a lie that the book
-- refused there is none.
abbrev pub AreSome : ℕ → List Lie → List Post → Type 0
AreSome i [] posts = posts ≡ []
AreSome i (lie ∷ lies) posts =
    AreSome i lies posts ⊎ ((rest : List Post) × (posts ≡ lie_of i lie.actor lie.to lie.bytes ∷ rest) × AreSome i lies rest)

-- A liar's seat of any kind of book posted some of these lies, in order and each at most once, and so many posts stand under its
-- node.
pub record Tells {S : Type 0} (config : S → Numbers) (node actor : S → ℕ) (seen : S → List Post) (lies : List Lie) (old new : S) (told : ℕ) : Type 0 where
  pub same : (config new ≡ config old) × (node new ≡ node old) × (actor new ≡ actor old)
  pub said : count_by (is_from (node new)) (seen new) ≡ told
  pub few : told ≤ most_lies
  pub added : List Post
  pub grown : seen new ≡ seen old ++ added
  pub own : AreSome (node old) lies (filter (is_from (node old)) added)
