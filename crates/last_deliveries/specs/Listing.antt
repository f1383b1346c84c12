-- Where the addresses of posts lead. The letters: post k, node i, actor x.
use Rattle.std.specs.Prelude.{◌≡◌, ℕ, ◌≤◌, ◌==◌, ◌&&◌, Bool, true, false, List, [], length, Contains, Some, slice_get, slice_index_or}
use Rattle.hb_wire.specs.declared.vote.To.{To}
use Rattle.hb_wire.specs.declared.vote.To.TheVariants.{Book, Home, All, Node}
use Rattle.hb_wire.specs.declared.post.Post.{Post}

abbrev pub no_numbers : List ℕ
no_numbers = []

abbrev pub address_leads_to_node : To → ℕ → ℕ → Bool
address_leads_to_node Book from i = false
address_leads_to_node Home from i = i == from
address_leads_to_node All from i = false
address_leads_to_node (Node target) from i = i == target

abbrev pub is_to_all : To → Bool
is_to_all Book = false
is_to_all Home = false
is_to_all All = true
is_to_all (Node target) = false

-- whether a post leads to one node, to node i
abbrev pub leads_to_node : Post → ℕ → Bool
leads_to_node post i = address_leads_to_node post.to post.from i

-- whether a post leads to an actor of each node, to actor x
abbrev pub leads_to_actor : Post → ℕ → Bool
leads_to_actor post x = is_to_all post.to && (x == post.actor)

-- each list has what it had
pub record IsKept (old new : List (List ℕ)) : Type 0 where
  pub count : length new ≡ length old
  pub each : (i k : ℕ) → Contains (slice_index_or old i no_numbers) k → Contains (slice_index_or new i no_numbers) k

-- posts that were read, of which those from a number on are new
pub record Listing : Type 0 where
  pub posts : List Post
  pub first : ℕ

abbrev pub listing : List Post → ℕ → Listing
listing posts first = record { posts = posts; first = first }

-- the number of each new post of a kind stands there
abbrev pub HasNew : (Post → Bool) → List Post → ℕ → List ℕ → Type 0
HasNew is_wanted posts first numbers = (k : ℕ) (post : Post) → first ≤ k → slice_get posts k ≡ Some post → is_wanted post ≡ true → Contains numbers k

-- There is a list for each number that fits a byte, and the number of each new post stands in the lists to which the post leads.
pub record AreListed (leads : Post → ℕ → Bool) (posts : List Post) (first : ℕ) (lists : List (List ℕ)) : Type 0 where
  pub count : length lists ≡ 256
  pub each : (i : ℕ) → HasNew (λ post. leads post i) posts first (slice_index_or lists i no_numbers)
