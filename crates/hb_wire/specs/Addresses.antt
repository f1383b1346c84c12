-- Whom a post reaches.
use Rattle.std.specs.Prelude.{ℕ, Bool, false, ◌&&◌, ◌||◌, ◌==◌, nat_lt}
use Rattle.hb_wire.specs.declared.vote.To.{To}
use Rattle.hb_wire.specs.declared.vote.To.TheVariants.{Book, Home, All, Node}
use Rattle.hb_wire.specs.declared.post.Post.{Post}

-- lanes are the actors below n, the desk is actor n
abbrev pub is_at_home : ℕ → ℕ → ℕ → Bool
is_at_home n from actor = (nat_lt from n && (actor == n)) || ((from == n) && nat_lt actor n)

abbrev pub goes_to : ℕ → To → ℕ → ℕ → ℕ → ℕ → Bool
goes_to n Book from poster node actor = false
goes_to n Home from poster node actor = (node == from) && is_at_home n poster actor
goes_to n All from poster node actor = actor == poster
goes_to n (Node target) from poster node actor = (actor == poster) && (node == target)

-- whether a post reaches this actor of this node, among n nodes
abbrev pub reaches : ℕ → Post → ℕ → ℕ → Bool
reaches n post node actor = goes_to n post.to post.from post.actor node actor
