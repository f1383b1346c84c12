-- How posts are delivered.
use Rattle.std.specs.Prelude.{ℕ, ◌%◌, ◌==◌, ◌&&◌, Bool, true, nat_lt, List, [], ◌∷◌, Option, None, Some, if◌then◌else◌}
use Rattle.net_script.specs.declared.script.Link.{Link}
use Rattle.net_script.specs.declared.script.Shape.{Shape}
use Rattle.net_script.specs.declared.script.Shape.TheVariants.{Once}

-- whether a rule that names a node, or any, speaks of this one
abbrev pub is_any_or : Option ℕ → ℕ → Bool
is_any_or None node = true
is_any_or (Some named) node = named == node

-- Whether a rule fits post k from node i to node a: it names these nodes, or any, and k mod `every` is `at`. A rule
-- whose `every` is 0 fits no post.
abbrev pub fits : Link → ℕ → ℕ → ℕ → Bool
fits link i a k = is_any_or link.from i && is_any_or link.to a && nat_lt 0 link.every && (k % link.every == link.at)

-- the shape of the first rule that fits, and Once where none does
abbrev pub first_shape : List Link → ℕ → ℕ → ℕ → Shape
first_shape [] i a k = Once
first_shape (link ∷ links) i a k = if fits link i a k then link.shape else first_shape links i a k

-- the shape of post k from node i to node a: within a node each post is delivered once
abbrev pub shape_of : List Link → ℕ → ℕ → ℕ → Shape
shape_of links i a k = if i == a then Once else first_shape links i a k
