-- To which places the address of a post leads.
use Rattle.std.specs.Prelude.{◌≡◌, ℕ, ◌+◌, ◌==◌, Bool, false, nat_lt, List, [], ◌∷◌, ◌++◌, if◌then◌else◌, slice_index_or}
use Rattle.hb_wire.specs.declared.vote.To.{To}
use Rattle.hb_wire.specs.declared.vote.To.TheVariants.{Book, Home, All, Node}
use Rattle.hb_wire.specs.declared.post.Post.{Post}
use Rattle.step_driver.specs.Places.{Name}

-- whether a place is of node i
abbrev pub is_of_node : ℕ → Name → Bool
is_of_node i name = name.node == i

-- whether actor x is at a place; at that of a node that lies are all its actors, 0 to n
abbrev pub has_actor : ℕ → ℕ → Name → Bool
has_actor n x name = if name.lies then nat_lt x (n + 1) else name.actor == x

abbrev pub address_leads : ℕ → To → ℕ → ℕ → Name → Bool
address_leads n Book from poster name = false
address_leads n Home from poster name = is_of_node from name
address_leads n All from poster name = has_actor n poster name
address_leads n (Node target) from poster name = is_of_node target name

-- whether the address of a post leads to a place: a post reaches none to which it doesn't
abbrev pub leads_to : ℕ → Post → Name → Bool
leads_to n post name = address_leads n post.to post.from post.actor name

-- of places that are numbered from p on those whose name passes a test, rising
abbrev pub places_from : ℕ → (Name → Bool) → List Name → List ℕ
places_from p test [] = []
places_from p test (name ∷ all) = if test name then p ∷ places_from (p + 1) test all else places_from (p + 1) test all

abbrev pub places_where : (Name → Bool) → List Name → List ℕ
places_where test all = places_from 0 test all

-- ---- groups of places

abbrev pub no_places : List ℕ
no_places = []

-- the places of each node, and those where each number of an actor is
pub record Groups : Type 0 where
  pub of_node : List (List ℕ)
  pub of_actor : List (List ℕ)

-- the groups are those of n nodes' places with these names
pub record IsDirectory (n : ℕ) (groups : Groups) (all : List Name) : Type 0 where
  pub of_node : (i : ℕ) → slice_index_or groups.of_node i no_places ≡ places_where (is_of_node i) all
  pub of_actor : (x : ℕ) → slice_index_or groups.of_actor x no_places ≡ places_where (has_actor n x) all

abbrev pub led_by : Groups → To → ℕ → ℕ → List ℕ
led_by groups Book from poster = []
led_by groups Home from poster = slice_index_or groups.of_node from no_places
led_by groups All from poster = slice_index_or groups.of_actor poster no_places
led_by groups (Node target) from poster = slice_index_or groups.of_node target no_places

-- the group to which the address of a post leads
abbrev pub led_to : Groups → Post → List ℕ
led_to groups post = led_by groups post.to post.from post.actor

-- the groups of all numbers have what they had
pub record AreAsBefore (old new : List (List ℕ)) : Type 0 where
  pub each : (i : ℕ) → slice_index_or new i no_places ≡ slice_index_or old i no_places

-- a place was added to the groups of the numbers that pass a test
pub record IsGrown (test : ℕ → Bool) (place : ℕ) (old new : List (List ℕ)) : Type 0 where
  pub each : (i : ℕ) → slice_index_or new i no_places ≡ slice_index_or old i no_places ++ (if test i then place ∷ [] else [])

-- the place of this name was entered
pub record IsEntered (n : ℕ) (name : Name) (place : ℕ) (old new : Groups) : Type 0 where
  pub of_node : IsGrown (λ i. is_of_node i name) place old.of_node new.of_node
  pub of_actor : IsGrown (λ x. has_actor n x name) place old.of_actor new.of_actor
