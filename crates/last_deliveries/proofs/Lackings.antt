-- What an actor lacks stands in the lists to which its address leads.
use Rattle.std.proofs.Common.{◌≡◌, ◌⊎◌, ◌≤◌, ◌==◌, ◌&&◌, ℕ, zero, suc, not, Bool, cond, true, false, inl, inr, List, [], ◌∷◌, ◌++◌, filter, Contains, Option, Some, None, refl, ap, ◌∙◌, slice_get, slice_index_or, arith}
use Rattle.std.proofs.lemmas.Bool.{and_parts}
use Rattle.std.proofs.lemmas.List.Elements.{Contains-append_left, Contains-append_right}
use Rattle.hb_wire.specs.declared.vote.To.{To}
use Rattle.hb_wire.specs.declared.vote.To.TheVariants.{Book, Home, All, Node}
use Rattle.hb_wire.specs.declared.post.Post.{Post}
use Rattle.hb_wire.specs.Addresses.{goes_to, reaches}
use Rattle.net_script.specs.declared.script.Script.{Script}
use Rattle.hb_rules.specs.Report.{comes_to, is_drop}
use Rattle.net_script.specs.Delivery.{shape_of}
use Rattle.step_driver.specs.Playing.{comes_found}
use Rattle.last_deliveries.specs.Catching.{lacks}
use Rattle.last_deliveries.specs.Listing.{HasNew, address_leads_to_node, is_to_all, leads_to_node, leads_to_actor}

-- an element that passes a test is among those that pass
pub filter_has : {X : Type 0} (p : X → Bool) (xs : List X) (x : X) → Contains xs x → p x ≡ true → Contains (filter p xs) x
filter_has p [] x (k, below, is) passes = absurd (omega (arith, below))
filter_has {X} p (y ∷ xs) x (zero, below, is) passes = by (p y) (ap p is ∙ passes)
  where
    by : (b : Bool) → b ≡ true → Contains (cond b (y ∷ filter p xs) (filter p xs)) x
    by true here = (0, omega arith, is)
    by false here = absurd (cc (here))
filter_has {X} p (y ∷ xs) x (suc k, below, is) passes = by (p y) (filter_has p xs x (k, omega (arith, below), is) passes)
  where
    by : (b : Bool) → Contains (filter p xs) x → Contains (cond b (y ∷ filter p xs) (filter p xs)) x
    by true (j, less, at) = (suc j, omega (arith, less), at)
    by false has = has

goes_leads : (n : ℕ) (to : To) (from poster i x : ℕ) → goes_to n to from poster i x ≡ true → (address_leads_to_node to from i ≡ true) ⊎ ((is_to_all to && (x == poster)) ≡ true)
goes_leads n Book from poster i x goes = absurd (cc (goes))
goes_leads n Home from poster i x goes = inl (and_parts (i == from) _ goes).0
goes_leads n All from poster i x goes = inr goes
goes_leads n (Node target) from poster i x goes = inl (and_parts (x == poster) (i == target) goes).1

-- a post that comes to an actor leads to its node, or to its number at each node
comes_leads : (s : Script) (post : Post) (i x k : ℕ) → comes_to s.config s post i x k ≡ true → (leads_to_node post i ≡ true) ⊎ (leads_to_actor post x ≡ true)
comes_leads s post i x k comes =
    goes_leads s.config.n post.to post.from post.actor i x (and_parts (reaches s.config.n post i x) (not (is_drop (shape_of s.links.items post.from i k))) comes).0

pub record IsFound (s : Script) (posts : List Post) (i x k : ℕ) : Type 0 where
  pub post : Post
  pub stands : slice_get posts k ≡ Some post
  pub leads : (leads_to_node post i ≡ true) ⊎ (leads_to_actor post x ≡ true)

found : (s : Script) (posts : List Post) (i x k : ℕ) (at : Option Post) → slice_get posts k ≡ at → comes_found s.config s at i x k ≡ true → IsFound s posts i x k
found s posts i x k None is comes = absurd (cc (comes))
found s posts i x k (Some post) is comes = record { post = post; stands = is; leads = comes_leads s post i x k comes }

-- what it lacks of the new posts is among those that it lacks of the two lists
pub lacking_found : (s : Script) (posts : List Post) (first : ℕ) (marks : List Bool) (i x : ℕ) (nodes actors : List ℕ)
    → HasNew (λ post. leads_to_node post i) posts first nodes → HasNew (λ post. leads_to_actor post x) posts first actors → (k : ℕ) → first ≤ k → lacks s posts marks i x k ≡ true
    → Contains (filter (lacks s posts marks i x) nodes ++ filter (lacks s posts marks i x) actors) k
lacking_found s posts first marks i x nodes actors to_node to_actor k from lacking =
    let comes : comes_found s.config s (slice_get posts k) i x k ≡ true =
    (and_parts (not (slice_index_or marks k false)) (comes_found s.config s (slice_get posts k) i x k) lacking).1 in
    let at = found s posts i x k (slice_get posts k) refl comes in
    let test = lacks s posts marks i x in
    elim at.leads [
      | inl node ↦ Contains-append_left (filter test nodes) (filter test actors) k (filter_has test nodes k (to_node k at.post from at.stands node) lacking)
      | inr actor ↦ Contains-append_right (filter test nodes) (filter test actors) k (filter_has test actors k (to_actor k at.post from at.stands actor) lacking)
    ]
