use Rattle.std.proofs.Common.{◌≡◌, ◌≤◌, ◌+◌, ◌++◌, ◌∷◌, [], ℕ, List, length, length-append, slice_index_or, Contains, sym, subst, arith}
use Rattle.hb_wire.specs.declared.post.Post.{Post}
use Rattle.last_deliveries.specs.Listing.{no_numbers, AreListed, leads_to_node, leads_to_actor}
use Rattle.last_deliveries.proofs.Lists.{AreListed-more}
use Rattle.last_deliveries.proofs.listing.ListedPosts.push.Goals as goal

pub invariant_of-self-2 : goal.invariant_of-self-2
invariant_of-self-2 c =
    let posts = c.self.inside.posts.items in
    let first = c.self.inside.first in
    let nodes = c.enter.new.to_nodes.items in
    let actors = c.enter.new.to_actors.items in
    let entered = c.in_ok-enter.ensures in
    let number : c.len-k.result ≡ length posts = omega (arith, c.len-k.ensures) in
    let longer : length (posts ++ c.args.post ∷ []) ≡ length posts + 1 = length-append posts (c.args.post ∷ []) in
    subst (λ (ps : List Post). (first ≤ length ps) × AreListed leads_to_node ps first nodes × AreListed leads_to_actor ps first actors) (sym c.in_ok-push.ensures.items) (
      omega (arith, c.self.invariant.0, longer),
      AreListed-more leads_to_node posts first c.args.post c.self.inside.to_nodes.items nodes entered.kept.0
          (λ i leads. subst (λ (k : ℕ). Contains (slice_index_or nodes i no_numbers) k) number (entered.to_node i leads)) c.self.invariant.1,
      AreListed-more leads_to_actor posts first c.args.post c.self.inside.to_actors.items actors entered.kept.1
          (λ x leads. subst (λ (k : ℕ). Contains (slice_index_or actors x no_numbers) k) number (entered.to_actor x leads)) c.self.invariant.2,
    )
