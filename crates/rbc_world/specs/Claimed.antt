-- What posts of correct nodes claim of the broadcasts: a root that a lane is ready for, a value that it delivers or that a
-- desk proposes. The letters: e is an epoch, s the place of a lane and an epoch.
use Rattle.std.specs.Prelude.{◌≡◌, ◌≢◌, ◌⊎◌, ℕ, ◌+◌, ◌*◌, ◌/◌, Bool, false, ◌&&◌, ◌==◌, List, Option, Some, None, if◌then◌else◌, length, Contains, slice_get, slice_index_or}
use Rattle.std.specs.List.{flat_map}
use Rattle.std.specs.Option.{option_and_then}
use Rattle.hb_base.specs.Limits.{most_epochs}
use Rattle.hb_base.specs.Numbers.{Numbers}
use Rattle.hb_base.specs.NodeSet.{is_in}
use Rattle.hb_wire.specs.declared.vote.Vote.{Vote}
use Rattle.hb_wire.specs.declared.post.Post.{Post}
use Rattle.hb_wire.specs.Votes.{kind_of, epoch_of, row, field_bytes}
use Rattle.hb_rules.specs.Hearing.{spelled}
use Rattle.hb_rules.specs.Lanes.{is_correct, posting_lane}
use Rattle.rbc_world.specs.declared.claims.Kind.{Kind}
use Rattle.rbc_world.specs.declared.claims.Kind.TheVariants.{Ready, Delivered, Propose}
use Rattle.rbc_world.specs.declared.claims.Claim.{Claim}

-- the first byte of the votes of a kind
abbrev pub code_of : Kind → ℕ
code_of Ready = 0x03
code_of Delivered = 0x04
code_of Propose = 0x10

-- The lane in whose broadcasts a post of a correct node has its part: a lane is ready and delivers in those of its own
-- number, and a desk proposes in those of its node's.
abbrev pub lane_of : Numbers → Kind → Post → Option ℕ
lane_of c Propose post = if is_correct c post.from && (post.actor == c.n) then Some post.from else None
lane_of c kind post = posting_lane c post

-- the place of a lane and an epoch in a table of all
abbrev pub place_of : ℕ → ℕ → ℕ
place_of lane e = lane * most_epochs + e

-- the bytes behind the first two of a vote's spelling: they have the root, or the value
abbrev pub body_of : Vote → List ℕ
body_of vote = flat_map field_bytes (row vote).fields

-- what a vote of this kind claims, and for which place
abbrev pub claimed : Kind → ℕ → Vote → Option (ℕ × List ℕ)
claimed kind lane vote = if kind_of vote == code_of kind then Some (place_of lane (epoch_of vote), body_of vote) else None

-- what a post of a correct node claims
abbrev pub claim_of : Numbers → Kind → Post → Option (ℕ × List ℕ)
claim_of c kind post = option_and_then (λ lane. option_and_then (claimed kind lane) (spelled c post)) (lane_of c kind post)

-- what the post with this number claims
abbrev pub claim_at : Numbers → Kind → List Post → ℕ → Option (ℕ × List ℕ)
claim_at c kind posts number = option_and_then (claim_of c kind) (slice_get posts number)

-- what a `Claim` of the code says
abbrev pub shown : Claim → ℕ × List ℕ
shown claim = (claim.place, claim.body.now)

-- all claims of a kind for one place are one
pub record AreOne (c : Numbers) (kind : Kind) (posts : List Post) : Type 0 where
  pub one : (p q : Post) (s : ℕ) (body other : List ℕ) → Contains posts p → Contains posts q → claim_of c kind p ≡ Some (s, body)
      → claim_of c kind q ≡ Some (s, other) → body ≡ other

-- the number in the table at a place
abbrev pub entry : List (Option ℕ) → ℕ → Option ℕ
entry table s = slice_index_or table s None

-- the table has at this place the number of a post with this claim
pub record IsEntry (c : Numbers) (kind : Kind) (posts : List Post) (table : List (Option ℕ)) (s : ℕ) (body : List ℕ) : Type 0 where
  pub number : ℕ
  pub is : entry table s ≡ Some number
  pub claims : claim_at c kind posts number ≡ Some (s, body)

-- A table of numbers of posts, one at each place at most, that claim something for the place; among them the claims of
-- some of the posts.
pub record AreEntries (c : Numbers) (kind : Kind) (posts some : List Post) (table : List (Option ℕ)) : Type 0 where
  pub size : length table ≡ 512
  pub sound : (s number : ℕ) → entry table s ≡ Some number → (body : List ℕ) × (claim_at c kind posts number ≡ Some (s, body))
  pub each : (p : Post) (s : ℕ) (body : List ℕ) → Contains some p → claim_of c kind p ≡ Some (s, body) → IsEntry c kind posts table s body

-- a desk has proposed what the post with this number delivers
pub record IsProposedAt (c : Numbers) (posts : List Post) (number : ℕ) : Type 0 where
  pub post : Post
  pub stands : Contains posts post
  pub same : claim_of c Propose post ≡ claim_at c Delivered posts number

-- a table of numbers of posts that deliver something for their place
pub record AreDeliveries (c : Numbers) (posts : List Post) (table : List (Option ℕ)) : Type 0 where
  pub size : length table ≡ 512
  pub sound : (s number : ℕ) → entry table s ≡ Some number → (body : List ℕ) × (claim_at c Delivered posts number ≡ Some (s, body))

-- of the numbers in the old table those are gone whose posts deliver what the post proposes
pub record AreStruck (c : Numbers) (posts : List Post) (post : Post) (old new : List (Option ℕ)) : Type 0 where
  pub size : length new ≡ length old
  pub left : (s number : ℕ) → entry new s ≡ Some number
      → (entry old s ≡ Some number) × (claim_of c Propose post ≢ claim_at c Delivered posts number)
  pub struck : (s number : ℕ) → entry old s ≡ Some number
      → (entry new s ≡ Some number) ⊎ (claim_of c Propose post ≡ claim_at c Delivered posts number)

-- Of the numbers in the table those are left whose posts deliver what none of some posts proposes; what the others
-- deliver, a desk has proposed.
pub record AreLeft (c : Numbers) (posts some : List Post) (table left : List (Option ℕ)) : Type 0 where
  pub size : length left ≡ 512
  pub kept : (s number : ℕ) → entry left s ≡ Some number
      → (entry table s ≡ Some number) × ((p : Post) → Contains some p → claim_of c Propose p ≢ claim_at c Delivered posts number)
  pub gone : (s number : ℕ) → entry table s ≡ Some number → (entry left s ≡ Some number) ⊎ IsProposedAt c posts number

-- at the places of lanes whose nodes are no liars there is no number
pub record AreNone (liars : List Bool) (table : List (Option ℕ)) : Type 0 where
  pub none : (s : ℕ) → is_in liars (s / most_epochs) ≡ false → entry table s ≡ None
