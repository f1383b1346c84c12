-- Claims: what a vote says of an epoch. Rules look at votes through these alone. The letters: e is an epoch, m a node.
use Rattle.std.specs.Prelude.{ℕ, Bool, true, false, ◌&&◌, ◌==◌, not, nat_lt, List, Option, None, Some, if◌then◌else◌, is_some, bytes_eq}
use Rattle.hb_wire.specs.declared.vote.Vote.{Vote}
use Rattle.hb_wire.specs.declared.vote.Vote.TheVariants.{Val, Echo, Ready, Delivered, Decided, Propose, NoMore, Closed}
use Rattle.hb_wire.specs.declared.items.Item.{Item}
use Rattle.merkle_branch.specs.Branches.{is_branch}

-- ---- the broadcast

-- the value that a vote proposes for the epoch
abbrev pub proposed : ℕ → Vote → Option (List ℕ)
proposed e (Propose d value) = if d == e then Some value else None
proposed e _ = None

-- the node to which a vote sends its shard
abbrev pub sent_to : ℕ → Vote → Option ℕ
sent_to e (Val d target root shard branch) = if d == e then Some target else None
sent_to e _ = None

-- The root and the shard of a valid Echo of node m, one of n nodes: its branch leads from the shard, as leaf m, to the
-- root.
abbrev pub echoed : ℕ → ℕ → ℕ → Vote → Option (List ℕ × List ℕ)
echoed n e m (Echo d root shard branch) =
    if (d == e) && (nat_lt m n && is_branch root n m shard branch) then Some (root, shard) else None
echoed n e m _ = None

-- the root for which a node is ready
abbrev pub readied : ℕ → Vote → Option (List ℕ)
readied e (Ready d root) = if d == e then Some root else None
readied e _ = None

-- the value that a vote delivers
abbrev pub delivered : ℕ → Vote → Option (List ℕ)
delivered e (Delivered d value) = if d == e then Some value else None
delivered e _ = None

-- whether bytes are these
abbrev pub are_these : List ℕ → Option (List ℕ) → Bool
are_these bytes None = false
are_these bytes (Some others) = bytes_eq bytes others

-- whether a root is this one
abbrev pub has_root : List ℕ → Option (List ℕ × List ℕ) → Bool
has_root root None = false
has_root root (Some part) = bytes_eq root part.0

-- whether root and shard are these
abbrev pub has_both : List ℕ → List ℕ → Option (List ℕ × List ℕ) → Bool
has_both root shard None = false
has_both root shard (Some part) = bytes_eq root part.0 && bytes_eq shard part.1

abbrev pub is_val_to : ℕ → ℕ → Vote → Bool
is_val_to e m (Val d target root shard branch) = (d == e) && (target == m)
is_val_to e m _ = false

-- a valid Echo of node m for this root
abbrev pub is_echo : ℕ → ℕ → List ℕ → ℕ → Vote → Bool
is_echo n e root m vote = has_root root (echoed n e m vote)

-- a valid Echo of node m for this root, with this shard
abbrev pub is_shard_echo : ℕ → ℕ → List ℕ → ℕ → List ℕ → Vote → Bool
is_shard_echo n e root m shard vote = has_both root shard (echoed n e m vote)

abbrev pub is_any_echo : ℕ → Vote → Bool
is_any_echo e (Echo d root shard branch) = d == e
is_any_echo e _ = false

abbrev pub is_ready : ℕ → List ℕ → Vote → Bool
is_ready e root vote = are_these root (readied e vote)

abbrev pub is_any_ready : ℕ → Vote → Bool
is_any_ready e vote = is_some (readied e vote)

abbrev pub is_delivery : ℕ → List ℕ → Vote → Bool
is_delivery e value vote = are_these value (delivered e vote)

abbrev pub is_any_delivery : ℕ → Vote → Bool
is_any_delivery e vote = is_some (delivered e vote)

-- ---- the desk

-- the bit that a lane has decided
abbrev pub decided : ℕ → Vote → Option Bool
decided e (Decided d bit) = if d == e then Some bit else None
decided e _ = None

-- the list with which an epoch was closed
abbrev pub closed_with : ℕ → Vote → Option (List Item)
closed_with e (Closed d list) = if d == e then Some list else None
closed_with e _ = None

-- whether two bits are the same
abbrev pub same_bit : Bool → Bool → Bool
same_bit true b = b
same_bit false b = not b

-- whether a bit is this one
abbrev pub is_bit : Bool → Option Bool → Bool
is_bit bit None = false
is_bit bit (Some other) = same_bit bit other

abbrev pub is_decision : ℕ → Bool → Vote → Bool
is_decision e bit vote = is_bit bit (decided e vote)

abbrev pub is_any_decision : ℕ → Vote → Bool
is_any_decision e vote = is_some (decided e vote)

abbrev pub is_any_proposal : ℕ → Vote → Bool
is_any_proposal e vote = is_some (proposed e vote)

abbrev pub is_no_more : ℕ → Vote → Bool
is_no_more e (NoMore d) = d == e
is_no_more e _ = false

abbrev pub is_any_closing : ℕ → Vote → Bool
is_any_closing e vote = is_some (closed_with e vote)
