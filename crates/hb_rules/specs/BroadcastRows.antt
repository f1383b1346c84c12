-- What a lane owes in the broadcast of an epoch: four rows. The letters: lane j of node i, epoch e, node m.
use Rattle.std.specs.Prelude.{ℕ, ◌+◌, ◌-◌, ◌*◌, Bool, ◌&&◌, ◌||◌, ◌==◌, nat_le, List, [], ◌∷◌, length, take, slice_index_or, Option, None, if◌then◌else◌, is_some, bytes_eq, filter_map}
use Rattle.std.specs.Option.{option_map, option_or, option_and_then}
use Rattle.std.specs.List.{list_any}
use Rattle.hb_base.specs.Numbers.{Numbers}
use Rattle.merkle_branch.specs.Digests.{tree_root, leaf_digests}
use Rattle.merkle_branch.specs.Branches.{branch_of, is_branch}
use Rattle.rs_shards.specs.Frame.{framed_value}
use Rattle.rs_shards.specs.Completing.{are_even, completed, encoded}
use Rattle.hb_wire.specs.declared.vote.Vote.{Vote}
use Rattle.hb_wire.specs.declared.vote.Vote.TheVariants.{Val, Echo, Ready, Delivered}
use Rattle.hb_rules.specs.Claims.{proposed, echoed, readied, is_val_to, is_any_echo, is_any_ready, is_any_delivery}
use Rattle.hb_rules.specs.Hearing.{Hearing, heard_by}
use Rattle.hb_rules.specs.Code.{data_count, echo_count, ready_count}
use Rattle.hb_rules.specs.FirstShown.{firsts_shown}
use Rattle.hb_rules.specs.Slots.{Slot, each, first_of, when}

-- ---- Val: to each node, rising, its shard of the value that the own desk proposed

-- the value that node i's desk proposes in a hearing
abbrev pub proposal_in : ℕ → ℕ → Hearing → Option (List ℕ)
proposal_in i e h = if h.from == i then proposed e h.vote else None

-- shard m of these, with its root and its branch
abbrev pub val_of : ℕ → ℕ → List (List ℕ) → Vote
val_of e m shards = Val e m (tree_root shards) (slice_index_or shards m []) (branch_of (leaf_digests shards) m)

unfoldable pub val_slot : Numbers → ℕ → ℕ → ℕ → ℕ → Slot Vote Hearing
val_slot c i j e m = record {
  is_cast = list_any (is_val_to e m);
  choice = λ own heard.
      if i == j then option_map (λ value. val_of e m (encoded c.n (data_count c) value)) (first_of (proposal_in i e) heard) else None;
}

-- ---- Echo: what the first valid Val of the sender shows

-- the Echo that a vote to node i makes: its branch leads from its shard, as leaf i, to its root
abbrev pub echo_made : ℕ → ℕ → ℕ → Vote → Option Vote
echo_made n e i (Val d m root shard branch) =
    when ((d == e) && ((m == i) && is_branch root n i shard branch)) (Echo e root shard branch)
echo_made n e i _ = None

abbrev pub echo_in : ℕ → ℕ → ℕ → ℕ → Hearing → Option Vote
echo_in n e i j h = if h.from == j then echo_made n e i h.vote else None

unfoldable pub echo_slot : Numbers → ℕ → ℕ → ℕ → Slot Vote Hearing
echo_slot c i j e = record {
  is_cast = list_any (is_any_echo e);
  choice = λ own heard. first_of (echo_in c.n e i j) heard;
}

-- ---- Ready and Delivered: of the root that was named first, among those for which enough was heard

-- the shard of a valid Echo for the root, with its node
abbrev pub shard_of : ℕ → ℕ → List ℕ → Hearing → Option (ℕ × List ℕ)
shard_of n e root h = option_and_then (λ part. when (bytes_eq root part.0) (h.from, part.1)) (echoed n e h.from h.vote)

-- the shards of valid Echoes for the root, the first of each node
abbrev pub shards_of : ℕ → ℕ → List ℕ → List Hearing → List (ℕ × List ℕ)
shards_of n e root heard = firsts_shown (filter_map (shard_of n e root) heard)

-- The value to which k shards rebuild: they are bytes, of one length, and their codeword has the root.
abbrev pub value_through : Numbers → List ℕ → List (ℕ × List ℕ) → Option (List ℕ)
value_through c root got =
    when ((length got == data_count c) && (are_even got && bytes_eq (tree_root (completed c.n (data_count c) got)) root))
    (framed_value (data_count c) (completed c.n (data_count c) got))

-- The value to which the first k nodes with a valid Echo for the root rebuild, if there are so many. A root whose first k
-- shards have different lengths, or rebuild to another root, is given up.
abbrev pub value_of : Numbers → ℕ → List Hearing → List ℕ → Option (List ℕ)
value_of c e heard root = value_through c root (take (data_count c) (shards_of c.n e root heard))

-- the root that a valid Echo or a Ready names
abbrev pub named : ℕ → ℕ → Hearing → Option (List ℕ)
named n e h = option_or (option_map (λ part. part.0) (echoed n e h.from h.vote)) (readied e h.vote)

-- whether what was heard makes a node ready for a root
abbrev pub is_made_ready : Numbers → ℕ → List Hearing → List ℕ → Bool
is_made_ready c e heard root =
    (nat_le (c.n - c.f) (echo_count c.n e root (heard_by heard)) && is_some (value_of c e heard root))
    || nat_le (c.f + 1) (ready_count c.n e root (heard_by heard))

abbrev pub ready_made : Numbers → ℕ → List Hearing → List ℕ → Option Vote
ready_made c e heard root = when (is_made_ready c e heard root) (Ready e root)

unfoldable pub ready_slot : Numbers → ℕ → Slot Vote Hearing
ready_slot c e = record {
  is_cast = list_any (is_any_ready e);
  choice = λ own heard. first_of (λ h. option_and_then (ready_made c e heard) (named c.n e h)) heard;
}

abbrev pub delivery_made : Numbers → ℕ → List Hearing → List ℕ → Option Vote
delivery_made c e heard root =
    if nat_le (2 * c.f + 1) (ready_count c.n e root (heard_by heard)) then option_map (Delivered e) (value_of c e heard root) else None

unfoldable pub delivery_slot : Numbers → ℕ → Slot Vote Hearing
delivery_slot c e = record {
  is_cast = list_any (is_any_delivery e);
  choice = λ own heard. first_of (λ h. option_and_then (delivery_made c e heard) (named c.n e h)) heard;
}

-- the rows, in their order
abbrev pub broadcast_rows : Numbers → ℕ → ℕ → List (ℕ → List (Slot Vote Hearing))
broadcast_rows c i j =
    (λ e. each c.n (λ m. val_slot c i j e m ∷ []))
    ∷ (λ e. echo_slot c i j e ∷ [])
    ∷ (λ e. ready_slot c e ∷ [])
    ∷ (λ e. delivery_slot c e ∷ [])
    ∷ []
