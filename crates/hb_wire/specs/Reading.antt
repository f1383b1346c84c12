-- Reading from left to right: a field is a value and the bytes after it.
use Rattle.std.specs.Prelude.{◌≡◌, ℕ, zero, suc, ◌+◌, ◌-◌, ◌*◌, Bool, true, false, ◌&&◌, ◌||◌, ◌==◌, nat_lt}
use Rattle.std.specs.Prelude.{if◌then◌else◌, List, [], ◌∷◌, ◌++◌, length, take, drop, replicate, slice_index, Option, Some, None}
use Rattle.std.specs.List.{list_all}
use Rattle.std.specs.Int.{w32, from_be_bytes}
use Rattle.merkle_branch.specs.declared.Branch.{Branch}
use Rattle.merkle_branch.specs.Digests.{no_digest, height}
use Rattle.hb_wire.specs.declared.items.Item.{Item}
use Rattle.hb_wire.specs.declared.vote.Vals.{Vals}
use Rattle.hb_wire.specs.declared.vote.Vals.TheVariants.{Zero, One, Both}
use Rattle.hb_wire.specs.declared.vote.Vote.{Vote}
use Rattle.hb_wire.specs.declared.vote.Vote.TheVariants.{Val, Echo, Ready, Delivered, Est, Bval, Aux, Pick, Coin, Decided, Propose, NoMore, Closed}
use Rattle.hb_wire.specs.declared.vote.Vote.TheVariants.{Conf}
use Rattle.hb_base.specs.Limits.{most_epochs, most_rounds, longest_shard, longest_value}

infixl 10 ◌>>=◌
abbrev pub ◌>>=◌ : {A B : Type 0} → Option A → (A → Option B) → Option B
None >>= f = None
(Some x) >>= f = f x

-- one field behind another
abbrev pub pair : {X Y : Type 0} → (List ℕ → Option (X × List ℕ)) → (List ℕ → Option (Y × List ℕ))
    → List ℕ → Option ((X × Y) × List ℕ)
pair p q bytes = p bytes >>= λ x. q x.1 >>= λ y. Some ((x.0, y.0), y.1)

-- a value made of what is read
abbrev pub made : {X Y : Type 0} → (X → Y) → (List ℕ → Option (X × List ℕ)) → List ℕ → Option (Y × List ℕ)
made f p bytes = p bytes >>= λ x. Some (f x.0, x.1)

-- no further field
abbrev pub ended : List ℕ → Option (Unit {0} × List ℕ)
ended bytes = Some (tt, bytes)

abbrev pub byte_at : ℕ → List ℕ → Option (ℕ × List ℕ)
byte_at limit [] = None
byte_at limit (b ∷ rest) = if nat_lt b limit then Some (b, rest) else None

abbrev pub bit_at : List ℕ → Option (Bool × List ℕ)
bit_at [] = None
bit_at (zero ∷ rest) = Some (false, rest)
bit_at (suc zero ∷ rest) = Some (true, rest)
bit_at (suc (suc b) ∷ rest) = None

abbrev pub set_at : List ℕ → Option (Vals × List ℕ)
set_at [] = None
set_at (zero ∷ rest) = None
set_at (suc zero ∷ rest) = Some (Zero, rest)
set_at (suc (suc zero) ∷ rest) = Some (One, rest)
set_at (suc (suc (suc zero)) ∷ rest) = Some (Both, rest)
set_at (suc (suc (suc (suc b))) ∷ rest) = None

abbrev pub block_at : ℕ → List ℕ → Option (List ℕ × List ℕ)
block_at size bytes = if nat_lt (length bytes) size then None else Some (take size bytes, drop size bytes)

abbrev pub length_at : List ℕ → Option (ℕ × List ℕ)
length_at bytes = if nat_lt (length bytes) 4 then None else Some (from_be_bytes w32 (take 4 bytes), drop 4 bytes)

unfoldable pub sized_at : ℕ → ℕ → List ℕ → Option (List ℕ × List ℕ)
sized_at least most bytes = length_at bytes >>= λ n. if nat_lt n.0 least || nat_lt most n.0 then None else block_at n.0 n.1

-- digests one behind the other
abbrev pub digests_in : ℕ → List ℕ → List (List ℕ)
digests_in zero bytes = []
digests_in (suc count) bytes = take 32 bytes ∷ digests_in count (drop 32 bytes)

-- the branch whose digests these are
unfoldable pub branch_in : ℕ → List ℕ → Branch
branch_in n bytes = record { len = height n; digests = digests_in (height n) bytes ++ replicate (4 - height n) no_digest }

unfoldable pub path_at : ℕ → List ℕ → Option (Branch × List ℕ)
path_at n = made (branch_in n) (block_at (32 * height n))

-- ---- items

abbrev pub item_at : ℕ → ℕ → List ℕ → Option (Item × List ℕ)
item_at n low bytes =
    byte_at n bytes >>= λ node. if nat_lt node.0 low then None else
    sized_at 0 longest_value node.1 >>= λ value. Some (record { node = node.0; value = value.0 }, value.1)

-- the bytes after so many items with rising nodes from low on
unfoldable pub after_items : ℕ → ℕ → ℕ → List ℕ → Option (List ℕ)
after_items n low zero bytes = Some bytes
after_items n low (suc count) bytes = item_at n low bytes >>= λ item. after_items n (item.0.node + 1) count item.1

-- the first item of bytes that begin with one
abbrev pub first_length : List ℕ → ℕ
first_length bytes = from_be_bytes w32 (take 4 (drop 1 bytes))

abbrev pub first_item : List ℕ → Item
first_item bytes = record { node = slice_index bytes 0; value = take (first_length bytes) (drop 5 bytes) }

-- the items of bytes that begin with so many
unfoldable pub items_in : ℕ → List ℕ → List Item
items_in zero bytes = []
items_in (suc count) bytes = first_item bytes ∷ items_in count (drop (5 + first_length bytes) bytes)

unfoldable pub list_at : ℕ → List ℕ → Option (List Item × List ℕ)
list_at n bytes =
    byte_at (n + 1) bytes >>= λ count.
    after_items n 0 count.0 count.1 >>= λ rest. Some (items_in count.0 count.1, rest)

-- ---- votes: the fields of each kind, and the vote that they make

unfoldable pub val_at : ℕ → ℕ → List ℕ → Option (Vote × List ℕ)
val_at n epoch =
    made (λ x. Val epoch x.0 x.1.0 x.1.1.0 x.1.1.1.0)
    (pair (byte_at n) (pair (block_at 32) (pair (sized_at 1 longest_shard) (pair (path_at n) ended))))

unfoldable pub echo_at : ℕ → ℕ → List ℕ → Option (Vote × List ℕ)
echo_at n epoch =
    made (λ x. Echo epoch x.0 x.1.0 x.1.1.0) (pair (block_at 32) (pair (sized_at 1 longest_shard) (pair (path_at n) ended)))

unfoldable pub ready_at : ℕ → List ℕ → Option (Vote × List ℕ)
ready_at epoch = made (λ x. Ready epoch x.0) (pair (block_at 32) ended)

unfoldable pub delivered_at : ℕ → List ℕ → Option (Vote × List ℕ)
delivered_at epoch = made (λ x. Delivered epoch x.0) (pair (sized_at 0 longest_value) ended)

unfoldable pub est_at : ℕ → List ℕ → Option (Vote × List ℕ)
est_at epoch = made (λ x. Est epoch x.0 x.1.0) (pair (byte_at most_rounds) (pair bit_at ended))

unfoldable pub bval_at : ℕ → List ℕ → Option (Vote × List ℕ)
bval_at epoch = made (λ x. Bval epoch x.0 x.1.0) (pair (byte_at most_rounds) (pair bit_at ended))

unfoldable pub aux_at : ℕ → List ℕ → Option (Vote × List ℕ)
aux_at epoch = made (λ x. Aux epoch x.0 x.1.0) (pair (byte_at most_rounds) (pair bit_at ended))

unfoldable pub pick_at : ℕ → List ℕ → Option (Vote × List ℕ)
pick_at epoch = made (λ x. Pick epoch x.0 x.1.0) (pair (byte_at most_rounds) (pair set_at ended))

unfoldable pub conf_at : ℕ → List ℕ → Option (Vote × List ℕ)
conf_at epoch = made (λ x. Conf epoch x.0 x.1.0) (pair (byte_at most_rounds) (pair set_at ended))

unfoldable pub coin_at : ℕ → ℕ → List ℕ → Option (Vote × List ℕ)
coin_at n epoch =
    made (λ x. Coin epoch x.0 x.1.0 x.1.1.0 x.1.1.1.0)
    (pair (byte_at most_rounds) (pair (byte_at 256) (pair (block_at 16) (pair (path_at n) ended))))

unfoldable pub decided_at : ℕ → List ℕ → Option (Vote × List ℕ)
decided_at epoch = made (λ x. Decided epoch x.0) (pair bit_at ended)

unfoldable pub propose_at : ℕ → List ℕ → Option (Vote × List ℕ)
propose_at epoch = made (λ x. Propose epoch x.0) (pair (sized_at 0 longest_value) ended)

unfoldable pub no_more_at : ℕ → List ℕ → Option (Vote × List ℕ)
no_more_at epoch = made (λ x. NoMore epoch) ended

unfoldable pub closed_at : ℕ → ℕ → List ℕ → Option (Vote × List ℕ)
closed_at n epoch = made (λ x. Closed epoch x.0) (pair (list_at n) ended)

-- the fields of a kind of the broadcast
unfoldable pub broadcast_at : ℕ → ℕ → ℕ → List ℕ → Option (Vote × List ℕ)
broadcast_at n kind epoch bytes =
    if kind == 0x01 then val_at n epoch bytes else
    if kind == 0x02 then echo_at n epoch bytes else
    if kind == 0x03 then ready_at epoch bytes else
    if kind == 0x04 then delivered_at epoch bytes else None

-- of a kind of the binary agreement: version 2 has Conf besides
unfoldable pub agreement_at : ℕ → ℕ → ℕ → ℕ → List ℕ → Option (Vote × List ℕ)
agreement_at n version kind epoch bytes =
    if kind == 0x05 then est_at epoch bytes else
    if kind == 0x06 then bval_at epoch bytes else
    if kind == 0x07 then aux_at epoch bytes else
    if kind == 0x08 then pick_at epoch bytes else
    if kind == 0x09 then coin_at n epoch bytes else
    if kind == 0x0A then decided_at epoch bytes else
    if (kind == 0x0B) && (version == 2) then conf_at epoch bytes else None

-- of a kind of the desk
unfoldable pub desk_at : ℕ → ℕ → ℕ → List ℕ → Option (Vote × List ℕ)
desk_at n kind epoch bytes =
    if kind == 0x10 then propose_at epoch bytes else
    if kind == 0x11 then no_more_at epoch bytes else
    if kind == 0x12 then closed_at n epoch bytes else None

-- of any kind
unfoldable pub fields_at : ℕ → ℕ → ℕ → ℕ → List ℕ → Option (Vote × List ℕ)
fields_at n version kind epoch bytes =
    if nat_lt kind 0x05 then broadcast_at n kind epoch bytes else
    if nat_lt kind 0x10 then agreement_at n version kind epoch bytes else desk_at n kind epoch bytes

-- a vote at the front of the bytes
unfoldable pub front_vote : ℕ → ℕ → List ℕ → Option (Vote × List ℕ)
front_vote n version [] = None
front_vote n version (kind ∷ []) = None
front_vote n version (kind ∷ epoch ∷ rest) = if nat_lt epoch most_epochs then fields_at n version kind epoch rest else None

-- a vote that the numbers make up, with nothing behind it
unfoldable pub whole_vote : ℕ → ℕ → List ℕ → Option Vote
whole_vote n version bytes =
    if (version == 1) || (version == 2) then (front_vote n version bytes >>= λ x. if length x.1 == 0 then Some x.0 else None) else None

-- the vote that the bytes spell among n nodes under this version of the rules, if they spell one
unfoldable pub vote_at : ℕ → ℕ → List ℕ → Option Vote
vote_at n version bytes = if list_all (λ byte. nat_lt byte 256) bytes then whole_vote n version bytes else None

-- what a function answered, seen by view, is what reading gives
abbrev pub Shows : {X Y : Type 0} → (X → Y) → Option X → Option Y → Type 0
Shows view None read = read ≡ None
Shows view (Some x) read = read ≡ Some (view x)
