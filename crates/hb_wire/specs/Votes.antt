-- The votes: for each its row of the table of spellings, that is its first two bytes, where it goes, and its
-- fields in order.
use Rattle.std.specs.Prelude.{◌≡◌, ℕ, ◌+◌, ◌<◌, ◌≤◌, Bool, List, [], ◌∷◌, ◌++◌, length, if◌then◌else◌}
use Rattle.std.specs.List.{flat_map, AllByRecursion}
use Rattle.std.specs.Int.{w32, to_be_bytes}
use Rattle.hb_base.specs.Limits.{most_epochs, most_rounds, longest_shard, longest_value, latest_version}
use Rattle.merkle_branch.specs.declared.Branch.{Branch}
use Rattle.hb_base.specs.ByteLists.{AreBytes}
use Rattle.merkle_branch.specs.Branches.{siblings, IsPath}
use Rattle.hb_wire.specs.declared.items.Item.{Item}
use Rattle.hb_wire.specs.declared.vote.Vals.{Vals}
use Rattle.hb_wire.specs.declared.vote.Vals.TheVariants.{Zero, One, Both}
use Rattle.hb_wire.specs.declared.vote.To.{To}
use Rattle.hb_wire.specs.declared.vote.To.TheVariants as address
use Rattle.hb_wire.specs.declared.vote.Vote.{Vote}
use Rattle.hb_wire.specs.declared.vote.Vote.TheVariants.{Val, Echo, Ready, Delivered, Est, Bval, Aux, Pick, Coin, Decided, Propose, NoMore, Closed}
use Rattle.hb_wire.specs.declared.vote.Vote.TheVariants.{Conf}

-- a field of a vote, with what limits its value
pub data Field : Type 0 where
  node : ℕ → Field
  round : ℕ → Field
  byte : ℕ → Field
  bit : Bool → Field
  set : Vals → Field
  -- exactly so many bytes
  block : ℕ → List ℕ → Field
  -- a length of 4 bytes, at least and at most so much, and that many bytes
  sized : ℕ → ℕ → List ℕ → Field
  -- as many digests as the tree of n leaves is high
  path : Branch → Field
  -- a count, and items with rising nodes
  list : List Item → Field

pub record Row : Type 0 where
  pub kind : ℕ
  pub epoch : ℕ
  pub to : To
  pub fields : List Field

abbrev pub entry : ℕ → ℕ → To → List Field → Row
entry kind epoch to fields = record { kind = kind; epoch = epoch; to = to; fields = fields }

-- what shows a shard of a broadcast
abbrev pub shard_fields : List ℕ → List ℕ → Branch → List Field
shard_fields root shard branch = block 32 root ∷ sized 1 longest_shard shard ∷ path branch ∷ []

-- what shows a share of a coin
abbrev pub share_fields : ℕ → List ℕ → Branch → List Field
share_fields share salt branch = byte share ∷ block 16 salt ∷ path branch ∷ []

-- the table of votes
abbrev pub row : Vote → Row
row (Val epoch target root shard branch) = entry 0x01 epoch (address.Node target) (node target ∷ shard_fields root shard branch)
row (Echo epoch root shard branch) = entry 0x02 epoch address.All (shard_fields root shard branch)
row (Ready epoch root) = entry 0x03 epoch address.All (block 32 root ∷ [])
row (Delivered epoch value) = entry 0x04 epoch address.Home (sized 0 longest_value value ∷ [])
row (Est epoch r b) = entry 0x05 epoch address.Book (round r ∷ bit b ∷ [])
row (Bval epoch r b) = entry 0x06 epoch address.All (round r ∷ bit b ∷ [])
row (Aux epoch r b) = entry 0x07 epoch address.All (round r ∷ bit b ∷ [])
row (Pick epoch r vals) = entry 0x08 epoch address.Book (round r ∷ set vals ∷ [])
row (Coin epoch r share salt branch) = entry 0x09 epoch address.All (round r ∷ share_fields share salt branch)
row (Decided epoch b) = entry 0x0A epoch address.Home (bit b ∷ [])
row (Conf epoch r vals) = entry 0x0B epoch address.All (round r ∷ set vals ∷ [])
row (Propose epoch value) = entry 0x10 epoch address.Home (sized 0 longest_value value ∷ [])
row (NoMore epoch) = entry 0x11 epoch address.Home []
row (Closed epoch items) = entry 0x12 epoch address.Book (list items ∷ [])

-- the first byte of a vote's spelling
abbrev pub kind_of : Vote → ℕ
kind_of vote = (row vote).kind

-- the epoch that a vote is about, its second byte
abbrev pub epoch_of : Vote → ℕ
epoch_of vote = (row vote).epoch

-- the first version of the rules that has the vote
abbrev pub first_version : Vote → ℕ
first_version (Conf epoch r vals) = 2
first_version _ = 1

-- where a vote goes
abbrev pub address_of : Vote → To
address_of vote = (row vote).to

-- ---- bytes

-- a length of 4 bytes, and that many bytes
abbrev pub sized_bytes : List ℕ → List ℕ
sized_bytes bytes = to_be_bytes w32 (length bytes) ++ bytes

abbrev pub bit_byte : Bool → ℕ
bit_byte b = if b then 1 else 0

abbrev pub set_byte : Vals → ℕ
set_byte Zero = 1
set_byte One = 2
set_byte Both = 3

abbrev pub item_bytes : Item → List ℕ
item_bytes item = item.node ∷ sized_bytes item.value

abbrev pub field_bytes : Field → List ℕ
field_bytes (node m) = m ∷ []
field_bytes (round r) = r ∷ []
field_bytes (byte b) = b ∷ []
field_bytes (bit b) = bit_byte b ∷ []
field_bytes (set vals) = set_byte vals ∷ []
field_bytes (block size bytes) = bytes
field_bytes (sized least most bytes) = sized_bytes bytes
field_bytes (path branch) = flat_map (λ bytes. bytes) (siblings branch)
field_bytes (list items) = length items ∷ flat_map item_bytes items

-- ---- bounds

-- the items' nodes rise strictly, from low on and below n
abbrev pub AreItems : ℕ → ℕ → List Item → Type 0
AreItems n low [] = Unit {0}
AreItems n low (item ∷ items) =
    (low ≤ item.node) × (item.node < n) × (length item.value ≤ longest_value) × AreBytes item.value × AreItems n (item.node + 1) items

abbrev pub FieldFits : ℕ → Field → Type 0
FieldFits n (node m) = m < n
FieldFits n (round r) = r < most_rounds
FieldFits n (byte b) = b < 256
FieldFits n (bit b) = Unit {0}
FieldFits n (set vals) = Unit {0}
FieldFits n (block size bytes) = length bytes ≡ size
FieldFits n (sized least most bytes) = (least ≤ length bytes) × (length bytes ≤ most) × AreBytes bytes
FieldFits n (path branch) = IsPath n branch
FieldFits n (list items) = (length items ≤ n) × AreItems n 0 items

-- a vote of this version of the rules, within its bounds among n nodes
pub record IsVote (n version : ℕ) (vote : Vote) : Type 0 where
  pub begun : first_version vote ≤ version
  pub built : version ≤ latest_version
  pub epoch : epoch_of vote < most_epochs
  pub fields : AllByRecursion (FieldFits n) (row vote).fields

-- the one spelling of a vote
abbrev pub spelling : Vote → List ℕ
spelling vote = kind_of vote ∷ epoch_of vote ∷ flat_map field_bytes (row vote).fields

-- under this version of the rules the bytes spell the vote, among n nodes
pub record Spells (n version : ℕ) (bytes : List ℕ) (vote : Vote) : Type 0 where
  pub are_bytes : AreBytes bytes
  pub fits : IsVote n version vote
  pub spelled : bytes ≡ spelling vote
