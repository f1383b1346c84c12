-- The spelling of a vote is short.
use Rattle.std.proofs.Common.{◌≡◌, ℕ, ◌≤◌, ◌+◌, ◌*◌, ◌^◌, List, [], ◌∷◌, length, refl, arith, length-append}
use Rattle.std.specs.List.{flat_map, AllByRecursion}
use Rattle.std.specs.Int.{w32, to_be_bytes}
use Rattle.merkle_branch.specs.Branches.{siblings}
use Rattle.merkle_branch.specs.Digests.{IsDigest}
use Rattle.merkle_branch.proofs.HeightLemmas.{height_low}
use Rattle.hb_wire.specs.declared.items.Item.{Item}
use Rattle.hb_wire.specs.declared.vote.Vote.{Vote}
use Rattle.hb_wire.specs.declared.vote.Vote.TheVariants.{Val, Echo, Ready, Delivered, Est, Bval, Aux, Pick, Coin, Decided, Conf, Propose, NoMore, Closed}
use Rattle.hb_wire.specs.Votes.{Field, node, round, byte, bit, set, block, sized, path, list, row, sized_bytes, item_bytes, field_bytes, AreItems, FieldFits, IsVote, spelling}
use Rattle.hb_wire.proofs.PathLemmas.{length-siblings}
use Rattle.journaled_actor.specs.Payload.{longest_spelling}

digests_short : (digests : List (List ℕ)) → AllByRecursion IsDigest digests → length (flat_map (λ d. d) digests) ≡ 32 * length digests
digests_short [] are = refl
digests_short (d ∷ digests) are = omega (arith, are.0.len, digests_short digests are.1, length-append d (flat_map (λ (d : List ℕ). d) digests))

pub length-sized : (bytes : List ℕ) → length (sized_bytes bytes) ≡ 4 + length bytes
length-sized bytes = omega (arith, length-append (to_be_bytes w32 (length bytes)) bytes)

items_short : (n low : ℕ) (items : List Item) → AreItems n low items → length (flat_map item_bytes items) ≤ 16519 * length items
items_short n low [] are = omega arith
items_short n low (item ∷ items) are =
    omega (arith, are.2, items_short n (item.node + 1) items are.4, length-append (item_bytes item) (flat_map item_bytes items), length-sized item.value)

abbrev most : Field → ℕ
most (block size bytes) = size
most (sized least longest bytes) = 4 + longest
most (path branch) = 128
most (list items) = 264305
most _ = 1

field_short : (n : ℕ) (field : Field) → n ≤ 16 → FieldFits n field → length (field_bytes field) ≤ most field
field_short n (node m) few fits = omega arith
field_short n (round r) few fits = omega arith
field_short n (byte b) few fits = omega arith
field_short n (bit b) few fits = omega arith
field_short n (set vals) few fits = omega arith
field_short n (block size bytes) few fits = omega (arith, fits)
field_short n (sized least longest bytes) few fits = omega (arith, fits.1, length-sized bytes)
field_short n (path branch) few fits =
    omega (arith, digests_short (siblings branch) fits.digests, length-siblings n branch fits, height_low n)
field_short n (list items) few fits = omega (arith, fits.0, few, items_short n 0 items fits.1)

abbrev total : List Field → ℕ
total [] = 0
total (field ∷ fields) = most field + total fields

fields_short : (n : ℕ) (fields : List Field) → n ≤ 16 → AllByRecursion (FieldFits n) fields → length (flat_map field_bytes fields) ≤ total fields
fields_short n [] few fit = omega arith
fields_short n (field ∷ fields) few fit =
    omega (arith, field_short n field few fit.0, fields_short n fields few fit.1, length-append (field_bytes field) (flat_map field_bytes fields))

total_low : (vote : Vote) → total (row vote).fields ≤ 2 ^ 20
total_low (Val e target root shard branch) = omega arith
total_low (Echo e root shard branch) = omega arith
total_low (Ready e root) = omega arith
total_low (Delivered e value) = omega arith
total_low (Est e r b) = omega arith
total_low (Bval e r b) = omega arith
total_low (Aux e r b) = omega arith
total_low (Pick e r vals) = omega arith
total_low (Coin e r share salt branch) = omega arith
total_low (Decided e b) = omega arith
total_low (Conf e r vals) = omega arith
total_low (Propose e value) = omega arith
total_low (NoMore e) = omega arith
total_low (Closed e items) = omega arith

pub spelling_short : (n version : ℕ) (vote : Vote) → n ≤ 16 → IsVote n version vote → length (spelling vote) ≤ longest_spelling
spelling_short n version vote few is = omega (arith, fields_short n (row vote).fields few is.fields, total_low vote)
