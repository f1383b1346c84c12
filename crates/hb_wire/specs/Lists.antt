-- The items of a closed vote, where they were read.
use Rattle.std.specs.Prelude.{ℕ, zero, suc, ◌+◌, ◌≤◌, Bool, nat_eq, List, length, drop, slice_index}
use Rattle.std.specs.Ordering.{on, eq_of_both}
use Rattle.std.specs.Cmp.{IsEquivalence, and_equiv, on_equiv, nat_eq_equiv}
use Rattle.std.specs.Cmp.Lexicographic.{pointwise, nat_list_eq_equiv}
use Rattle.hb_wire.specs.declared.items.Item.{Item}
use Rattle.hb_wire.specs.Reading.{items_in, first_length}

abbrev pub item : ℕ → List ℕ → Item
item node value = record { node = node; value = value }

-- the items of a list, behind their count
abbrev pub listed : List ℕ → List Item
listed bytes = items_in (slice_index bytes 0) (drop 1 bytes)

-- so many items stand at the front of the bytes
abbrev pub HasItems : ℕ → List ℕ → Type 0
HasItems zero bytes = Unit {0}
HasItems (suc count) bytes = (5 + first_length bytes ≤ length bytes) × HasItems count (drop (5 + first_length bytes) bytes)

-- a count, and so many items
pub record IsList (bytes : List ℕ) : Type 0 where
  pub some : 1 ≤ length bytes
  pub items : HasItems (slice_index bytes 0) (drop 1 bytes)

-- ---- equality

abbrev pub same_item : Item → Item → Bool
same_item = eq_of_both (on (λ x. x.node) nat_eq) (on (λ x. x.value) (pointwise nat_eq))

pub same_item_equiv : IsEquivalence same_item
same_item_equiv = and_equiv (on_equiv (λ x. x.node) nat_eq_equiv) (on_equiv (λ x. x.value) nat_list_eq_equiv)
