use Rattle.std.proofs.Common.{◌≡◌, ◌≤◌, ◌<◌, ◌+◌, ◌∙◌, ℕ, List, [], ◌∷◌, ◌++◌, length, take, get_or, ap, arith, length-append}
use Rattle.std.specs.List.{flat_map}
use Rattle.std.specs.Int.{w32, to_be_bytes}
use Rattle.std.proofs.lemmas.Grind.{flat_map-append}
use Rattle.std.proofs.lemmas.List.{append-nil, take_more}
use Rattle.hb_base.specs.Limits.{longest_value}
use Rattle.hb_wire.specs.declared.items.Item.{Item}
use Rattle.hb_wire.specs.Votes.{item_bytes, sized_bytes}
use Rattle.hb_wire.proofs.ItemLemmas.{value_short}
use Rattle.hb_wire.proofs.lengths.items_len.Goals as goal

length-sized : (bytes : List ℕ) → length (sized_bytes bytes) ≡ 4 + length bytes
length-sized bytes = omega (arith, length-append (to_be_bytes w32 (length bytes)) bytes)

length-item : (item : Item) → length (item_bytes item) ≡ 5 + length item.value
length-item item = omega (arith, length-sized item.value)

-- one more item adds its bytes
length-items_more : (items : List Item) (i : ℕ) (d : Item) → i < length items
    → length (flat_map item_bytes (take (i + 1) items)) ≡ length (flat_map item_bytes (take i items)) + (5 + length (get_or items i d).value)
length-items_more items i d inside =
    let front = flat_map item_bytes (take i items) in
    let item : Item = get_or items i d in
    ap (λ (xs : List Item). length (flat_map item_bytes xs)) (take_more items i d inside)
    ∙ ap length (flat_map-append item_bytes (take i items) (item ∷ []))
    ∙ length-append front (item_bytes item ++ [])
    ∙ ap (λ (bytes : List ℕ). length front + length bytes) (append-nil (item_bytes item))
    ∙ ap (λ k. length front + k) (length-item item)

pub sized_len-requires : goal.sized_len-requires
sized_len-requires c =
    let item = c.item-item.result in
    let i = c.loop-item.item-index in
    let short : length (get_or c.args.items.now i item).value ≤ longest_value = value_short c.args.n 0 i c.args.items.now item c.requires.fit c.loop-item-test.true in
    let read : length item.value ≡ length (get_or c.args.items.now i item).value = ap (λ x. length x.value) c.item-item.is in
    omega arith

pub loop-item-preserved : goal.loop-item-preserved
loop-item-preserved c =
    let item = c.item-item.result in
    let i = c.loop-item.item-index in
    let inside : i < length c.args.items.now = c.loop-item-test.true in
    let short : length (get_or c.args.items.now i item).value ≤ longest_value = value_short c.args.n 0 i c.args.items.now item c.requires.fit inside in
    let read : length item.value ≡ length (get_or c.args.items.now i item).value = ap (λ x. length x.value) c.item-item.is in
    record {
      exact = omega (arith, c.loop-item.invariant.exact, c.sized_len.ensures.exact, length-sized item.value, length-items_more c.args.items.now i item inside);
      small = omega (arith, c.loop-item.invariant.small, c.sized_len.ensures.exact, length-sized item.value);
    }
