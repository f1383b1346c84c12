-- Items of a closed vote.
use Rattle.std.proofs.Common.{◌≡◌, ℕ, zero, suc, ◌+◌, ◌-◌, ◌<◌, ◌≤◌, Bool, true, false, cond, ltb, List, [], ◌∷◌, length, get_or, Some, None, refl}
use Rattle.std.proofs.Common.{ap, arith}
use Rattle.hb_wire.proofs.FieldLemmas.{some, some_is}
use Rattle.hb_wire.specs.declared.items.Item.{Item}
use Rattle.hb_wire.specs.Votes.{AreItems}
use Rattle.hb_base.specs.Limits.{longest_value}
use Rattle.hb_wire.specs.Reading.{byte_at, item_at, after_items, items_in}
use Rattle.hb_wire.specs.Lists.{listed}

-- each value is short
pub value_short : (n low k : ℕ) (items : List Item) (d : Item) → AreItems n low items → k < length items
    → length (get_or items k d).value ≤ longest_value
value_short n low k [] d fit inside = absurd (omega arith)
value_short n low zero (item ∷ items) d fit inside = fit.2
value_short n low (suc k) (item ∷ items) d fit inside = value_short n (item.node + 1) k items d fit.4 (omega arith)

first_is : (test : Bool) (count b : ℕ) (bytes rest : List ℕ) → cond test (some {A = ℕ × List ℕ} (b, bytes)) None ≡ Some (count, rest)
    → items_in b bytes ≡ items_in count rest
first_is true count b bytes rest read = ap (λ (p : ℕ × List ℕ). items_in p.0 p.1) (let one : ℕ × List ℕ = (b, bytes) in let other : ℕ × List ℕ = (count, rest) in some_is one other read)
first_is false count b bytes rest read = absurd cc

-- ---- a loop over items that are read

pub items_go_on : (n low count i : ℕ) (bytes rest : List ℕ) (item : Item) → i < count → item_at n low bytes ≡ Some (item, rest)
    → after_items n low (count - i) bytes ≡ after_items n (item.node + 1) (count - (i + 1)) rest
unfolding after_items
items_go_on n low count i bytes rest item inside read =
    let step : count - i ≡ suc (count - (i + 1)) = omega arith in
    rw (step, read) refl

pub items_stop : (n low count i : ℕ) (bytes : List ℕ) → i < count → item_at n low bytes ≡ None → after_items n low (count - i) bytes ≡ None
unfolding after_items
items_stop n low count i bytes inside read =
    let step : count - i ≡ suc (count - (i + 1)) = omega arith in
    rw (step, read) refl

pub items_end : (n low count i : ℕ) (bytes : List ℕ) → count ≤ i → after_items n low (count - i) bytes ≡ Some bytes
unfolding after_items
items_end n low count i bytes past =
    let none : count - i ≡ 0 = omega arith in
    rw none refl

-- a byte that was read is the first
pub count_first : (limit count : ℕ) (bytes rest : List ℕ) → byte_at limit bytes ≡ Some (count, rest) → listed bytes ≡ items_in count rest
count_first limit count [] rest read = absurd cc
count_first limit count (b ∷ bytes) rest read = first_is (ltb b limit) count b bytes rest read
