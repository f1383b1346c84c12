-- The list of a closed vote: what is read is spelled so, and what is spelled so is read.
use Rattle.std.proofs.Common.{◌≡◌, ℕ, zero, suc, ◌+◌, ◌-◌, ◌^◌, ◌<◌, ◌≤◌, false, cond, ltb, List, [], ◌∷◌, ◌++◌, length, take, drop, Option, Some}
use Rattle.std.proofs.Common.{None, refl, sym, ap, subst, ◌∙◌, append_assoc, arith}
use Rattle.std.specs.List.{flat_map}
use Rattle.std.proofs.lemmas.Bool.{ltb-false, le-ltb}
use Rattle.std.proofs.lemmas.List.{take_at, drop_at, drop-drop, length-append, append-nil}
use Rattle.std.proofs.lemmas.Nat.{from_be_bytes-to_be_bytes_4}
use Rattle.hb_base.specs.ByteLists.{AreBytes}
use Rattle.hb_wire.specs.declared.items.Item.{Item}
use Rattle.hb_wire.specs.Votes.{AreItems, item_bytes, sized_bytes}
use Rattle.hb_base.specs.Limits.{longest_value}
use Rattle.hb_wire.specs.Reading.{◌>>=◌, byte_at, sized_at, item_at, after_items, first_length, first_item, items_in, list_at}
use Rattle.hb_wire.specs.Lists.{HasItems, IsList}
use Rattle.hb_wire.proofs.FieldLemmas.{IsBytes, Reads, some, some_is, bind_some, guard_some, SizedFits, reads_byte, reads_sized}

item : ℕ → List ℕ → Item
item node value = record { node = node; value = value }

abbrev value_reads : Reads (sized_at 0 longest_value) sized_bytes (SizedFits 0 longest_value)
value_reads = reads_sized 0 longest_value (omega arith)

-- ---- one item

pub record TakesItem (n low : ℕ) (bytes : List ℕ) (x : Item) (rest : List ℕ) : Type 0 where
  pub from : low ≤ x.node
  pub below : x.node < n
  pub short : length x.value ≤ longest_value
  pub byte_string : AreBytes x.value
  pub parts : bytes ≡ item_bytes x ++ rest
  pub fits : IsBytes rest

item_takes : (n low : ℕ) (bytes : List ℕ) (x : Item) (rest : List ℕ) → IsBytes bytes → item_at n low bytes ≡ Some (x, rest)
    → TakesItem n low bytes x rest
unfolding item
item_takes n low bytes x rest fits e =
    let a = bind_some (byte_at n bytes) (λ node. cond (ltb node.0 low) None (sized_at 0 longest_value node.1 >>= λ value. Some (item node.0 value.0, value.1))) (x, rest) e in
    let t = (reads_byte n).takes bytes a.0.0 a.0.1 fits a.1 in
    let g = guard_some (ltb a.0.0 low) (sized_at 0 longest_value a.0.1 >>= λ value. Some (item a.0.0 value.0, value.1)) (x, rest) a.2 in
    let from : low ≤ a.0.0 = ltb-false a.0.0 low g.0 in
    let b = bind_some (sized_at 0 longest_value a.0.1) (λ value. Some (item a.0.0 value.0, value.1)) (x, rest) g.1 in
    let u = value_reads.takes a.0.1 b.0.0 b.0.1 t.2 b.1 in
    let whole : Item × List ℕ = (item a.0.0 b.0.0, b.0.1) in
    let taken : TakesItem n low bytes (item a.0.0 b.0.0) b.0.1 = record {
      from = from;
      below = t.0;
      short = u.0.1;
      byte_string = u.0.2;
      parts = t.1 ∙ ap (λ (r : List ℕ). a.0.0 ∷ r) u.1;
      fits = u.2;
    }
    in
    subst (λ (w : Item × List ℕ). TakesItem n low bytes w.0 w.1) (some_is whole (x, rest) b.2) taken

item_again : (n low : ℕ) (x : Item) (rest : List ℕ) → low ≤ x.node → x.node < n → length x.value ≤ longest_value → AreBytes x.value
    → item_at n low (item_bytes x ++ rest) ≡ Some (x, rest)
unfolding item
item_again n low x rest from below short bytes =
    let high : ltb x.node low ≡ false = le-ltb x.node low from in
    ap (λ (r : Option (ℕ × List ℕ)). r >>= λ node. cond (ltb node.0 low) None (sized_at 0 longest_value node.1 >>= λ value. Some (item node.0 value.0, value.1))) ((reads_byte n).again x.node (sized_bytes x.value ++ rest) below)
    ∙ rw high (ap (λ (r : Option (List ℕ × List ℕ)). r >>= λ value. Some (item x.node value.0, value.1)) (value_reads.again x.value rest (omega arith, short, bytes)))

-- the first item of bytes that begin with x, and what is behind it
first_length_of : (x : Item) (rest : List ℕ) → length x.value < 2 ^ 32 → first_length (item_bytes x ++ rest) ≡ length x.value
first_length_of x rest short = from_be_bytes-to_be_bytes_4 (length x.value) short

first_of : (x : Item) (rest : List ℕ) → length x.value < 2 ^ 32 → first_item (item_bytes x ++ rest) ≡ x
unfolding item
first_of x rest short =
    ap (λ k. item x.node (take k (x.value ++ rest))) (first_length_of x rest short)
    ∙ ap (item x.node) (take_at x.value rest (length x.value) refl)

behind_first : (x : Item) (rest : List ℕ) → length x.value < 2 ^ 32 → drop (5 + first_length (item_bytes x ++ rest)) (item_bytes x ++ rest) ≡ rest
behind_first x rest short =
    ap (λ k. drop (5 + k) (item_bytes x ++ rest)) (first_length_of x rest short)
    ∙ sym (drop-drop (length x.value) 5 (item_bytes x ++ rest))
    ∙ drop_at x.value rest (length x.value) refl

-- ---- items

pub record TakesItems (n low count : ℕ) (bytes : List ℕ) (items : List Item) (rest : List ℕ) : Type 0 where
  pub count_is : length items ≡ count
  pub rise : AreItems n low items
  pub parts : bytes ≡ flat_map item_bytes items ++ rest
  pub fits : IsBytes rest

pub items_take : (n low count : ℕ) (bytes rest : List ℕ) → IsBytes bytes → after_items n low count bytes ≡ Some rest
    → TakesItems n low count bytes (items_in count bytes) rest
unfolding after_items items_in
items_take n low zero bytes rest fits e =
    let same : bytes ≡ rest = some_is bytes rest e in
    record { count_is = refl; rise = tt; parts = same; fits = subst IsBytes same fits }
items_take n low (suc count) bytes rest fits e =
    let a = bind_some (item_at n low bytes) (λ x. after_items n (x.0.node + 1) count x.1) rest e in
    let x = a.0.0 in
    let t = item_takes n low bytes x a.0.1 fits a.1 in
    let short : length x.value < 2 ^ 32 = omega (arith, t.short) in
    let u = items_take n (x.node + 1) count a.0.1 rest t.fits a.2 in
    let first : first_item bytes ≡ x = ap first_item t.parts ∙ first_of x a.0.1 short in
    let behind : drop (5 + first_length bytes) bytes ≡ a.0.1 = ap (λ (bs : List ℕ). drop (5 + first_length bs) bs) t.parts ∙ behind_first x a.0.1 short in
    let items : items_in (suc count) bytes ≡ x ∷ items_in count a.0.1 = ap (λ y. y ∷ items_in count (drop (5 + first_length bytes) bytes)) first ∙ ap (λ bs. x ∷ items_in count bs) behind in
    let taken : TakesItems n low (suc count) bytes (x ∷ items_in count a.0.1) rest = record {
      count_is = ap suc u.count_is;
      rise = (t.from, t.below, t.short, t.byte_string, u.rise);
      parts = t.parts ∙ ap (λ (r : List ℕ). item_bytes x ++ r) u.parts ∙ sym (append_assoc (item_bytes x) (flat_map item_bytes (items_in count a.0.1)) rest);
      fits = u.fits;
    }
    in
    subst (λ (ys : List Item). TakesItems n low (suc count) bytes ys rest) (sym items) taken

pub items_again : (n low : ℕ) (items : List Item) (rest : List ℕ) → AreItems n low items
    → (after_items n low (length items) (flat_map item_bytes items ++ rest) ≡ Some rest) × (items_in (length items) (flat_map item_bytes items ++ rest) ≡ items)
unfolding after_items items_in
items_again n low [] rest rise = (refl, refl)
items_again n low (x ∷ items) rest rise =
    let short : length x.value < 2 ^ 32 = omega (arith, rise.2) in
    let others = flat_map item_bytes items ++ rest in
    let parts : flat_map item_bytes (x ∷ items) ++ rest ≡ item_bytes x ++ others = append_assoc (item_bytes x) (flat_map item_bytes items) rest in
    let more = items_again n (x.node + 1) items rest rise.4 in (
      ap (λ bs. item_at n low bs >>= λ y. after_items n (y.0.node + 1) (length items) y.1) parts
          ∙ ap (λ (r : Option (Item × List ℕ)). r >>= λ y. after_items n (y.0.node + 1) (length items) y.1) (item_again n low x others rise.0 rise.1 rise.2 rise.3)
          ∙ more.0,
      ap (λ bs. first_item bs ∷ items_in (length items) (drop (5 + first_length bs) bs)) parts
          ∙ ap (λ y. y ∷ items_in (length items) (drop (5 + first_length (item_bytes x ++ others)) (item_bytes x ++ others))) (first_of x others short)
          ∙ ap (λ bs. x ∷ items_in (length items) bs) (behind_first x others short)
          ∙ ap (λ ys. x ∷ ys) more.1,
    )

-- ---- the list with its count

abbrev pub list_bytes : List Item → List ℕ
list_bytes items = length items ∷ flat_map item_bytes items

abbrev pub ListFits : ℕ → List Item → Type 0
ListFits n items = (length items ≤ n) × AreItems n 0 items

list_takes : (n : ℕ) (bytes : List ℕ) (items : List Item) (rest : List ℕ) → IsBytes bytes → list_at n bytes ≡ Some (items, rest)
    → ListFits n items × (bytes ≡ list_bytes items ++ rest) × IsBytes rest
unfolding list_at
list_takes n bytes items rest fits e =
    let a = bind_some (byte_at (n + 1) bytes) (λ count. after_items n 0 count.0 count.1 >>= λ r. Some (items_in count.0 count.1, r)) (items, rest) e in
    let t = (reads_byte (n + 1)).takes bytes a.0.0 a.0.1 fits a.1 in
    let b = bind_some (after_items n 0 a.0.0 a.0.1) (λ r. Some (items_in a.0.0 a.0.1, r)) (items, rest) a.2 in
    let u = items_take n 0 a.0.0 a.0.1 b.0 t.2 b.1 in
    let whole : List Item × List ℕ = (items_in a.0.0 a.0.1, b.0) in
    let few : a.0.0 < n + 1 = t.0 in
    subst (λ (w : List Item × List ℕ). ListFits n w.0 × (bytes ≡ list_bytes w.0 ++ w.1) × IsBytes w.1) (some_is whole (items, rest) b.2)
    ((omega (arith, u.count_is), u.rise), t.1 ∙ ap (λ (r : List ℕ). a.0.0 ∷ r) u.parts ∙ ap (λ k. k ∷ flat_map item_bytes (items_in a.0.0 a.0.1) ++ b.0) (sym u.count_is), u.fits)

list_again : (n : ℕ) (items : List Item) (rest : List ℕ) → ListFits n items → list_at n (list_bytes items ++ rest) ≡ Some (items, rest)
unfolding list_at
list_again n items rest fits =
    let more = items_again n 0 items rest fits.1 in
    ap (λ (r : Option (ℕ × List ℕ)). r >>= λ count. after_items n 0 count.0 count.1 >>= λ r. Some (items_in count.0 count.1, r)) ((reads_byte (n + 1)).again (length items) (flat_map item_bytes items ++ rest) (omega (arith, fits.0)))
    ∙ ap (λ (r : Option (List ℕ)). r >>= λ rest'. Some (items_in (length items) (flat_map item_bytes items ++ rest), rest')) more.0
    ∙ ap (λ ys. some (ys, rest)) more.1

pub reads_list : (n : ℕ) → Reads (list_at n) list_bytes (ListFits n)
reads_list n = record { takes = list_takes n; again = list_again n }

-- ---- where the items of a list lie

pub has_items : (n low : ℕ) (items : List Item) (rest : List ℕ) → AreItems n low items → HasItems (length items) (flat_map item_bytes items ++ rest)
has_items n low [] rest rise = tt
has_items n low (x ∷ items) rest rise =
    let short : length x.value < 2 ^ 32 = omega (arith, rise.2) in
    let others = flat_map item_bytes items ++ rest in
    let parts : flat_map item_bytes (x ∷ items) ++ rest ≡ item_bytes x ++ others = append_assoc (item_bytes x) (flat_map item_bytes items) rest in
    let size : first_length (item_bytes x ++ others) ≡ length x.value = first_length_of x others short in
    let inside : 5 + first_length (item_bytes x ++ others) ≤ length (item_bytes x ++ others) = omega (arith, length-append x.value others) in
    let front : HasItems (suc (length items)) (item_bytes x ++ others) =
    (inside, subst (HasItems (length items)) (sym (behind_first x others short)) (has_items n (x.node + 1) items rest rise.4))
    in
    subst (HasItems (suc (length items))) (sym parts) front

-- a list that was recognized is whole
pub list_whole : (n count : ℕ) (bytes rest after : List ℕ) → IsBytes bytes → byte_at (n + 1) bytes ≡ Some (count, rest)
    → after_items n 0 count rest ≡ Some after → IsList bytes
list_whole n count bytes rest after fits first others =
    let t = (reads_byte (n + 1)).takes bytes count rest fits first in
    let u = items_take n 0 count rest after t.2 others in
    let items = items_in count rest in
    let has : HasItems (length items) (flat_map item_bytes items ++ after) = has_items n 0 items after u.rise in
    let left : HasItems count rest = subst (λ k. HasItems k rest) u.count_is (subst (HasItems (length items)) (sym u.parts) has) in
    let whole : IsList (count ∷ rest) = record { some = omega arith; items = left } in
    subst IsList (sym t.1) whole

-- ---- a loop over them

pub has_more : (count i : ℕ) (bytes : List ℕ) → i < count → HasItems (count - i) bytes
    → (5 + first_length bytes ≤ length bytes) × HasItems (count - (i + 1)) (drop (5 + first_length bytes) bytes)
has_more count i bytes inside has =
    let step : count - i ≡ suc (count - (i + 1)) = omega arith in
    rw step at has

pub items_more : (count i : ℕ) (bytes : List ℕ) (before : List Item) (x : Item) → i < count → x ≡ first_item bytes
    → (before ++ x ∷ []) ++ items_in (count - (i + 1)) (drop (5 + first_length bytes) bytes) ≡ before ++ items_in (count - i) bytes
unfolding items_in
items_more count i bytes before x inside first =
    let step : count - i ≡ suc (count - (i + 1)) = omega arith in
    append_assoc before (x ∷ []) (items_in (count - (i + 1)) (drop (5 + first_length bytes) bytes))
    ∙ ap (λ y. before ++ y ∷ items_in (count - (i + 1)) (drop (5 + first_length bytes) bytes)) first
    ∙ ap (λ k. before ++ items_in k bytes) (sym step)

pub items_all : (count i : ℕ) (bytes : List ℕ) (before : List Item) → count ≤ i → before ++ items_in (count - i) bytes ≡ before
unfolding items_in
items_all count i bytes before past =
    let none : count - i ≡ 0 = omega arith in
    ap (λ k. before ++ items_in k bytes) none ∙ append-nil before
