-- What a crash may leave of a half, before and after a write or a cut.
use Rattle.std.proofs.Common.{◌≡◌, ◌≤◌, ◌<◌, ◌+◌, ◌&&◌, ⊎_elim, cond, length, map, take, ℕ, List, [], ◌∷◌, Bool, false, min, max, nat_lt}
use Rattle.std.proofs.Common.{slice_index, refl, sym, ◌∙◌, ap, subst, arith}
use Rattle.std.specs.List.{range_with_len}
use Rattle.std.proofs.lemmas.Bool.{cases_lt, cases_Bool, cond-true, cond-false, and_left, and_right, and_from, lt-leb, lt-ltb, le-ltb}
use Rattle.std.proofs.lemmas.List.{ext_get_or, get_or-take, length-take-le}
use Rattle.std.proofs.lemmas.List.FromFn.{length-map-range_with_len, get_or-map-range_with_len}
use Rattle.disk_model.specs.declared.disk.Half.{Half}
use Rattle.disk_model.specs.declared.disk.Half.TheVariants.{A, B}
use Rattle.disk_model.specs.declared.halves.Halves.{Halves}
use Rattle.disk_model.specs.declared.plan.Leave.{Leave}
use Rattle.disk_model.specs.declared.plan.Leave.TheVariants.{Old, New, Torn}
use Rattle.disk_model.specs.declared.span.Span.{Span}
use Rattle.disk_model.specs.Image.{Image, half_of}
use Rattle.disk_model.specs.Halves.{HalvesMayLeave, content_of, on_half, restored}
use Rattle.disk_model.proofs.Tears.{length-torn_from, slice_index-torn_from}
use Rattle.disk_model.specs.Disk.{overwritten, TornWrite, Cut, OnHalf, Only}
use Rattle.disk_model.specs.Area.{AreaState, IsKept, MayBeLeft, is_in, is_written, at_rest, after_write, after_cut, left_by}
use Rattle.disk_model.proofs.Lists.{length-overwritten, overwritten_below, overwritten_above}
use Rattle.disk_model.proofs.Areas.{outside_more, outside_push, outside_span}

-- so many bytes, each by its offset
abbrev bytes_by : (ℕ → ℕ) → ℕ → List ℕ
bytes_by f n = map f (range_with_len 0 n)

length-bytes_by : (f : ℕ → ℕ) (n : ℕ) → length (bytes_by f n) ≡ n
length-bytes_by f n = length-map-range_with_len f 0 n

byte_by : (f : ℕ → ℕ) (n k : ℕ) → k < n → slice_index (bytes_by f n) k ≡ f k
byte_by f n k h = get_or-map-range_with_len f 0 n k k 0 h (omega arith)

-- before the range and behind it a test of it says no
in_below : (at n k : ℕ) → k < at → is_in (record { at = at; len = n }) k ≡ false
in_below at n k h = and_left _ _ (lt-leb at k h)

in_above : (at n k : ℕ) → at + n ≤ k → is_in (record { at = at; len = n }) k ≡ false
in_above at n k h = and_right _ _ (le-ltb k (at + n) h)

-- what a write of some bytes leaves is what might have been left before it, with the range torn
module _ (at : ℕ) (byte : ℕ) (rest : List ℕ) (area : AreaState) (c : List ℕ) (fits : at ≤ length area.content)
    (left : MayBeLeft (after_write at (byte ∷ rest) area) c) where
  abbrev bytes : List ℕ
  bytes = byte ∷ rest

  abbrev span : Span
  span = record { at = at; len = length bytes }

  abbrev old_byte : ℕ → Bool
  old_byte k = is_in span k && (nat_lt k area.least && nat_lt k (length area.content))

  abbrev byte_at : ℕ → ℕ
  byte_at k = cond (old_byte k) (slice_index area.content k) (slice_index c k)

  abbrev long : ℕ
  long = min (length c) (max area.most (length area.content))

  abbrev before : List ℕ
  before = bytes_by byte_at long

  new_long : length (overwritten at bytes area.content) ≡ max (length area.content) (at + length bytes)
  new_long = length-overwritten at bytes area.content fits

  same_outside : (k : ℕ) → is_in span k ≡ false → byte_at k ≡ slice_index c k
  same_outside k out = cond-false (old_byte k) _ _ (and_left _ _ out)

  kept_outside : (k : ℕ) → is_in span k ≡ false → slice_index (overwritten at bytes area.content) k ≡ slice_index area.content k
  kept_outside k out = ⊎_elim (overwritten_below at bytes area.content k fits) (overwritten_above at bytes area.content k fits)
      (outside_span at (length bytes) k out)

  stays : (k : ℕ) → k < area.least → k < length area.content → is_written area.written k ≡ false → byte_at k ≡ slice_index area.content k
  stays k l m out =
      ⊎_elim (λ inside. cond-true (old_byte k) _ _ (and_from _ _ inside (and_from _ _ (lt-ltb k area.least l) (lt-ltb k (length area.content) m))))
      (λ outside. same_outside k outside ∙ left.others k l (omega (arith, new_long, m)) (outside_push area.written span k out outside) ∙ kept_outside k outside)
      (cases_Bool (is_in span k))

  was_left : MayBeLeft area before
  was_left = record {
    no_shorter = omega (arith, left.no_shorter, new_long, length-bytes_by byte_at long);
    no_longer = omega (arith, length-bytes_by byte_at long);
    others = λ k l m out. byte_by byte_at long k (omega (arith, left.no_shorter, new_long, l, m)) ∙ stays k l m out;
  }

  is_torn : TornWrite at (length bytes) before c
  is_torn = record {
    no_shorter = omega (arith, length-bytes_by byte_at long);
    no_longer = omega (arith, left.no_longer, new_long, length-bytes_by byte_at long);
    below = λ k l h. sym (byte_by byte_at long k (omega (arith, l, length-bytes_by byte_at long)) ∙ same_outside k (in_below at (length bytes) k h));
    above = λ k l h. sym (byte_by byte_at long k (omega (arith, l, length-bytes_by byte_at long)) ∙ same_outside k (in_above at (length bytes) k h));
  }

pub write_follows : (at : ℕ) (bytes : List ℕ) (area : AreaState) (c : List ℕ) → at ≤ length area.content → MayBeLeft (after_write at bytes area) c
    → (d : List ℕ) × MayBeLeft area d × TornWrite at (length bytes) d c
write_follows at [] area c fits left = (c, left, record { no_shorter = omega arith; no_longer = omega arith; below = λ k l h. refl; above = λ k l h. refl })
write_follows at (byte ∷ rest) area c fits left =
    (before at byte rest area c fits left, was_left at byte rest area c fits left, is_torn at byte rest area c fits left)

-- what might be left before a write may be left after it
pub write_grows : (at : ℕ) (bytes : List ℕ) (area : AreaState) (c : List ℕ) → IsKept area → at ≤ length area.content → MayBeLeft area c
    → MayBeLeft (after_write at bytes area) c
write_grows at [] area c kept fits left = left
write_grows at (byte ∷ rest) area c kept fits left =
    let long = length-overwritten at (byte ∷ rest) area.content fits in
    record {
      no_shorter = omega (arith, left.no_shorter, long, kept.least_content);
      no_longer = omega (arith, left.no_longer, long);
      others = λ k l m out.
          let parts = outside_more area.written (record { at = at; len = length (byte ∷ rest) }) k out in
          left.others k l (omega (arith, l, kept.least_content)) parts.0
          ∙ sym (⊎_elim (overwritten_below at (byte ∷ rest) area.content k fits) (overwritten_above at (byte ∷ rest) area.content k fits)
          (outside_span at (length (byte ∷ rest)) k parts.1));
    }

-- what a cut leaves is what might have been left before it, with what was cut off torn
module _ (len : ℕ) (area : AreaState) (c : List ℕ) (fits : len ≤ length area.content) (left : MayBeLeft (after_cut len area) c) where
  abbrev cut_byte : ℕ → ℕ
  cut_byte k = cond (nat_lt k len && nat_lt k (length c)) (slice_index c k) (slice_index area.content k)

  abbrev whole : ℕ
  whole = max (length c) (min area.least (length area.content))

  abbrev uncut : List ℕ
  uncut = bytes_by cut_byte whole

  front_long : length (take len area.content) ≡ len
  front_long = length-take-le len area.content fits

  cut_stays : (k : ℕ) → k < area.least → k < length area.content → is_written area.written k ≡ false → cut_byte k ≡ slice_index area.content k
  cut_stays k l m out =
      ⊎_elim
      (λ inside. cond-true _ _ _ (and_from _ _ (lt-ltb k len inside) (lt-ltb k (length c) (omega (arith, left.no_shorter, front_long, l, inside))))
      ∙ left.others k (omega (arith, l, inside)) (omega (arith, front_long, inside)) out ∙ get_or-take len area.content k 0 inside)
      (λ past. cond-false _ _ _ (and_left _ _ (le-ltb k len past)))
      (cases_lt k len)

  was_uncut : MayBeLeft area uncut
  was_uncut = record {
    no_shorter = omega (arith, length-bytes_by cut_byte whole);
    no_longer = omega (arith, left.no_longer, front_long, length-bytes_by cut_byte whole);
    others = λ k l m out. byte_by cut_byte whole k (omega (arith, l, m)) ∙ cut_stays k l m out;
  }

  is_cut : Cut len uncut c
  is_cut = record {
    no_shorter = omega (arith, left.no_shorter, front_long, length-bytes_by cut_byte whole);
    no_longer = omega (arith, length-bytes_by cut_byte whole);
    front = λ k h l. sym (byte_by cut_byte whole k (omega (arith, l)) ∙ cond-true _ _ _ (and_from _ _ (lt-ltb k len h) (lt-ltb k (length c) l)));
  }

pub cut_follows : (len : ℕ) (area : AreaState) (c : List ℕ) → len ≤ length area.content → MayBeLeft (after_cut len area) c
    → (d : List ℕ) × MayBeLeft area d × Cut len d c
cut_follows len area c fits left = (uncut len area c fits left, was_uncut len area c fits left, is_cut len area c fits left)

pub cut_grows : (len : ℕ) (area : AreaState) (c : List ℕ) → IsKept area → len ≤ length area.content → MayBeLeft area c → MayBeLeft (after_cut len area) c
cut_grows len area c kept fits left =
    let short = length-take-le len area.content fits in
    record {
      no_shorter = omega (arith, left.no_shorter, short);
      no_longer = omega (arith, left.no_longer, kept.content_most);
      others = λ k l m out.
          let inside : k < len = omega (arith, l) in
          left.others k (omega (arith, l)) (omega (arith, inside, fits)) out ∙ sym (get_or-take len area.content k 0 inside);
    }

-- what a torn write or cut of nothing leaves
pub torn_same : (at n : ℕ) (c : List ℕ) → TornWrite at n c c
torn_same at n c = record { no_shorter = omega arith; no_longer = omega arith; below = λ k l h. refl; above = λ k l h. refl }

pub cut_same : (n : ℕ) (c : List ℕ) → Cut n c c
cut_same n c = record { no_shorter = omega arith; no_longer = omega arith; front = λ k h l. refl }

-- with nothing pending only one list of bytes may be left
pub only_at_rest : (bytes c : List ℕ) → MayBeLeft (at_rest bytes) c → c ≡ bytes
only_at_rest bytes c left =
    let same : length c ≡ length bytes = omega (arith, left.no_shorter, left.no_longer) in
    ext_get_or 0 c bytes same (λ k h. left.others k (omega (arith, h, same)) (omega (arith, h, same)) refl)

-- the same of both halves
pub half_write_follows : (half : Half) (at : ℕ) (bytes : List ℕ) (halves : Halves) (c : Image) → at ≤ length (half_of half (content_of halves))
    → HalvesMayLeave (on_half half (after_write at bytes) halves) c
    → (d : Image) × HalvesMayLeave halves d × OnHalf half (TornWrite at (length bytes)) d c
half_write_follows A at bytes halves c fits left =
    let was = write_follows at bytes halves.a c.a fits left.a in
    (record { a = was.0; b = c.b }, record { a = was.1; b = left.b }, record { here = was.2; there = refl })
half_write_follows B at bytes halves c fits left =
    let was = write_follows at bytes halves.b c.b fits left.b in
    (record { a = c.a; b = was.0 }, record { a = left.a; b = was.1 }, record { here = was.2; there = refl })

pub half_write_grows : (half : Half) (at : ℕ) (bytes : List ℕ) (halves : Halves) (c : Image) → IsKept halves.a → IsKept halves.b
    → at ≤ length (half_of half (content_of halves)) → HalvesMayLeave halves c
    → HalvesMayLeave (on_half half (after_write at bytes) halves) c
half_write_grows A at bytes halves c ka kb fits left = record { a = write_grows at bytes halves.a c.a ka fits left.a; b = left.b }
half_write_grows B at bytes halves c ka kb fits left = record { a = left.a; b = write_grows at bytes halves.b c.b kb fits left.b }

pub half_cut_follows : (half : Half) (len : ℕ) (halves : Halves) (c : Image) → len ≤ length (half_of half (content_of halves))
    → HalvesMayLeave (on_half half (after_cut len) halves) c
    → (d : Image) × HalvesMayLeave halves d × OnHalf half (Cut len) d c
half_cut_follows A len halves c fits left =
    let was = cut_follows len halves.a c.a fits left.a in
    (record { a = was.0; b = c.b }, record { a = was.1; b = left.b }, record { here = was.2; there = refl })
half_cut_follows B len halves c fits left =
    let was = cut_follows len halves.b c.b fits left.b in
    (record { a = c.a; b = was.0 }, record { a = left.a; b = was.1 }, record { here = was.2; there = refl })

pub half_cut_grows : (half : Half) (len : ℕ) (halves : Halves) (c : Image) → IsKept halves.a → IsKept halves.b
    → len ≤ length (half_of half (content_of halves)) → HalvesMayLeave halves c
    → HalvesMayLeave (on_half half (after_cut len) halves) c
half_cut_grows A len halves c ka kb fits left = record { a = cut_grows len halves.a c.a ka fits left.a; b = left.b }
half_cut_grows B len halves c ka kb fits left = record { a = left.a; b = cut_grows len halves.b c.b kb fits left.b }

pub half_write_same : (half : Half) (at n : ℕ) (c : Image) → OnHalf half (TornWrite at n) c c
half_write_same A at n c = record { here = torn_same at n c.a; there = refl }
half_write_same B at n c = record { here = torn_same at n c.b; there = refl }

pub half_cut_same : (half : Half) (n : ℕ) (c : Image) → OnHalf half (Cut n) c c
half_cut_same A n c = record { here = cut_same n c.a; there = refl }
half_cut_same B n c = record { here = cut_same n c.b; there = refl }

image_is : (c : Image) (a b : List ℕ) → c.a ≡ a → c.b ≡ b → c ≡ record { a = a; b = b }
image_is c a b p q = ap (λ (x : List ℕ). let i : Image = record { a = x; b = c.b } in i) p ∙ ap (λ (x : List ℕ). let i : Image = record { a = a; b = x } in i) q

-- with nothing pending only these two lists may be left
pub only_settled : (a b : List ℕ) → Only (record { a = a; b = b }) (HalvesMayLeave (record { a = at_rest a; b = at_rest b }))
only_settled a b c left = image_is c a b (only_at_rest a c.a left.a) (only_at_rest b c.b left.b)

-- what a stop leaves of a half may be left
pub left_may_be_left : (leave : Leave) (area : AreaState) → IsKept area → MayBeLeft area (left_by leave area)
left_may_be_left Old area kept = record {
  no_shorter = omega (arith, kept.least_synced);
  no_longer = omega (arith, kept.synced_most);
  others = λ k l m out. kept.agree k l out;
}
left_may_be_left New area kept = record { no_shorter = omega arith; no_longer = omega arith; others = λ k l m out. refl }
left_may_be_left Torn area kept = record {
  no_shorter = omega (arith, length-torn_from area.written 0 area.content);
  no_longer = omega (arith, length-torn_from area.written 0 area.content);
  others = λ k l m out. slice_index-torn_from area.written 0 area.content k k m (omega arith) ∙ cond-false _ _ _ (and_left _ _ out);
}

-- so what it leaves of both may be left, and then nothing else
pub restored_image : (leave : Leave) (halves left : Halves) → IsKept halves.a → IsKept halves.b → left ≡ restored leave halves
    → HalvesMayLeave halves (content_of left)
restored_image leave halves left ka kb is =
    subst (λ (h : Halves). HalvesMayLeave halves (content_of h)) (sym is)
    (record { a = left_may_be_left leave halves.a ka; b = left_may_be_left leave halves.b kb })

pub restored_only : (leave : Leave) (halves left : Halves) → left ≡ restored leave halves → Only (content_of left) (HalvesMayLeave left)
restored_only leave halves left is = subst (λ (h : Halves). Only (content_of h) (HalvesMayLeave h)) (sym is)
    (only_settled (left_by leave halves.a) (left_by leave halves.b))
