-- What a half keeps, through a write and at a sync.
use Rattle.std.proofs.Common.{◌≡◌, ◌≤◌, ◌<◌, ◌+◌, ◌==◌, ◌⊎◌, inl, inr, ⊎_elim, length, take, ℕ, List, [], ◌∷◌, ◌++◌, false, max, refl, sym, ap, ◌∙◌, arith}
use Rattle.std.proofs.lemmas.Bool.{cases_lt, or_parts, or_from, and_from, le-leb, lt-ltb, both_ways}
use Rattle.std.proofs.lemmas.List.{ext_get_or, places}
use Rattle.disk_model.specs.declared.span.Span.{Span}
use Rattle.disk_model.specs.Disk.{overwritten}
use Rattle.disk_model.specs.Area.{AreaState, IsKept, is_in, is_written, after_write}
use Rattle.disk_model.proofs.Lists.{length-overwritten, overwritten_below, overwritten_above}

-- an offset outside of ranges and one more is outside of these ranges, and of that one
pub outside_more : (spans : List Span) (span : Span) (k : ℕ) → is_written (spans ++ span ∷ []) k ≡ false → (is_written spans k ≡ false) × (is_in span k ≡ false)
outside_more [] span k h = (refl, (or_parts (is_in span k) false h).0)
outside_more (first ∷ spans) span k h =
    let parts = or_parts (is_in first k) (is_written (spans ++ span ∷ []) k) h in
    let rest = outside_more spans span k parts.1 in
    (or_from (is_in first k) (is_written spans k) parts.0 rest.0, rest.1)

-- an offset outside of ranges stays outside where one more is written elsewhere
pub outside_push : (spans : List Span) (span : Span) (k : ℕ) → is_written spans k ≡ false → is_in span k ≡ false → is_written (spans ++ span ∷ []) k ≡ false
outside_push [] span k h out = or_from (is_in span k) false out refl
outside_push (first ∷ spans) span k h out =
    let parts = or_parts (is_in first k) (is_written spans k) h in
    or_from (is_in first k) (is_written (spans ++ span ∷ []) k) parts.0 (outside_push spans span k parts.1 out)

-- an offset outside of a range lies before it or behind it
pub outside_span : (at n k : ℕ) → is_in (record { at = at; len = n }) k ≡ false → (k < at) ⊎ (at + n ≤ k)
outside_span at n k h =
    ⊎_elim (λ l. inl l) (λ from. ⊎_elim (λ short. absurd (both_ways _ h (and_from _ _ (le-leb at k from) (lt-ltb k (at + n) short))))
    (λ past. inr past) (cases_lt k (at + n))) (cases_lt k at)

pub write_keeps : (area : AreaState) (at : ℕ) (bytes : List ℕ) → IsKept area → at ≤ length area.content
    → IsKept (record {
      content = overwritten at bytes area.content;
      synced = area.synced;
      written =
          area.written ++ record { at = at; len = length bytes } ∷ [];
      least = area.least;
      most = max area.most (at + length bytes);
    })
write_keeps area at bytes kept h =
    let long = length-overwritten at bytes area.content h in
    record {
      least_content = omega (arith, kept.least_content, long);
      content_most = omega (arith, kept.content_most, long);
      least_synced = kept.least_synced;
      synced_most = omega (arith, kept.synced_most);
      agree = λ k l out.
          let parts = outside_more area.written (record { at = at; len = length bytes }) k out in
          kept.agree k l parts.0 ∙ sym (⊎_elim (overwritten_below at bytes area.content k h) (overwritten_above at bytes area.content k h)
          (outside_span at (length bytes) k parts.1));
    }

-- the same, once the four fields are known to be these
pub write_made : (area : AreaState) (at : ℕ) (bytes : List ℕ) (content synced : List ℕ) (written : List Span) (most : ℕ) → IsKept area
    → at ≤ length area.content
    → content ≡ overwritten at bytes area.content → synced ≡ area.synced → written ≡ area.written ++ record { at = at; len = length bytes } ∷ []
    → most ≡ max area.most (at + length bytes)
    → IsKept (record { content = content; synced = synced; written = written; least = area.least; most = most })
write_made area at bytes content synced written most kept h e1 e2 e3 e4 = rw (e1, e2, e3, e4) (write_keeps area at bytes kept h)

-- the front of the bytes that are written is what is written over the front
pub written_front : (at len end : ℕ) (bytes old made : List ℕ) → made ≡ overwritten at bytes old → at ≤ len → len ≤ length old → end ≡ max len (at + length bytes)
    → take end made ≡ overwritten at bytes (take len old)
written_front at len end bytes old made e h fits is =
    ap (λ (xs : List ℕ). take end xs) e
    ∙ ext_get_or 0 _ _ (let g : length (take end (overwritten at bytes old)) ≡ length (overwritten at bytes (take len old)) = grind (arith, places) in g)
    (λ k l. grind (arith, places))

-- after a write of some bytes, field by field
pub write_is : (at : ℕ) (bytes content synced : List ℕ) (written : List Span) (most : ℕ) (area : AreaState) → (length bytes == 0) ≡ false
    → content ≡ overwritten at bytes area.content → synced ≡ area.synced → written ≡ area.written ++ record { at = at; len = length bytes } ∷ []
    → most ≡ max area.most (at + length bytes)
    → record { content = content; synced = synced; written = written; least = area.least; most = most } ≡ after_write at bytes area
write_is at [] content synced written most area some e1 e2 e3 e4 = absurd (cc (some))
write_is at (byte ∷ bytes) content synced written most area some e1 e2 e3 e4 = rw (e1, e2, e3, e4) refl
