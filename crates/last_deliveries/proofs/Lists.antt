-- Lists of numbers that grow.
use Rattle.std.proofs.Common.{◌≡◌, ◌⊎◌, ℕ, zero, suc, ◌<◌, ◌≤◌, Bool, true, inl, inr, List, [], ◌∷◌, ◌++◌, length, set, Contains, Some, refl, sym, ap, ◌∙◌, subst, slice_get, slice_index_or, get_or, get_or-set_same, get_or-set_other, arith}
use Rattle.std.proofs.Math.ListN.{length-set}
use Rattle.std.proofs.lemmas.Bool.{cases_eq}
use Rattle.std.proofs.lemmas.Option.{slice_get-get_or, get_or_from_slice_get, slice_get_within}
use Rattle.hb_wire.specs.declared.post.Post.{Post}
use Rattle.last_deliveries.specs.Listing.{no_numbers, IsKept, AreListed}

pub IsKept-refl : (lists : List (List ℕ)) → IsKept lists lists
IsKept-refl lists = record { count = refl; each = λ i k has. has }

-- one list has more than before
pub IsKept-set : (lists : List (List ℕ)) (number : ℕ) (old new : List ℕ) → number < length lists → old ≡ get_or lists number old → ((k : ℕ) → Contains old k → Contains new k)
    → IsKept lists (set lists number new)
IsKept-set lists number old new within is kept = record {
  count = length-set lists number new;
  each = λ i k has. elim (cases_eq i number) [
    | inl same ↦
        let stands : slice_get lists number ≡ Some old = slice_get-get_or lists number old within ∙ ap (λ (xs : List ℕ). Some xs) (sym is) in
        let before : get_or lists i no_numbers ≡ old = ap (λ (j : ℕ). get_or lists j no_numbers) same ∙ get_or_from_slice_get lists number old no_numbers stands in
        let after : get_or (set lists number new) i no_numbers ≡ new =
        ap (λ (j : ℕ). get_or (set lists number new) j no_numbers) same ∙ get_or-set_same lists number new no_numbers within in
        subst (λ (xs : List ℕ). Contains xs k) (sym after) (kept k (subst (λ (xs : List ℕ). Contains xs k) before has))
    | inr other ↦ subst (λ (xs : List ℕ). Contains xs k) (sym (get_or-set_other lists number i new no_numbers other)) has
  ];
}

pushed_at : (posts : List Post) (post p : Post) (k : ℕ) → slice_get (posts ++ post ∷ []) k ≡ Some p → (slice_get posts k ≡ Some p) ⊎ ((k ≡ length posts) × (post ≡ p))
pushed_at [] post p zero stands = inr (refl, cc (stands))
pushed_at [] post p (suc k) stands = absurd (cc (stands))
pushed_at (q ∷ posts) post p zero stands = inl stands
pushed_at (q ∷ posts) post p (suc k) stands = elim (pushed_at posts post p k stands) [
  | inl there ↦ inl there
  | inr last ↦ inr (ap suc last.0, last.1)
]

-- lists got more, and no post
pub AreListed-kept : (leads : Post → ℕ → Bool) (posts : List Post) (first : ℕ) (old new : List (List ℕ)) → IsKept old new → AreListed leads posts first old → AreListed leads posts first new
AreListed-kept leads posts first old new kept listed =
    record { count = kept.count ∙ listed.count; each = λ i k post from stands lead. kept.each i k (listed.each i k post from stands lead) }

-- a post more, and its number stands in the lists to which it leads
pub AreListed-more : (leads : Post → ℕ → Bool) (posts : List Post) (first : ℕ) (post : Post) (old new : List (List ℕ)) → IsKept old new
    → ((i : ℕ) → leads post i ≡ true → Contains (slice_index_or new i no_numbers) (length posts)) → AreListed leads posts first old → AreListed leads (posts ++ post ∷ []) first new
AreListed-more leads posts first post old new kept added listed = record {
  count = kept.count ∙ listed.count;
  each = λ i k p from stands lead. elim (pushed_at posts post p k stands) [
    | inl there ↦ kept.each i k (listed.each i k p from there lead)
    | inr last ↦
        subst (λ (j : ℕ). Contains (slice_index_or new i no_numbers) j) (sym last.0) (added i (subst (λ (q : Post). leads q i ≡ true) (sym last.1) lead))
  ];
}

-- none of the posts is new
pub AreListed-old : (leads : Post → ℕ → Bool) (posts : List Post) (first : ℕ) (lists : List (List ℕ)) → length posts ≤ first → length lists ≡ 256 → AreListed leads posts first lists
AreListed-old leads posts first lists past count =
    record { count = count; each = λ i k post from stands lead. absurd (omega (arith, slice_get_within posts k post stands, past, from)) }
